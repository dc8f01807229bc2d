-- Slot by slot, the greatest so far.
use mathlib.Core.Path.{◌≡◌, sym, ap, ◌∙◌}
use Prim.Native.Nat.{ℕ, ◌+◌, max}
use native.Mathlib.Omega.{arith}
use Rattle.desk_follower.specs.Held.{held_for}
use Rattle.desk_follower.specs.Follower.{showing}
use Rattle.bytes_follower_image.proofs.OneImage.{fits}
use Rattle.bytes_take.proofs.Turns.{most_of, most_start, most_next, most_greatest}
use Rattle.bytes_take.proofs.turn.greatest.Goals as goal

pub loop-k-init : goal.loop-k-init
loop-k-init c = λ s h i e. sym (most_start c.args.number (c.args.n + 2) h)

pub loop-k-preserved : goal.loop-k-preserved
loop-k-preserved c =
    let x = c.args in
    let l = c.loop-k in
    λ s h i e.
    let a : c.number_at.result ≡ (held_for h (x.n + 2 + l.k)).number = c.number_at.ensures s h i (omega (arith, e)) in
    c.max-most.ensures ∙ ((λ j. max (l.invariant s h i e j) (a j)) ∙ sym (most_next x.number (x.n + 2) l.k h))

pub returns : goal.returns
returns c = λ s h i e.
    let x = c.args in
    let l = c.loop-k in
    let k : l.k ≡ 7 = omega (arith, c.loop-k-test.false) in
    let w = (fits (showing s h) i.fits).formed.1 in
    l.invariant s h i e ∙ (ap (λ (j : ℕ). most_of x.number (x.n + 2) j h) k ∙ (ap (λ (m : ℕ). most_of x.number (m + 2) 7 h) (sym e) ∙ most_greatest s.number x.number h w))
