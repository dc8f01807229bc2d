-- Each turn is one of the definition; when there is no slot left, no later event is held.
use mathlib.Core.Path.{◌≡◌, sym, ap, ◌∙◌}
use Prim.Native.Nat.{ℕ, suc, ◌+◌, ◌-◌}
use native.Mathlib.Omega.{arith}
use Rattle.interface_display.specs.Notices.{all_applied}
use Rattle.interface_display.specs.declared.packet.EventPacket.{EventPacket}
use Rattle.desk_follower.specs.Held.{held_for}
use Rattle.desk_follower.specs.Follower.{showing}
use Rattle.bytes_follower_image.proofs.OneImage.{fits}
use Rattle.bytes_take.specs.Turned.{turned}
use Rattle.bytes_take.proofs.Turns.{turned_end, turned_stop, turned_error, turned_next, within_most}
use Rattle.bytes_take.proofs.turn.in_turn.Goals as goal

pub loop-k-preserved : goal.loop-k-preserved
loop-k-preserved c =
    let x = c.args in
    let l = c.loop-k in
    let g = c.held_at-q in
    let y = g.ensures.number_value c.if-q-eq0.false in (
      omega (arith, y, l.invariant.0),
      omega (arith, y, l.invariant.1),
      λ s h i e.
          let q = g.ensures.value s h i (omega (arith, e, l.invariant.0)) in
          let k : 8 - (l.number - x.p.number) ≡ suc (8 - (l.number + 1 - x.p.number)) =
          omega (arith, l.invariant.0, l.invariant.1, c.loop-k-test.true, c.requires) in
          let a : (held_for h (l.number + 1)).number ≡ l.number + 1 = ap (λ (p : EventPacket). p.number) (sym q) ∙ y in
          let z : (held_for h (l.number + 1)).answer ≡ 0 = ap (λ (p : EventPacket). p.answer) (sym q) ∙ c.if-q-ne0.false in
          let f : 8 - (l.number + 1 - x.p.number) ≡ 8 - (g.result.number - x.p.number) = omega (arith, y) in
          let d : all_applied (held_for h (l.number + 1)).notices l.display ≡ c.apply-display.result =
          ap (λ (p : EventPacket). all_applied p.notices l.display) (sym q) ∙ sym c.apply-display.ensures in
          l.invariant.2 s h i e
          ∙ (ap (λ (j : ℕ). turned j l.number l.display h) k
          ∙ (turned_next (8 - (l.number + 1 - x.p.number)) l.number l.display h a z ∙ (λ j. turned (f j) (sym y j) (d j) h))),
    )

pub returns-then-q-ne0-clause-value : goal.returns-then-q-ne0-clause-value
returns-then-q-ne0-clause-value c = λ s h i e.
    let x = c.args in
    let l = c.loop-k in
    let g = c.held_at-q in
    let y = g.ensures.number_value c.if-q-eq0.false in
    let q = g.ensures.value s h i (omega (arith, e, l.invariant.0)) in
    let k : 8 - (l.number - x.p.number) ≡ suc (8 - (l.number + 1 - x.p.number)) =
    omega (arith, l.invariant.0, l.invariant.1, c.loop-k-test.true, c.requires) in
    let a : (held_for h (l.number + 1)).number ≡ l.number + 1 = ap (λ (p : EventPacket). p.number) (sym q) ∙ y in
    sym (l.invariant.2 s h i e
    ∙ (ap (λ (j : ℕ). turned j l.number l.display h) k
    ∙ turned_error (8 - (l.number + 1 - x.p.number)) l.number l.display h a (λ z. c.if-q-ne0.true (ap (λ (p : EventPacket). p.answer) q ∙ z))))

pub returns-after-loop-k-clause-value : goal.returns-after-loop-k-clause-value
returns-after-loop-k-clause-value c = λ s h i e.
    let x = c.args in
    let l = c.loop-k in
    let w = within_most s h (fits (showing s h) i.fits).formed.1 in
    sym (l.invariant.2 s h i e
    ∙ turned_end (s.number + 8) h w (8 - (l.number - x.p.number)) l.number l.display (omega (arith, e, c.loop-k-test.false, l.invariant.0)))

pub returns-then-q-eq0-clause-value : goal.returns-then-q-eq0-clause-value
returns-then-q-eq0-clause-value c = λ s h i e.
    let x = c.args in
    let l = c.loop-k in
    let q = c.held_at-q.ensures.value s h i (omega (arith, e, l.invariant.0)) in
    let k : 8 - (l.number - x.p.number) ≡ suc (8 - (l.number + 1 - x.p.number)) =
    omega (arith, l.invariant.0, l.invariant.1, c.loop-k-test.true, c.requires) in
    let a : (held_for h (l.number + 1)).number ≡ 0 = ap (λ (p : EventPacket). p.number) (sym q) ∙ c.if-q-eq0.true in
    sym (l.invariant.2 s h i e
    ∙ (ap (λ (j : ℕ). turned j l.number l.display h) k ∙ turned_stop (8 - (l.number + 1 - x.p.number)) l.number l.display h a))
