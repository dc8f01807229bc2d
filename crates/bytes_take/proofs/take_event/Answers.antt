-- An old packet changes nothing; beyond what is held its number is the floor; the others go into their slot.
use mathlib.Core.Path.{◌≡◌, sym, ap, ◌∙◌}
use Prim.Native.Nat.{ℕ, ◌+◌, ◌*◌, ◌-◌, ◌<◌}
use native.Mathlib.Omega.{arith}
use Rattle.desk_follower.specs.Follower.{showing}
use Rattle.desk_follower.proofs.Laws.{event_old}
use Rattle.bytes_groups.proofs.Places.{sets_all}
use Rattle.bytes_follower_image.specs.Image.{lost_bytes, follower_bytes}
use Rattle.bytes_follower_image.proofs.OneImage.{fits}
use Rattle.bytes_take.proofs.Level.{beyond}
use Rattle.bytes_take.proofs.Slot.{slot_taken}
use Rattle.bytes_take.proofs.take_event.Goals as goal

pub returns-then-e-s : goal.returns-then-e-s
returns-then-e-s c = λ h i.
    let x = c.args in
    i.bytes ∙ sym (ap follower_bytes (event_old x.s h x.e c.if-e-s.true))

pub returns-then-ahead-gt-WINDOW : goal.returns-then-ahead-gt-WINDOW
returns-then-ahead-gt-WINDOW c = λ h i.
    let x = c.args in
    let l : x.s.number + 8 < x.e.number = omega (arith, c.if-ahead-gt-WINDOW.true, c.if-e-s.false) in
    c.write_lost.ensures
    ∙ (sets_all (lost_bytes x.e.number) x.image.now (sym c.told-image)
    ∙ sym (ap follower_bytes (beyond x.s h x.e (fits (showing x.s h) i.fits).formed.1 l)))

pub returns : goal.returns
returns c = λ h i.
    let x = c.args in
    let k : ℕ = x.e.number - x.s.number - 2 in
    let a : 17 + 32 * k ≡ 17 + k * 32 = omega arith in
    let l = c.if-e-s.false in
    let m = c.if-ahead-gt-WINDOW.false in
    let o = c.if-ahead-eq1.false in
    rw a at c.hold.ensures ∙ slot_taken x.image.now x.s h x.e k i (omega (arith, m)) (omega (arith, l, m, o))
