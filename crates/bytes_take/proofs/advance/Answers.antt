-- With nothing held none follows; else the turns are those of the definition, and the slots that are left move up.
use Rattle.std.specs.Prelude.{None, Option, Some}
use mathlib.Core.Path.{◌≡◌, refl, sym, ap, subst, ◌∙◌}
use Prim.Native.Nat.{◌-◌, ◌≤◌}
use native.Mathlib.Omega.{arith}
use Rattle.desk_follower.specs.Held.{greatest, above}
use Rattle.bytes_groups.proofs.Places.{sets_all}
use Rattle.bytes_follower_image.specs.Image.{lost_bytes, showing_bytes, follower_bytes}
use Rattle.bytes_take.specs.Turned.{turned, outcome}
use Rattle.interface_display.specs.declared.packet.Picture.{Picture}
use Rattle.bytes_take.proofs.Images.{level_shown}
use Rattle.bytes_take.proofs.Level.{level_outcome}
use Rattle.bytes_take.proofs.Slot.{all_empty}
use Rattle.bytes_take.proofs.Turns.{Grows, turned_grows}
use Rattle.bytes_take.proofs.After.{shown_after}
use Rattle.bytes_take.proofs.advance.Goals as goal

pub returns-then-none_held : goal.returns-then-none_held
returns-then-none_held c = λ h i.
    let x = c.args in
    let b = x.image.now in
    let m = x.p.number in
    let d = x.p.display in
    let z = all_empty b x.s h i (sym c.none_held.ensures ∙ c.if-none_held.true) in
    let f = greatest m 8 h in
    c.put_shown.ensures
    ∙ (level_shown b x.s m d (i.bytes ∙ ap (showing_bytes x.s) z)
    ∙ sym (ap follower_bytes ((λ j. outcome f (turned 8 m d (z j)) m (above m 8 (z j))) ∙ level_outcome f m d)))

pub returns-in-None : goal.returns-in-None
returns-in-None c = λ h i.
    let x = c.args in
    let b = x.image.now in
    let m = x.p.number in
    let e : turned 8 m x.p.display h ≡ None = sym (c.in_turn.ensures.value x.s h i refl) ∙ c.in-None.is in
    let f = c.greatest-floor.ensures x.s h i refl in
    c.write_lost.ensures
    ∙ (sets_all (lost_bytes c.greatest-floor.result) b (sym c.told-image)
    ∙ (ap lost_bytes f ∙ sym (ap follower_bytes (ap (λ (o : Option Picture). outcome (greatest m 8 h) o m (above m 8 h)) e))))

pub returns-in-Some : goal.returns-in-Some
returns-in-Some c = λ h i.
    let x = c.args in
    let b = x.image.now in
    let m = x.p.number in
    let q = c.in-Some.q in
    let e : turned 8 m x.p.display h ≡ Some q = sym (c.in_turn.ensures.value x.s h i refl) ∙ c.in-Some.is in
    let u : m ≤ q.number = subst (λ (o : Option Picture). Grows m o) e (turned_grows 8 m x.p.display h) in
    let l = c.requires in
    shown_after b x.s h i m q l u (q.number - x.s.number) _ _ (omega (arith, l, u)) refl c.show_after.ensures c.told-image
    ∙ sym (ap follower_bytes (ap (λ (o : Option Picture). outcome (greatest m 8 h) o m (above m 8 h)) e))
