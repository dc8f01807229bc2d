-- The first byte of a slot of an image says whether its event is held.
use mathlib.Core.Path.{sym, ap, ◌∙◌}
use Prim.Native.Nat.{ℕ}
use native.Mathlib.Omega.{arith}
use Rattle.interface_display.specs.declared.packet.EventPacket.{EventPacket}
use Rattle.desk_follower.specs.Held.{held_for}
use Rattle.bytes_take.proofs.Slot.{slot_empty, slot_full, slot_low}
use Rattle.bytes_take.proofs.turn.number_at.Goals as goal

pub returns-then-image-k-eq0 : goal.returns-then-image-k-eq0
returns-then-image-k-eq0 c = λ s h i e.
    let x = c.args in
    sym (ap (λ (p : EventPacket). p.number)
    (ap (held_for h) e ∙ slot_empty x.image.now s h i x.k c.requires c.if-image-k-eq0.true))

pub returns-then-event-gt4294967295 : goal.returns-then-event-gt4294967295
returns-then-event-gt4294967295 c = λ s h i e.
    let x = c.args in
    absurd (omega (arith, e, c.if-event-gt4294967295.true, slot_low x.image.now s h i x.k c.requires c.if-image-k-eq0.false))

pub returns : goal.returns
returns c = λ s h i e.
    let x = c.args in
    sym (ap (λ (m : ℕ). (held_for h m).number) e
    ∙ (slot_full x.image.now s h i x.k c.requires c.if-image-k-eq0.false ∙ sym e))
