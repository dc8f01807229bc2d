-- The slot of an image is read as the packet held; any slot as none or one of its event.
use Rattle.std.specs.Prelude.{Option, Some}
use Rattle.std.specs.Option.{unwrap_or}
use mathlib.Core.Path.{◌≡◌, sym, ap, subst, ◌∙◌}
use mathlib.Core.List.{List}
use Prim.Native.Nat.{ℕ, ◌+◌, ◌*◌}
use native.Mathlib.Nat.{add-sub_cancel_left}
use lib.ListN.{take, drop}
use Rattle.interface_display.specs.declared.packet.EventPacket.{EventPacket}
use Rattle.desk_follower.specs.Held.{held_for}
use Rattle.bytes_follower_image.specs.Slot.{slot_from}
use Rattle.bytes_take.proofs.After.{slot_there, slot_or_none}
use Rattle.bytes_take.proofs.turn.held_at.Goals as goal

pub returns-clause-value : goal.returns-clause-value
returns-clause-value c =
    let x = c.args in
    let a : ℕ = 17 + x.k * 32 in
    let part : List ℕ = take 32 (drop a x.image.now) in
    let e : c.read.result ≡ slot_from x.event part = rw (add-sub_cancel_left a 32) at c.read.ensures in
    λ s h i q.
    let y = subst (λ (m : ℕ). slot_from m part ≡ Some (held_for h m)) (sym q) (slot_there x.image.now s h x.k i c.requires) in
    c.unwrap_or.ensures ∙ ap (λ (o : Option EventPacket). unwrap_or o c.no_packet.result) (e ∙ y)

pub returns-clause-number_value : goal.returns-clause-number_value
returns-clause-number_value c =
    let x = c.args in
    let a : ℕ = 17 + x.k * 32 in
    let part : List ℕ = take 32 (drop a x.image.now) in
    let e : c.read.result ≡ slot_from x.event part = rw (add-sub_cancel_left a 32) at c.read.ensures in
    slot_or_none x.event part c.unwrap_or.result c.no_packet.result c.read.result (sym e) c.no_packet.ensures c.unwrap_or.ensures
