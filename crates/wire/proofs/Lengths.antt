-- A well-formed packet takes at most 64 bytes: a number takes at most five, mV and mA three each, and there are at most four notices
-- and 16 ports.
-- Assumes nothing.
use Rattle.std.specs.Prelude.{None, Option, Some}
use mathlib.Core.Path.{◌≡◌}
use mathlib.Core.Bool.{true}
use mathlib.Core.List.{List, [], ◌∷◌, ◌++◌}
use Prim.Native.Nat.{ℕ, ◌*◌, ◌≤◌, ◌<◌}
use native.Mathlib.Omega.{arith}
use lib.Dec.{leb, ltb}
use lib.ListN.{length, length-append}
use borrow.Author.Tests.{leb-true}
use Rattle.power_policy_interface.specs.Capability.{consumer_flags_byte, provider_flags_byte, capability_fits}
use Rattle.power_policy_interface.specs.declared.capability.PowerCapability.{PowerCapability}
use Rattle.power_policy_interface.specs.declared.service.event.Event.{Event}
use Rattle.interface_display.specs.Notices.{listed, length_of, padded}
use Rattle.interface_display.specs.Providers.{len}
use Rattle.interface_display.specs.declared.AvailableConsumer.{AvailableConsumer}
use Rattle.interface_display.specs.declared.packet.EventPacket.{EventPacket}
use Rattle.interface_display.specs.declared.packet.Packet.{Packet}
use Rattle.interface_display.specs.declared.packet.Picture.{Picture}
use Rattle.interface_display.proofs.Count.{ones_le}
use Rattle.interface_display.proofs.Four.{counted, at_most_four}
use Rattle.wire.specs.Number.{leb128}
use Rattle.wire.specs.Bytes.{capability_bytes, contract_bytes, notice_bytes, all_bytes, ports_bytes, consumer_bytes, event_bytes, picture_bytes, packet_bytes}
use Rattle.wire.specs.WellFormed.{contract_fits, notice_fits, notices_fit, consumer_fits, event_fits, picture_fits, well_formed}
use Rattle.std.proofs.lemmas.Bool.{and_parts}
use Rattle.wire.proofs.Stores.{length_to, length_short}
use Rattle.wire.proofs.Tracked.{count_ports}

capability_length : (c : PowerCapability) → capability_fits c ≡ true → length (capability_bytes c) ≤ 6
unfolding capability_bytes
capability_length c h =
    let v = leb-true c.voltage_mv 65535 (and_parts (leb c.voltage_mv 65535) (leb c.current_ma 65535) h).0 in
    let m = leb-true c.current_ma 65535 (and_parts (leb c.voltage_mv 65535) (leb c.current_ma 65535) h).1 in
    let v1 : c.voltage_mv < 65536 = omega arith in
    let m1 : c.current_ma < 65536 = omega arith in
    rw length-append (omega (arith, length_short c.voltage_mv v1, length_short c.current_ma m1))

contract_length : (port : ℕ) (c : PowerCapability) (b : ℕ) → contract_fits port c ≡ true → length (contract_bytes port c b) ≤ 8
unfolding contract_bytes
contract_length port c b h =
    let k = capability_length c (and_parts (leb port 15) (capability_fits c) h).1 in
    omega (arith, length-append (capability_bytes c) (b ∷ []))

notice_length : (e : Event) → notice_fits e ≡ true → length (notice_bytes e) ≤ 9
unfolding notice_bytes
notice_length (Event.ConsumerDisconnected port d) h = omega arith
notice_length (Event.ConsumerConnected port c) h = omega (arith, contract_length port c.capability (consumer_flags_byte c.flags) h)
notice_length (Event.ProviderDisconnected port) h = omega arith
notice_length (Event.ProviderConnected port c) h = omega (arith, contract_length port c.capability (provider_flags_byte c.flags) h)
notice_length (Event.Unconstrained u) h = omega arith

all_length : (l : List Event) → notices_fit l ≡ true → length (all_bytes l) ≤ 9 * length l
all_length [] h = omega arith
all_length (e ∷ l) h =
    let a = notice_length e (and_parts (notice_fits e) (notices_fit l) h).0 in
    let b = all_length l (and_parts (notice_fits e) (notices_fit l) h).1 in
    omega (arith, length-append (notice_bytes e) (all_bytes l))

event_length : (p : EventPacket) → event_fits p ≡ true → length (event_bytes p) ≤ 64
unfolding event_bytes event_fits
event_length p h =
    let h1 = (and_parts (ltb 0 p.number) _ h).1 in
    let h2 = (and_parts (leb p.number 4294967295) _ h1).1 in
    let h3 = (and_parts (leb p.answer 10) _ h2).1 in
    let h4 = (and_parts (leb p.orders 35) _ h3).1 in
    let g = (and_parts (padded p.notices) _ h4).0 in
    let f = (and_parts (padded p.notices) (notices_fit (listed p.notices)) h4).1 in
    let tail = length_of p.notices ∷ all_bytes (listed p.notices) in
    omega (arith, length-append (leb128 p.number) (p.answer ∷ (leb128 p.orders ++ tail)), length-append (leb128 p.orders) tail, length_to p.number, length_to p.orders, all_length (listed p.notices) f, at_most_four p.notices (counted p.notices g).1.0)

consumer_length : (c : Option AvailableConsumer) → consumer_fits c ≡ true → length (consumer_bytes c) ≤ 9
unfolding consumer_bytes
consumer_length None h = omega arith
consumer_length (Some c) h =
    omega (arith, contract_length c.psu c.consumer_power_capability.capability (consumer_flags_byte c.consumer_power_capability.flags) h)

ports_length : (m : ℕ) → length (ports_bytes m) ≤ 16
unfolding ports_bytes
ports_length m = rw (count_ports 16 0 m) (ones_le m 16)

picture_length : (p : Picture) → picture_fits p ≡ true → length (picture_bytes p) ≤ 64
unfolding picture_bytes picture_fits
picture_length p h =
    let d = p.display in
    let h1 = (and_parts (leb p.number 4294967295) _ h).1 in
    let b = (and_parts (consumer_fits d.consumer) _ h1).0 in
    let tail = len d.providers ∷ ports_bytes d.providers.mask in
    let long : length tail ≤ 17 = omega (arith, ports_length d.providers.mask) in
    picture-sum (leb128 p.number) (consumer_bytes d.consumer) _ _ tail (length_to p.number) (consumer_length d.consumer b) long
  where
    picture-sum : (a b : List ℕ) (x y : ℕ) (t : List ℕ) → length a ≤ 5 → length b ≤ 9 → length t ≤ 17 → length (2 ∷ (a ++ (b ++ (x ∷ (y ∷ t))))) ≤ 64
    picture-sum a b x y t ha hb ht = omega (arith, length-append a (b ++ (x ∷ (y ∷ t))), length-append b (x ∷ (y ∷ t)))

pub packet_length : (p : Packet) → well_formed p ≡ true → length (packet_bytes p) ≤ 64
packet_length (Packet.Event p) h = event_length p h
packet_length (Packet.Picture p) h = picture_length p h
