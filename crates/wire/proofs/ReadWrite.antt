-- Reading what was written: each field is read back from its own bytes, and the rest is what follows them.
-- Assumes nothing.
use mathlib.Core.Path.{◌≡◌, refl, ap, ◌∙◌}
use mathlib.Core.Bool.{true}
use mathlib.Core.List.{List, [], ◌∷◌, ◌++◌, append_assoc, append-nil}
use Prim.Native.Nat.{ℕ, ◌≤◌}
use native.Mathlib.Omega.{arith}
use lib.Dec.{leb, ltb}
use lib.ListN.{length}
use borrow.Author.Tests.{le-leb, leb-true}
use Rattle.power_policy_interface.specs.Capability.{bit, consumer_flags_byte, provider_flags_byte, disconnect_byte, capability_fits}
use Rattle.power_policy_interface.specs.declared.capability.PowerCapability.{PowerCapability}
use Rattle.power_policy_interface.specs.declared.capability.ConsumerFlags.{ConsumerFlags}
use Rattle.power_policy_interface.specs.declared.service.UnconstrainedState.{UnconstrainedState}
use Rattle.power_policy_interface.specs.declared.service.event.Event.{Event}
use Rattle.power_policy_interface.proofs.OneByte.{consumer_read_write, provider_read_write, reason_read_write}
use Rattle.std.proofs.lemmas.Bool.{and_parts}
use Rattle.interface_display.specs.Notices.{empty, pushed, listed, length_of, padded}
use Rattle.interface_display.specs.declared.notices.Notices.{Notices}
use Rattle.interface_display.specs.declared.packet.EventPacket.{EventPacket}
use Rattle.interface_display.specs.declared.packet.Packet.{Packet}
use Rattle.interface_display.proofs.Four.{counted, at_most_four, rebuilt, padded_rebuilt}
use Rattle.wire.specs.Number.{leb128}
use Rattle.wire.specs.Parser.{parsed, field}
use Rattle.wire.specs.Packet.{capability, contract, consumer, unconstrained, consumer_disconnected, consumer_connected, provider_disconnected, provider_connected, unconstrained_changed, notice_of, notice, notices, event_notices, event_after, event, packet_of, packet}
use Rattle.wire.specs.Bytes.{capability_bytes, contract_bytes, unconstrained_bytes, notice_bytes, all_bytes, event_bytes}
use Rattle.wire.specs.WellFormed.{contract_fits, notice_fits, notices_fit, event_fits}
use Rattle.wire.proofs.OneNumber.{number_back}
use Rattle.power_policy_interface.proofs.Bits.{bit_tested, bit_back}

pub field_back : (most b : ℕ) (r : List ℕ) → leb b most ≡ true → field most (b ∷ r) ≡ parsed b r
unfolding field
field_back most b r e = rw e

capability_back : (c : PowerCapability) (r : List ℕ) → capability_fits c ≡ true → capability (capability_bytes c ++ r) ≡ parsed c r
unfolding capability capability_bytes
capability_back c r e =
    let v = leb-true c.voltage_mv 65535 (and_parts (leb c.voltage_mv 65535) (leb c.current_ma 65535) e).0 in
    let m = leb-true c.current_ma 65535 (and_parts (leb c.voltage_mv 65535) (leb c.current_ma 65535) e).1 in
    let v' : c.voltage_mv ≤ 4294967295 = omega arith in
    let m' : c.current_ma ≤ 4294967295 = omega arith in
    rw (append_assoc (leb128 c.voltage_mv) (leb128 c.current_ma) r, number_back 65535 c.voltage_mv (leb128 c.current_ma ++ r) v v', number_back 65535 c.current_ma r m m')

contract_back : (port : ℕ) (c : PowerCapability) (b : ℕ) (r : List ℕ) → contract_fits port c ≡ true
    → contract (contract_bytes port c b ++ r) ≡ parsed (record { port = port; power = c; flags = b }) r
unfolding contract contract_bytes
contract_back port c b r e =
    let p = (and_parts (leb port 15) (capability_fits c) e).0 in
    let q = (and_parts (leb port 15) (capability_fits c) e).1 in
    rw (field_back 15 port ((capability_bytes c ++ (b ∷ [])) ++ r) p, append_assoc (capability_bytes c) (b ∷ []) r, capability_back c (b ∷ r) q)

pub consumer_back : (port : ℕ) (c : PowerCapability) (r : List ℕ) → contract_fits port c ≡ true → (f : ConsumerFlags)
    → consumer (contract_bytes port c (consumer_flags_byte f) ++ r)
    ≡ parsed (record { psu = port; consumer_power_capability = record { capability = c; flags = f } }) r
unfolding consumer
consumer_back port c r e f = rw (contract_back port c (consumer_flags_byte f) r e, consumer_read_write f)

pub unconstrained_back : (u : UnconstrainedState) (r : List ℕ) → leb u.available 16 ≡ true → unconstrained (unconstrained_bytes u ++ r) ≡ parsed u r
unfolding unconstrained
unconstrained_back u r e =
    rw (field_back 1 (bit u.unconstrained) (u.available ∷ r) (bit_tested u.unconstrained), field_back 16 u.available r e, bit_back u.unconstrained)

pub notice_back : (e : Event) (r : List ℕ) → notice_fits e ≡ true → notice (notice_bytes e ++ r) ≡ parsed e r
unfolding notice notice_of notice_bytes consumer_disconnected consumer_connected provider_disconnected provider_connected unconstrained_changed
notice_back (Event.ConsumerDisconnected port d) r h = rw (field_back 15 port (disconnect_byte d ∷ r) h, reason_read_write d)
notice_back (Event.ConsumerConnected port c) r h = rw (consumer_back port c.capability r h c.flags)
notice_back (Event.ProviderDisconnected port) r h = rw (field_back 15 port r h)
notice_back (Event.ProviderConnected port c) r h =
    rw (contract_back port c.capability (provider_flags_byte c.flags) r h, provider_read_write c.flags)
notice_back (Event.Unconstrained u) r h = rw (unconstrained_back u r h)

-- the notices that are read after those before them

unfoldable pub appended : Notices → List Event → Notices
appended n [] = n
appended n (e ∷ l) = appended (pushed n e) l

notices_back : (l : List Event) (n : Notices) (r : List ℕ) → notices_fit l ≡ true → notices (length l) n (all_bytes l ++ r) ≡ parsed (appended n l) r
unfolding appended
notices_back [] n r h = refl
notices_back (e ∷ l) n r h =
    rw (append_assoc (notice_bytes e) (all_bytes l) r, notice_back e (all_bytes l ++ r) (and_parts (notice_fits e) (notices_fit l) h).0) (notices_back l (pushed n e) r (and_parts (notice_fits e) (notices_fit l) h).1)

pub appended_rebuilt : (l : List Event) → length l ≤ 4 → appended empty l ≡ rebuilt l
unfolding appended
appended_rebuilt [] h = refl
appended_rebuilt (a ∷ []) h = refl
appended_rebuilt (a ∷ b ∷ []) h = refl
appended_rebuilt (a ∷ b ∷ c ∷ []) h = refl
appended_rebuilt (a ∷ b ∷ c ∷ d ∷ []) h = refl
appended_rebuilt (a ∷ b ∷ c ∷ d ∷ e ∷ l) h = absurd (omega arith)

all_listed : (n : Notices) → padded n ≡ true → appended empty (listed n) ≡ n
all_listed n h = appended_rebuilt (listed n) (at_most_four n (counted n h).1.0) ∙ padded_rebuilt n h

count_fits : (n : Notices) → padded n ≡ true → leb (length_of n) 4 ≡ true
count_fits n h = le-leb (length_of n) 4 (at_most_four n (counted n h).1.0)

-- an event packet

pub event_read_write : (p : EventPacket) → event_fits p ≡ true → packet (event_bytes p) ≡ parsed (Packet.Event p) []
unfolding event_fits event_bytes packet packet_of event event_after event_notices
event_read_write p h =
    let a = (and_parts (ltb 0 p.number) _ h).0 in
    let h1 = (and_parts (ltb 0 p.number) _ h).1 in
    let b = leb-true p.number 4294967295 (and_parts (leb p.number 4294967295) _ h1).0 in
    let h2 = (and_parts (leb p.number 4294967295) _ h1).1 in
    let c = (and_parts (leb p.answer 10) _ h2).0 in
    let h3 = (and_parts (leb p.answer 10) _ h2).1 in
    let d = (and_parts (leb p.orders 35) _ h3).0 in
    let h4 = (and_parts (leb p.orders 35) _ h3).1 in
    let g = (and_parts (padded p.notices) _ h4).0 in
    let f = (and_parts (padded p.notices) (notices_fit (listed p.notices)) h4).1 in
    let o : p.orders ≤ 4294967295 = omega (arith, leb-true p.orders 35 d) in
    let n = p.notices in
    let tail = length_of n ∷ all_bytes (listed n) in
    let all : notices (length_of n) empty (all_bytes (listed n)) ≡ parsed n [] =
    rw (← append-nil (all_bytes (listed n))) (notices_back (listed n) empty [] f ∙ ap (λ (m : Notices). parsed m []) (all_listed n g)) in
    rw (number_back 4294967295 p.number (p.answer ∷ (leb128 p.orders ++ tail)) b b, a, field_back 10 p.answer (leb128 p.orders ++ tail) c, number_back 4294967295 p.orders tail o o, d, field_back 4 (length_of n) (all_bytes (listed n)) (count_fits n g), all)
