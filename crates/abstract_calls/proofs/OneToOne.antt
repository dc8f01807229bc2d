-- Each field of a number that was packed is had back by `/` and `%`, so equal numbers have equal fields.
use Rattle.std.specs.Prelude.{Err, None, Ok, Option, Result, Some}
use mathlib.Core.Path.{◌≡◌, refl, sym, ap, ◌∙◌}
use mathlib.Core.Bool.{Bool, true, false}
use Prim.Native.Nat.{ℕ, ◌+◌, ◌*◌, ◌<◌, ◌≤◌, ◌/◌, ◌%◌}
use native.Mathlib.Nat.{lt_of_le_of_lt, mod-eq_of_lt}
use native.Mathlib.Omega.{arith}
use lib.Dec.{lit<}
use lib.ListN.{get_or}
use mathlib.Core.List.{[], ◌∷◌}
use Rattle.power_policy_interface.specs.Capability.{bit, psu_type_number, consumer_flags_byte, consumer_flags_from, provider_flags_byte, provider_flags_from}
use Rattle.power_policy_interface.specs.Psu.{answer_from, answer_byte, dropped, kind_number, expected_byte, actual_byte, mismatch_of}
use Rattle.power_policy_interface.specs.declared.capability.ConsumerFlags.{ConsumerFlags}
use Rattle.power_policy_interface.specs.declared.capability.ConsumerPowerCapability.{ConsumerPowerCapability}
use Rattle.interface_display.specs.declared.AvailableConsumer.{AvailableConsumer}
use Rattle.power_policy_interface.specs.declared.psu.Mismatch.{Mismatch}
use Rattle.power_policy_interface.specs.declared.capability.ProviderFlags.{ProviderFlags}
use Rattle.power_policy_interface.specs.declared.capability.ProviderPowerCapability.{ProviderPowerCapability}
use Rattle.power_policy_interface.specs.declared.capability.PsuType.{PsuType}
use Rattle.power_policy_interface.specs.declared.psu.Error.{Error}
use Rattle.power_policy_interface.specs.declared.psu.StateKind.{StateKind}
use Rattle.power_policy_interface.specs.declared.service.UnconstrainedState.{UnconstrainedState}
use Rattle.power_policy_interface.proofs.OneByte.{consumer_injective, consumer_read_write, provider_read_write, answer_read_write}
use Rattle.interface_display.specs.Display.{state_number}
use Rattle.interface_display.specs.Providers.{len, ones}
use Rattle.interface_display.specs.declared.Display.{Display}
use Rattle.interface_display.specs.declared.providers.Providers.{Providers}
use Rattle.interface_display.specs.declared.State.{State}
use Rattle.interface_display.proofs.Count.{ones_le}
use Rattle.abstract_policy.specs.declared.order.Order.{Order}
use Rattle.abstract_calls.specs.Numbers.{packed, wait_ms, refused_number, order_number, closed_number, written_number, lost_number, shown_number, consumer_number, tracked_number}
use Rattle.abstract_calls.specs.OneToOne.{OrderFits, MismatchFits, AnswerFits, ConsumerFits, ProvidersFit, DisplayFits, OneToOne}
use Rattle.abstract_calls.proofs.Results.{refused_low, order_low, closed_low, written_low, done_low, packed_low}
use Rattle.power_policy_interface.proofs.Bits.{bit_le, bit_lt}
use Rattle.power_policy_interface.proofs.KindBits.{actual_lt}

-- one field after the other

module _ (w a b c d e : ℕ) (hw : w < 256) (ha : a < 256) where
  field_1 : packed w a b c d e / 256 % 256 ≡ a
  field_1 = omega arith

  module _ (hb : b < 256) where
    field-2 : packed w a b c d e / 65536 % 256 ≡ b
    field-2 = omega arith

    module _ (hc : c < 256) where
      field-3 : packed w a b c d e / 16777216 % 256 ≡ c
      field-3 = omega arith

      -- the two numbers at the end together, and each where the first has two bytes
      fields-4 : packed w a b c d e / 4294967296 ≡ d + 65536 * e
      fields-4 = omega arith

two_fields : (d e x y : ℕ) → d < 65536 → x < 65536 → d + 65536 * e ≡ x + 65536 * y → (d ≡ x) × (e ≡ y)
two_fields d e x y h k q = (omega (arith, h, k, q), omega (arith, h, k, q))

-- equal numbers, equal fields
record Alike (a b c d e p q r s t : ℕ) : Type 0 where
  one : a ≡ p
  two : b ≡ q
  three : c ≡ r
  four : d + 65536 * e ≡ s + 65536 * t

module _ {w a b c d e v p q r s t : ℕ} (hw : w < 256) (ha : a < 256) (hb : b < 256) (hc : c < 256) (hv : v < 256) (hp : p < 256) (hq : q < 256) (hr : r < 256) where
  alike : packed w a b c d e ≡ packed v p q r s t → Alike a b c d e p q r s t
  alike x = record {
    one = sym (field_1 w a b c d e hw ha) ∙ (ap (λ (n : ℕ). n / 256 % 256) x ∙ field_1 v p q r s t hv hp);
    two = sym (field-2 w a b c d e hw ha hb) ∙ (ap (λ (n : ℕ). n / 65536 % 256) x ∙ field-2 v p q r s t hv hp hq);
    three = sym (field-3 w a b c d e hw ha hb hc) ∙ (ap (λ (n : ℕ). n / 16777216 % 256) x ∙ field-3 v p q r s t hv hp hq hr);
    four = sym (fields-4 w a b c d e hw ha hb hc) ∙ (ap (λ (n : ℕ). n / 4294967296) x ∙ fields-4 v p q r s t hv hp hq hr);
  }

-- flags are a byte

type_small : (t : Option PsuType) → psu_type_number t ≤ 6
type_small None = omega arith
type_small (Some PsuType.TypeC) = omega arith
type_small (Some PsuType.DcJack) = omega arith
type_small (Some PsuType.Custom0) = omega arith
type_small (Some PsuType.Custom1) = omega arith
type_small (Some PsuType.Custom2) = omega arith
type_small (Some PsuType.Custom3) = omega arith

consumer_byte : (f : ConsumerFlags) → consumer_flags_byte f < 256
consumer_byte f = omega (arith, bit_le f.unconstrained_power, type_small f.psu_type)

provider_byte : (f : ProviderFlags) → provider_flags_byte f < 256
provider_byte f = omega (arith, type_small f.psu_type)

-- orders: what each has in the five fields, and the order of five fields

abbrev kind_in : Order → ℕ
kind_in (Order.Disconnect p) = 0
kind_in (Order.ConnectConsumer p c) = 1
kind_in (Order.ConnectProvider p c) = 2
kind_in (Order.IsReady i) = 3
kind_in (Order.InitCharger i) = 4
kind_in (Order.Attach i c) = 5
kind_in (Order.Detach i) = 6
kind_in Order.Wait = 7

abbrev device_in : Order → ℕ
device_in (Order.Disconnect p) = p
device_in (Order.ConnectConsumer p c) = p
device_in (Order.ConnectProvider p c) = p
device_in (Order.IsReady i) = i
device_in (Order.InitCharger i) = i
device_in (Order.Attach i c) = i
device_in (Order.Detach i) = i
device_in Order.Wait = 0

abbrev flags_in : Order → ℕ
flags_in (Order.Disconnect p) = 0
flags_in (Order.ConnectConsumer p c) = consumer_flags_byte c.flags
flags_in (Order.ConnectProvider p c) = provider_flags_byte c.flags
flags_in (Order.IsReady i) = 0
flags_in (Order.InitCharger i) = 0
flags_in (Order.Attach i c) = consumer_flags_byte c.flags
flags_in (Order.Detach i) = 0
flags_in Order.Wait = 0

abbrev mv_in : Order → ℕ
mv_in (Order.Disconnect p) = 0
mv_in (Order.ConnectConsumer p c) = c.capability.voltage_mv
mv_in (Order.ConnectProvider p c) = c.capability.voltage_mv
mv_in (Order.IsReady i) = 0
mv_in (Order.InitCharger i) = 0
mv_in (Order.Attach i c) = c.capability.voltage_mv
mv_in (Order.Detach i) = 0
mv_in Order.Wait = wait_ms

abbrev ma_in : Order → ℕ
ma_in (Order.Disconnect p) = 0
ma_in (Order.ConnectConsumer p c) = c.capability.current_ma
ma_in (Order.ConnectProvider p c) = c.capability.current_ma
ma_in (Order.IsReady i) = 0
ma_in (Order.InitCharger i) = 0
ma_in (Order.Attach i c) = c.capability.current_ma
ma_in (Order.Detach i) = 0
ma_in Order.Wait = 0

order_fields : (o : Order) → order_number o ≡ packed 1 (kind_in o) (device_in o) (flags_in o) (mv_in o) (ma_in o)
order_fields (Order.Disconnect p) = refl
order_fields (Order.ConnectConsumer p c) = refl
order_fields (Order.ConnectProvider p c) = refl
order_fields (Order.IsReady i) = refl
order_fields (Order.InitCharger i) = refl
order_fields (Order.Attach i c) = refl
order_fields (Order.Detach i) = refl
order_fields Order.Wait = refl

record InRange (o : Order) : Type 0 where
  kind : kind_in o < 256
  device : device_in o < 256
  flags : flags_in o < 256
  mv : mv_in o < 65536

in_range : (o : Order) → OrderFits o → InRange o
in_range (Order.Disconnect p) h = record { kind = omega arith; device = h; flags = omega arith; mv = omega arith }
in_range (Order.ConnectConsumer p c) h = record { kind = omega arith; device = h.0; flags = consumer_byte c.flags; mv = h.1.0 }
in_range (Order.ConnectProvider p c) h = record { kind = omega arith; device = h.0; flags = provider_byte c.flags; mv = h.1.0 }
in_range (Order.IsReady i) h = record { kind = omega arith; device = h; flags = omega arith; mv = omega arith }
in_range (Order.InitCharger i) h = record { kind = omega arith; device = h; flags = omega arith; mv = omega arith }
in_range (Order.Attach i c) h = record { kind = omega arith; device = h.0; flags = consumer_byte c.flags; mv = h.1.0 }
in_range (Order.Detach i) h = record { kind = omega arith; device = h; flags = omega arith; mv = omega arith }
in_range Order.Wait h = record { kind = omega arith; device = omega arith; flags = omega arith; mv = omega arith }

abbrev some_consumer : Option ConsumerFlags → ConsumerFlags
some_consumer None = record { unconstrained_power = false; psu_type = None }
some_consumer (Some f) = f

abbrev some_provider : Option ProviderFlags → ProviderFlags
some_provider None = record { psu_type = None }
some_provider (Some f) = f

abbrev consumer_of : ℕ → ℕ → ℕ → ConsumerPowerCapability
consumer_of f v a = record { capability = record { voltage_mv = v; current_ma = a }; flags = some_consumer (consumer_flags_from f) }

abbrev provider_of : ℕ → ℕ → ℕ → ProviderPowerCapability
provider_of f v a = record { capability = record { voltage_mv = v; current_ma = a }; flags = some_provider (provider_flags_from f) }

abbrev order_of : ℕ → ℕ → ℕ → ℕ → ℕ → Order
order_of k p f v a =
    get_or
    (Order.Disconnect p
    ∷ Order.ConnectConsumer p (consumer_of f v a)
    ∷ Order.ConnectProvider p (provider_of f v a)
    ∷ Order.IsReady p
    ∷ Order.InitCharger p
    ∷ Order.Attach p (consumer_of f v a)
    ∷ Order.Detach p
    ∷ [])
    k Order.Wait

consumer_back : (c : ConsumerPowerCapability) → consumer_of (consumer_flags_byte c.flags) c.capability.voltage_mv c.capability.current_ma ≡ c
consumer_back c = ap (λ (f : Option ConsumerFlags). record { capability = c.capability; flags = some_consumer f }) (consumer_read_write c.flags)

provider_back : (c : ProviderPowerCapability) → provider_of (provider_flags_byte c.flags) c.capability.voltage_mv c.capability.current_ma ≡ c
provider_back c = ap (λ (f : Option ProviderFlags). record { capability = c.capability; flags = some_provider f }) (provider_read_write c.flags)

order_back : (o : Order) → order_of (kind_in o) (device_in o) (flags_in o) (mv_in o) (ma_in o) ≡ o
order_back (Order.Disconnect p) = refl
order_back (Order.ConnectConsumer p c) = ap (Order.ConnectConsumer p) (consumer_back c)
order_back (Order.ConnectProvider p c) = ap (Order.ConnectProvider p) (provider_back c)
order_back (Order.IsReady i) = refl
order_back (Order.InitCharger i) = refl
order_back (Order.Attach i c) = ap (Order.Attach i) (consumer_back c)
order_back (Order.Detach i) = refl
order_back Order.Wait = refl

five : (k p f v a l q g w b : ℕ) → k ≡ l → p ≡ q → f ≡ g → v ≡ w → a ≡ b → order_of k p f v a ≡ order_of l q g w b
five k p f v a l q g w b x y z u t = rw (x, y, z, u, t) refl

order_one : (o p : Order) → OrderFits o → OrderFits p → order_number o ≡ order_number p → o ≡ p
order_one o p h k e =
    let x = in_range o h in
    let y = in_range p k in
    let z = alike (lit< tt) x.kind x.device x.flags (lit< tt) y.kind y.device y.flags (sym (order_fields o) ∙ (e ∙ order_fields p)) in
    let t = two_fields (mv_in o) (ma_in o) (mv_in p) (ma_in p) x.mv y.mv z.four in
    sym (order_back o) ∙ (five _ _ _ _ _ _ _ _ _ _ z.one z.two z.three t.0 t.1 ∙ order_back p)

-- closes: the byte tells the error but for its states, and these have their own bytes

abbrev with_states : Result (Unit {0}) Error → Option Mismatch → Result (Unit {0}) Error
with_states (Ok tt) m = Ok tt
with_states (Err Error.InvalidDevice) m = Err Error.InvalidDevice
with_states (Err Error.CannotProvide) m = Err Error.CannotProvide
with_states (Err Error.CannotConsume) m = Err Error.CannotConsume
with_states (Err (Error.InvalidState n)) m = Err (Error.InvalidState m)
with_states (Err Error.InvalidResponse) m = Err Error.InvalidResponse
with_states (Err Error.Busy) m = Err Error.Busy
with_states (Err Error.Timeout) m = Err Error.Timeout
with_states (Err Error.Bus) m = Err Error.Bus
with_states (Err Error.Charger) m = Err Error.Charger
with_states (Err Error.Failed) m = Err Error.Failed

abbrev states_in : Result (Unit {0}) Error → Option Mismatch
states_in (Ok tt) = None
states_in (Err e) = mismatch_of e

answer_back : (a : Result (Unit {0}) Error) → with_states (dropped a) (states_in a) ≡ a
answer_back (Ok tt) = refl
answer_back (Err Error.InvalidDevice) = refl
answer_back (Err Error.CannotProvide) = refl
answer_back (Err Error.CannotConsume) = refl
answer_back (Err (Error.InvalidState m)) = refl
answer_back (Err Error.InvalidResponse) = refl
answer_back (Err Error.Busy) = refl
answer_back (Err Error.Timeout) = refl
answer_back (Err Error.Bus) = refl
answer_back (Err Error.Charger) = refl
answer_back (Err Error.Failed) = refl

answer_small : (a : Result (Unit {0}) Error) → answer_byte a < 256
answer_small (Ok tt) = omega arith
answer_small (Err Error.InvalidDevice) = omega arith
answer_small (Err Error.CannotProvide) = omega arith
answer_small (Err Error.CannotConsume) = omega arith
answer_small (Err (Error.InvalidState m)) = omega arith
answer_small (Err Error.InvalidResponse) = omega arith
answer_small (Err Error.Busy) = omega arith
answer_small (Err Error.Timeout) = omega arith
answer_small (Err Error.Bus) = omega arith
answer_small (Err Error.Charger) = omega arith
answer_small (Err Error.Failed) = omega arith

some_result : (a b : Result (Unit {0}) Error) → Some a ≡ Some b → a ≡ b
some_result a b e = cc

same_dropped : (a b : Result (Unit {0}) Error) → answer_byte a ≡ answer_byte b → dropped a ≡ dropped b
same_dropped a b e = some_result (dropped a) (dropped b) (sym (answer_read_write a) ∙ (ap answer_from e ∙ answer_read_write b))

abbrev kind_from : ℕ → StateKind
kind_from n = get_or (StateKind.Detached ∷ StateKind.Idle ∷ StateKind.ConnectedProvider ∷ []) n StateKind.ConnectedConsumer

kind_back : (k : StateKind) → kind_from (kind_number k) ≡ k
kind_back StateKind.Detached = refl
kind_back StateKind.Idle = refl
kind_back StateKind.ConnectedProvider = refl
kind_back StateKind.ConnectedConsumer = refl

expected_small : (m : Option Mismatch) → MismatchFits m → expected_byte m < 256
expected_small None h = omega arith
expected_small (Some m) h = h.1

two_states : (x y : ℕ) (a b : StateKind) → x ≡ y → a ≡ b →
    ◌≡◌ {A = Option Mismatch} (Some (record { expected = x; actual = a })) (Some (record { expected = y; actual = b }))
two_states x y a b e q = rw (e, q) refl

same_states : (m n : Option Mismatch) → MismatchFits m → MismatchFits n → expected_byte m ≡ expected_byte n → actual_byte m ≡ actual_byte n → m ≡ n
same_states None None h k e a = refl
same_states None (Some n) h k e a = absurd (omega (arith, k.0, e))
same_states (Some m) None h k e a = absurd (omega (arith, h.0, e))
same_states (Some m) (Some n) h k e a =
    two_states m.expected n.expected m.actual n.actual e (sym (kind_back m.actual) ∙ (ap kind_from a ∙ kind_back n.actual))

states_fit : (a : Result (Unit {0}) Error) → AnswerFits a → MismatchFits (states_in a)
states_fit (Ok tt) h = tt
states_fit (Err e) h = h

closed_fields : (a : Result (Unit {0}) Error) (n : ℕ) → closed_number a n ≡ packed 2 (answer_byte a) (expected_byte (states_in a)) (actual_byte (states_in a)) n 0
closed_fields (Ok tt) n = refl
closed_fields (Err e) n = refl

same_answers : (a b c d : Result (Unit {0}) Error) (m n : Option Mismatch) → c ≡ d → m ≡ n → with_states c m ≡ a → with_states d n ≡ b → a ≡ b
same_answers a b c d m n e q x y = cc

close_one : (a b : Result (Unit {0}) Error) (n m : ℕ) → AnswerFits a → AnswerFits b → closed_number a n ≡ closed_number b m → (a ≡ b) × (n ≡ m)
close_one a b n m h k e =
    let x = states_fit a h in
    let y = states_fit b k in
    let z =
    alike {d = n} {e = 0} {s = m} {t = 0} (lit< tt) (answer_small a) (expected_small (states_in a) x) (actual_lt (states_in a)) (lit< tt) (answer_small b) (expected_small (states_in b) y) (actual_lt (states_in b))
    (sym (closed_fields a n) ∙ (e ∙ closed_fields b m)) in
    let f = z.four in (
      same_answers a b (dropped a) (dropped b) (states_in a) (states_in b) (same_dropped a b z.one) (same_states (states_in a) (states_in b) x y z.two z.three) (answer_back a) (answer_back b),
      omega (arith, f),
    )

-- the readers

state_small : (s : State) → state_number s < 256
state_small State.Lost = omega arith
state_small State.Level = omega arith
state_small State.Waiting = omega arith

abbrev state_from : ℕ → State
state_from n = get_or (State.Lost ∷ State.Level ∷ []) n State.Waiting

state_back : (s : State) → state_from (state_number s) ≡ s
state_back State.Lost = refl
state_back State.Level = refl
state_back State.Waiting = refl

state_one : (s t : State) → state_number s ≡ state_number t → s ≡ t
state_one s t e = sym (state_back s) ∙ (ap state_from e ∙ state_back t)

bit_one : (b c : Bool) → bit b ≡ bit c → b ≡ c
bit_one true true e = refl
bit_one true false e = absurd (omega (arith, e))
bit_one false true e = absurd (omega (arith, e))
bit_one false false e = refl

same_figures : (b c : Bool) (n m : ℕ) → b ≡ c → n ≡ m → ◌≡◌ {A = UnconstrainedState} (record { unconstrained = b; available = n }) (record { unconstrained = c; available = m })
same_figures b c n m e f = rw (e, f) refl

whole : (n : ℕ) → n % 65536 + 65536 * (n / 65536) ≡ n
whole n = omega arith

number_alone : (s : State) (n : ℕ) (d : Display) → d.unconstrained.available < 256 → shown_number s n d / 4294967296 ≡ n
number_alone s n d h =
    fields-4 5 (state_number s) (bit d.unconstrained.unconstrained) d.unconstrained.available (n % 65536) (n / 65536) (lit< tt) (state_small s) (bit_lt d.unconstrained.unconstrained) h
    ∙ whole n

shown_one : (s t : State) (n m : ℕ) (d e : Display) → DisplayFits d → DisplayFits e → shown_number s n d ≡ shown_number t m e →
    (s ≡ t) × (n ≡ m) × (d.unconstrained ≡ e.unconstrained)
shown_one s t n m d e h k q =
    let u = d.unconstrained in
    let v = e.unconstrained in
    let z =
    alike {d = n % 65536} {e = n / 65536} {s = m % 65536} {t = m / 65536} (lit< tt) (state_small s) (bit_lt u.unconstrained) h.available (lit< tt) (state_small t) (bit_lt v.unconstrained) k.available q in
    (state_one s t z.one, sym (whole n) ∙ (z.four ∙ whole m), same_figures u.unconstrained v.unconstrained u.available v.available (bit_one u.unconstrained v.unconstrained z.two) z.three)

lost_state : (s b c d e : ℕ) → s < 256 → packed 5 s b c d e ≡ packed 5 0 0 0 0 0 → s ≡ 0
lost_state s b c d e h q = omega (arith, h, q)

lost_one : (s : State) (n : ℕ) (d : Display) → shown_number s n d ≡ lost_number → s ≡ State.Lost
lost_one s n d q = state_one s State.Lost (lost_state (state_number s) _ _ _ _ (state_small s) q)

abbrev consumer_with_lem : ℕ → ConsumerFlags → ℕ → ℕ → Option AvailableConsumer
consumer_with_lem p f v a =
    Some (record { psu = p; consumer_power_capability = record { capability = record { voltage_mv = v; current_ma = a }; flags = f } })

same_consumers : (p q : ℕ) (f g : ConsumerFlags) (v w a b : ℕ) → p ≡ q → f ≡ g → v ≡ w → a ≡ b → consumer_with_lem p f v a ≡ consumer_with_lem q g w b
same_consumers p q f g v w a b x y z u = rw (x, y, z, u) refl

-- a consumer's number is not that of none
one_not : (p f v a : ℕ) → packed 6 1 p f v a ≡ packed 6 0 0 0 0 0 → ⊥
one_not p f v a e = omega (arith, e)

consumer_one : (c d : Option AvailableConsumer) → ConsumerFits c → ConsumerFits d → consumer_number c ≡ consumer_number d → c ≡ d
consumer_one None None h k e = refl
consumer_one None (Some d) h k e = absurd (one_not d.psu _ _ _ (sym e))
consumer_one (Some c) None h k e = absurd (one_not c.psu _ _ _ e)
consumer_one (Some c) (Some d) h k e =
    let f = c.consumer_power_capability in
    let g = d.consumer_power_capability in
    let z =
    alike {d = f.capability.voltage_mv} {e = f.capability.current_ma} {s = g.capability.voltage_mv} {t = g.capability.current_ma} (lit< {m = 6} {n = 256} tt) (lit< {m = 1} {n = 256} tt) h.0 (consumer_byte f.flags) (lit< {m = 6} {n = 256} tt) (lit< {m = 1} {n = 256} tt) k.0 (consumer_byte g.flags) e in
    let t = two_fields f.capability.voltage_mv f.capability.current_ma g.capability.voltage_mv g.capability.current_ma h.1.0 k.1.0 z.four in
    same_consumers c.psu d.psu f.flags g.flags _ _ _ _ z.two (consumer_injective f.flags g.flags z.three) t.0 t.1

-- a mask of 16 bits in two bytes; their count says nothing more

two_bytes : (n m : ℕ) → n % 256 ≡ m % 256 → n / 256 ≡ m / 256 → n ≡ m
two_bytes n m e f = omega (arith, e, f)

mask_one : (n m a b : ℕ) → n < 65536 → m < 65536 → a < 256 → b < 256 → packed 7 a (n % 256) (n / 256) 0 0 ≡ packed 7 b (m % 256) (m / 256) 0 0 → n ≡ m
mask_one n m a b h k x y e =
    let z : Alike a (n % 256) (n / 256) 0 0 b (m % 256) (m / 256) 0 0 = alike (lit< tt) x (omega arith) (omega (arith, h)) (lit< tt) y (omega arith) (omega (arith, k)) e in
    two_bytes n m z.two z.three

small_length : (m : ℕ) → ones m 16 < 256
small_length m = lt_of_le_of_lt (ones_le m 16) (lit< tt)

same_mask : (n m : ℕ) → n ≡ m → ◌≡◌ {A = Providers} (record { mask = n }) (record { mask = m })
same_mask n m e = rw e refl

tracked_one : (t u : Providers) → ProvidersFit t → ProvidersFit u → tracked_number t ≡ tracked_number u → t ≡ u
tracked_one t u h k e =
    same_mask t.mask u.mask (mask_one t.mask u.mask (len t) (len u) h k (small_length t.mask) (small_length u.mask) e)

-- the outcomes that no other law needs

consumer_low : (c : Option AvailableConsumer) → consumer_number c % 256 ≡ 6
consumer_low None = packed_low 6 0 0 0 0 0 (lit< tt)
consumer_low (Some c) = packed_low 6 1 c.psu _ _ _ (lit< tt)

shown_low : (s : State) (n : ℕ) (d : Display) → shown_number s n d % 256 ≡ 5
shown_low s n d = packed_low 5 (state_number s) _ _ _ _ (lit< tt)

tracked_low : (t : Providers) → tracked_number t % 256 ≡ 7
tracked_low t = packed_low 7 (len t) (t.mask % 256) (t.mask / 256) 0 0 (lit< tt)

refusal_one : (n m : ℕ) → refused_number n ≡ refused_number m → n ≡ m
refusal_one n m e = omega (arith, e)

length_one : (n m : ℕ) → n < 256 → m < 256 → written_number n ≡ written_number m → n ≡ m
length_one n m h k e = omega (arith, mod-eq_of_lt h, mod-eq_of_lt k, e)

wait_carries : order_number Order.Wait / 4294967296 % 65536 ≡ 800
wait_carries = refl

pub one_to_one : OneToOne
one_to_one = record {
  outcomes = record {
    refused = refused_low;
    order = order_low;
    closed = closed_low;
    written = written_low;
    done = done_low;
    shown = shown_low;
    consumer = consumer_low;
    tracked = tracked_low;
  };
  refusals = refusal_one;
  lengths = length_one;
  orders = order_one;
  wait = wait_carries;
  closes = close_one;
  lost = lost_one;
  number = number_alone;
  shown = shown_one;
  consumer = consumer_one;
  tracked = tracked_one;
}
