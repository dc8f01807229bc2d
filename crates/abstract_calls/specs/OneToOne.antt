-- Results are one-to-one: of values in range, whatever was packed into a number can be told from it (docs/STATE.md).
use Rattle.std.specs.Prelude.{ℕ, ◌<◌, ◌/◌, ◌%◌, ◌≡◌, Err, None, Ok, Option, Result, Some}
use Rattle.power_policy_interface.specs.Psu.{mismatch_of}
use Rattle.power_policy_interface.specs.declared.capability.PowerCapability.{PowerCapability}
use Rattle.interface_display.specs.declared.AvailableConsumer.{AvailableConsumer}
use Rattle.power_policy_interface.specs.declared.psu.Error.{Error}
use Rattle.power_policy_interface.specs.declared.psu.Mismatch.{Mismatch}
use Rattle.interface_display.specs.declared.Display.{Display}
use Rattle.interface_display.specs.declared.providers.Providers.{Providers}
use Rattle.interface_display.specs.declared.State.{State}
use Rattle.abstract_policy.specs.declared.order.Order.{Order}
use Rattle.abstract_calls.specs.Numbers.{refused_number, order_number, closed_number, written_number, done_number, lost_number, shown_number, consumer_number, tracked_number}

-- in range: a byte for a port or charger, two for mV and for mA

abbrev pub CapabilityFits : PowerCapability → Type 0
CapabilityFits c = (c.voltage_mv < 65536) × (c.current_ma < 65536)

abbrev pub OrderFits : Order → Type 0
OrderFits (Order.Disconnect p) = p < 256
OrderFits (Order.ConnectConsumer p c) = (p < 256) × CapabilityFits c.capability
OrderFits (Order.ConnectProvider p c) = (p < 256) × CapabilityFits c.capability
OrderFits (Order.IsReady i) = i < 256
OrderFits (Order.InitCharger i) = i < 256
OrderFits (Order.Attach i c) = (i < 256) × CapabilityFits c.capability
OrderFits (Order.Detach i) = i < 256
OrderFits Order.Wait = Unit {0}

-- an InvalidState that names states expects at least one
abbrev pub MismatchFits : Option Mismatch → Type 0
MismatchFits None = Unit {0}
MismatchFits (Some m) = (0 < m.expected) × (m.expected < 256)

abbrev pub AnswerFits : Result (Unit {0}) Error → Type 0
AnswerFits (Ok tt) = Unit {0}
AnswerFits (Err e) = MismatchFits (mismatch_of e)

abbrev pub ConsumerFits : Option AvailableConsumer → Type 0
ConsumerFits None = Unit {0}
ConsumerFits (Some c) = (c.psu < 256) × CapabilityFits c.consumer_power_capability.capability

abbrev pub ProvidersFit : Providers → Type 0
ProvidersFit t = t.mask < 65536

pub record DisplayFits (d : Display) : Type 0 where
  pub consumer : ConsumerFits d.consumer
  pub available : d.unconstrained.available < 256
  pub providers : ProvidersFit d.providers

-- the low byte is the outcome
pub record Outcomes : Type 0 where
  pub refused : (n : ℕ) → refused_number n % 256 ≡ 0
  pub order : (o : Order) → order_number o % 256 ≡ 1
  pub closed : (a : Result (Unit {0}) Error) (n : ℕ) → closed_number a n % 256 ≡ 2
  pub written : (n : ℕ) → written_number n % 256 ≡ 3
  pub done : done_number % 256 ≡ 4
  pub shown : (s : State) (n : ℕ) (d : Display) → shown_number s n d % 256 ≡ 5
  pub consumer : (c : Option AvailableConsumer) → consumer_number c % 256 ≡ 6
  pub tracked : (t : Providers) → tracked_number t % 256 ≡ 7

pub record OneToOne : Type 0 where
  pub outcomes : Outcomes
  pub refusals : (n m : ℕ) → refused_number n ≡ refused_number m → n ≡ m
  pub lengths : (n m : ℕ) → n < 256 → m < 256 → written_number n ≡ written_number m → n ≡ m
  -- equal order numbers are equal orders
  pub orders : (o p : Order) → OrderFits o → OrderFits p → order_number o ≡ order_number p → o ≡ p
  -- a wait's carries its milliseconds where others have mV
  pub wait : order_number Order.Wait / 4294967296 % 65536 ≡ 800
  -- equal close numbers are equal closes, after as many orders
  pub closes : (a b : Result (Unit {0}) Error) (n m : ℕ) → AnswerFits a → AnswerFits b → closed_number a n ≡ closed_number b m → (a ≡ b) × (n ≡ m)
  -- lost is told from all that is shown
  pub lost : (s : State) (n : ℕ) (d : Display) → shown_number s n d ≡ lost_number → s ≡ State.Lost
  -- the number shown stands alone in the four bytes above the figures
  pub number : (s : State) (n : ℕ) (d : Display) → d.unconstrained.available < 256 → shown_number s n d / 4294967296 ≡ n
  -- the three readers' numbers tell state, number, both unconstrained figures, consumer and tracked ports
  pub shown :
      (s t : State) (n m : ℕ) (d e : Display) → DisplayFits d → DisplayFits e → shown_number s n d ≡ shown_number t m e →
      (s ≡ t) × (n ≡ m) × (d.unconstrained ≡ e.unconstrained)
  pub consumer : (c d : Option AvailableConsumer) → ConsumerFits c → ConsumerFits d → consumer_number c ≡ consumer_number d → c ≡ d
  pub tracked : (t u : Providers) → ProvidersFit t → ProvidersFit u → tracked_number t ≡ tracked_number u → t ≡ u
