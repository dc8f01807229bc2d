-- FRM-10: the 64-bit number that a C function returns (docs/STATE.md):
-- its low byte says what happened, the other bytes what belongs to it.
use Rattle.std.specs.Prelude.{ℕ, ◌+◌, ◌*◌, ◌/◌, ◌%◌, Err, None, Ok, Option, Result, Some}
use Rattle.power_policy_interface.specs.Capability.{bit, consumer_flags_byte, provider_flags_byte}
use Rattle.power_policy_interface.specs.Psu.{error_byte, mismatch_of, expected_byte, actual_byte}
use Rattle.power_policy_interface.specs.declared.capability.PowerCapability.{PowerCapability}
use Rattle.interface_display.specs.declared.AvailableConsumer.{AvailableConsumer}
use Rattle.power_policy_interface.specs.declared.psu.Error.{Error}
use Rattle.interface_display.specs.Display.{state_number}
use Rattle.interface_display.specs.Providers.{len}
use Rattle.interface_display.specs.declared.Display.{Display}
use Rattle.interface_display.specs.declared.providers.Providers.{Providers}
use Rattle.interface_display.specs.declared.State.{State}
use Rattle.abstract_policy.specs.declared.order.Order.{Order}
use Rattle.abstract_policy.specs.declared.outcome.Step.{Step}

-- four bytes and two numbers of two bytes, lowest first
abbrev pub packed : ℕ → ℕ → ℕ → ℕ → ℕ → ℕ → ℕ
packed what a b c d e = what + 256 * a + 65536 * b + 16777216 * c + 4294967296 * d + 281474976710656 * e

abbrev pub refused_number : ℕ → ℕ
refused_number n = packed 0 n 0 0 0 0

-- EVT-6: the milliseconds of a wait
abbrev pub wait_ms : ℕ
wait_ms = 800

-- an order: its kind, its device, and the capability of a connect or attach order, or how long a wait lasts

abbrev pub bare_order : ℕ → ℕ → ℕ
bare_order kind device = packed 1 kind device 0 0 0

abbrev pub capability_order : ℕ → ℕ → ℕ → PowerCapability → ℕ
capability_order kind device flags c = packed 1 kind device flags c.voltage_mv c.current_ma

abbrev pub order_number : Order → ℕ
order_number (Order.Disconnect p) = bare_order 0 p
order_number (Order.ConnectConsumer p c) = capability_order 1 p (consumer_flags_byte c.flags) c.capability
order_number (Order.ConnectProvider p c) = capability_order 2 p (provider_flags_byte c.flags) c.capability
order_number (Order.IsReady i) = bare_order 3 i
order_number (Order.InitCharger i) = bare_order 4 i
order_number (Order.Attach i c) = capability_order 5 i (consumer_flags_byte c.flags) c.capability
order_number (Order.Detach i) = bare_order 6 i
order_number Order.Wait = packed 1 7 0 0 wait_ms 0

-- FRM-3, a close: the answer byte, the states of a ported transition's InvalidState, and how many orders the event has given

abbrev pub closed_number : Result (Unit {0}) Error → ℕ → ℕ
closed_number (Ok tt) orders = packed 2 0 0 0 orders 0
closed_number (Err e) orders = packed 2 (error_byte e) (expected_byte (mismatch_of e)) (actual_byte (mismatch_of e)) orders 0

abbrev pub step_number : Result Step ℕ → ℕ
step_number (Ok (Step.Order o)) = order_number o
step_number (Ok (Step.Closed a n)) = closed_number a n
step_number (Err n) = refused_number n

-- so many bytes, at most 255
abbrev pub written_number : ℕ → ℕ
written_number length = packed 3 (length % 256) 0 0 0 0

abbrev pub done_number : ℕ
done_number = packed 4 0 0 0 0 0

-- what a follower shows

abbrev pub lost_number : ℕ
lost_number = packed 5 0 0 0 0 0

abbrev pub shown_number : State → ℕ → Display → ℕ
shown_number s n d =
    packed 5 (state_number s) (bit d.unconstrained.unconstrained) d.unconstrained.available (n % 65536) (n / 65536)

abbrev pub consumer_number : Option AvailableConsumer → ℕ
consumer_number None = packed 6 0 0 0 0 0
consumer_number (Some c) =
    packed 6 1 c.psu (consumer_flags_byte c.consumer_power_capability.flags)
    c.consumer_power_capability.capability.voltage_mv c.consumer_power_capability.capability.current_ma

abbrev pub tracked_number : Providers → ℕ
tracked_number t = packed 7 (len t) (t.mask % 256) (t.mask / 256) 0 0
