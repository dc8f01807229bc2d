-- The open order of a phase, and what an answer to an order comes to.
use Rattle.std.specs.Prelude.{ℕ, Err, None, Ok, Option, Result, Some}
use Rattle.power_policy_interface.specs.declared.psu.Error.{Error}
use Rattle.interface_display.specs.declared.AvailableConsumer.{AvailableConsumer}
use Rattle.abstract_policy.specs.declared.order.Order.{Order}
use Rattle.machine_state.specs.declared.phase.Leaver.{Leaver}
use Rattle.machine_state.specs.declared.phase.Phase.{Phase}
use Rattle.machine_state.specs.declared.phase.Stage.{Stage}
use Rattle.machine_state.specs.declared.phase.Stand.{Stand}

abbrev pub switch_order : Leaver → ℕ → Order
switch_order Leaver.Psu p = Order.Disconnect p
switch_order (Leaver.Charger i) p = Order.Detach i

abbrev pub connect_order : Stage → AvailableConsumer → Order
connect_order Stage.Psu n = Order.ConnectConsumer n.psu n.consumer_power_capability
connect_order Stage.Settling n = Order.Wait
connect_order (Stage.Readying i) n = Order.IsReady i
connect_order (Stage.Initializing i) n = Order.InitCharger i
connect_order (Stage.Attaching i) n = Order.Attach i n.consumer_power_capability

abbrev pub order_of : Phase → Option Order
order_of (Phase.Closed r) = None
order_of (Phase.Leaving i p f) = Some (Order.Detach i)
order_of (Phase.Switching l p f n) = Some (switch_order l p)
order_of (Phase.Connecting s n) = Some (connect_order s n)
order_of (Phase.Providing p c) = Some (Order.ConnectProvider p c)

-- the open order, or how the event closed
abbrev pub stand_of : Phase → Stand
stand_of (Phase.Closed r) = Stand.Closed r
stand_of (Phase.Leaving i p f) = Stand.Order (Order.Detach i)
stand_of (Phase.Switching l p f n) = Stand.Order (switch_order l p)
stand_of (Phase.Connecting s n) = Stand.Order (connect_order s n)
stand_of (Phase.Providing p c) = Stand.Order (Order.ConnectProvider p c)

-- a charger's error is Charger, and a wait does not fail
abbrev pub failed : Order → Error → Result (Unit {0}) Error
failed (Order.Disconnect p) e = Err e
failed (Order.ConnectConsumer p c) e = Err e
failed (Order.ConnectProvider p c) e = Err e
failed (Order.IsReady i) e = Err Error.Charger
failed (Order.InitCharger i) e = Err Error.Charger
failed (Order.Attach i c) e = Err Error.Charger
failed (Order.Detach i) e = Err Error.Charger
failed Order.Wait e = Ok tt

abbrev pub outcome_of : Order → Result (Unit {0}) Error → Result (Unit {0}) Error
outcome_of o (Ok tt) = Ok tt
outcome_of o (Err e) = failed o e
