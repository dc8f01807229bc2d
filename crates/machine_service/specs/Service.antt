-- The service between calls: what a start, an event and an answer bring about, and the service after it.
use Rattle.std.specs.Prelude.{ℕ, suc, cond, ltb, eqb, Err, None, Ok, Option, Result, Some}
use Rattle.power_policy_interface.specs.Limits.{largest}
use Rattle.power_policy_interface.specs.Refusal.{refusal_number}
use Rattle.power_policy_interface.specs.declared.psu.Error.{Error}
use Rattle.power_policy_interface.specs.declared.refusal.Refusal.{Refusal}
use Rattle.power_policy_interface.specs.declared.psu.event.EventData.{EventData}
use Rattle.power_policy_service.specs.declared.config.Config.{Config}
use Rattle.abstract_policy.specs.State.{fresh_state}
use Rattle.abstract_policy.specs.Refusals.{first_refused, start_refusals}
use Rattle.abstract_policy.specs.Given.{event_of, result_of}
use Rattle.abstract_policy.specs.declared.state.Records.{Records}
use Rattle.abstract_policy.specs.declared.state.Registration.{Registration}
use Rattle.abstract_policy.specs.declared.order.Order.{Order}
use Rattle.abstract_policy.specs.declared.outcome.Step.{Step}
use Rattle.machine_state.specs.Memory.{no_notices}
use Rattle.machine_state.specs.Phase.{order_of}
use Rattle.machine_state.specs.declared.memory.Memory.{Memory}
use Rattle.machine_state.specs.declared.phase.Phase.{Phase}
use Rattle.machine_state.specs.declared.phase.Turn.{Turn}
use Rattle.machine_update.specs.Update.{remember, closed}
use Rattle.machine_process.specs.Process.{process_of, answered_of}
use Rattle.machine_service.specs.Refusals.{open_refusals, answer_refusals}
use Rattle.machine_service.specs.declared.Service.{Service}
use Rattle.machine_service.specs.declared.Stepped as accepts

-- g registered, event n closed last, k orders given
abbrev pub service_with : Registration → ℕ → ℕ → Turn → Service
service_with g n k t = record { registration = g; number = n; memory = t.memory; orders = k; phase = t.phase }

-- what a call brings about, and the service after it
pub record Stepped : Type 0 where
  pub step : Result Step ℕ
  pub service : Service

abbrev pub stepped : Result Step ℕ → Service → Stepped
stepped t s = record { step = t; service = s }

-- a call that is turned back changes nothing
abbrev pub refused : ℕ → Service → Stepped
refused n s = stepped (Err n) s

-- a call that is accepted, and one that is or is not
abbrev pub accepted : accepts.Stepped → Stepped
accepted t = stepped (Ok t.step) t.service

abbrev pub stepped_by : Service → Result accepts.Stepped Refusal → Stepped
stepped_by s (Ok t) = accepted t
stepped_by s (Err r) = refused (refusal_number r) s

-- start

-- no event yet
abbrev pub fresh_turn : Turn
fresh_turn = closed (Ok tt) (remember fresh_state no_notices)

abbrev pub fresh_service : Config → ℕ → ℕ → Service
fresh_service c ports chargers = service_with (record { config = c; ports = ports; chargers = chargers }) 0 0 fresh_turn

-- `None` is refused before, by 20
abbrev pub start_with : Option Config → ℕ → ℕ → Result Service ℕ
start_with None ports chargers = Err 20
start_with (Some c) ports chargers = Ok (fresh_service c ports chargers)

abbrev pub start_of : Option Config → ℕ → ℕ → Result Service ℕ
start_of config ports chargers =
    let n : ℕ = first_refused (start_refusals config ports chargers) in
    cond (eqb n 0) (start_with config ports chargers) (Err n)

-- the end of every accepted call

-- one more, at most the limit: no event gives 255 orders, and after the last number every PSU event is refused
abbrev pub increment : ℕ → ℕ → ℕ
increment limit n = cond (ltb n limit) (suc n) limit

-- how a phase with no order closed
abbrev pub answer_in : Phase → Result (Unit {0}) Error
answer_in (Phase.Closed a) = a
answer_in (Phase.Leaving i p f) = Ok tt
answer_in (Phase.Switching l p f new) = Ok tt
answer_in (Phase.Connecting s new) = Ok tt
answer_in (Phase.Providing p c) = Ok tt

-- a close gives the event its number, and tells how many orders it has given
abbrev pub closed_by : Registration → ℕ → ℕ → Turn → Stepped
closed_by g n k t = stepped (Ok (Step.Closed (answer_in t.phase) k)) (service_with g (increment largest n) k t)

-- an order counts
abbrev pub ordered_by : Registration → ℕ → ℕ → Turn → Order → Stepped
ordered_by g n k t o = stepped (Ok (Step.Order o)) (service_with g n (increment 255 k) t)

abbrev pub moved_by : Option Order → Registration → ℕ → ℕ → Turn → Stepped
moved_by None g n k t = closed_by g n k t
moved_by (Some o) g n k t = ordered_by g n k t o

-- where an accepted call leaves the service: at an order or closed
abbrev pub moved : Registration → ℕ → ℕ → Turn → Stepped
moved g n k t = moved_by (order_of t.phase) g n k t

-- open

abbrev pub cleared_of : Service → Memory
cleared_of s = remember s.memory.state no_notices

-- the event of a port starts with no notices and no orders
abbrev pub opened_of : Service → ℕ → EventData → Records → Stepped
opened_of s port e r = moved s.registration s.number 0 (process_of s.registration (cleared_of s) port e r)

-- EVT-17: a charger's event (kind 5) changes nothing, has no number and gives no order
abbrev pub open_of : Service → ℕ → ℕ → ℕ → Records → Stepped
open_of s kind device detail r =
    let n : ℕ = first_refused (open_refusals s kind device detail) in
    cond (eqb n 0) (cond (eqb kind 5) (stepped (Ok (Step.Closed (Ok tt) 0)) s) (opened_of s device (event_of kind detail) r))
    (refused n s)

-- answer

-- the open order; `None` is refused before, by 26
abbrev pub order_in : Option Order → Order
order_in None = Order.Wait
order_in (Some o) = o

abbrev pub answered_by : Service → Order → Result (Unit {0}) Error → Records → Stepped
answered_by s o a r =
    moved s.registration s.number s.orders (answered_of s.registration s.phase o s.memory a r)

abbrev pub answer_of : Service → ℕ → Records → Stepped
answer_of s a r =
    let n : ℕ = first_refused (answer_refusals s a) in
    cond (eqb n 0) (answered_by s (order_in (order_of s.phase)) (result_of a) r) (refused n s)
