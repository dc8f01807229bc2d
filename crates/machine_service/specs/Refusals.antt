-- The conditions of an event and of an answer, of a service: what they look at is in its fields.
use Rattle.std.specs.Prelude.{ℕ, Bool, true, false, cond, List, eqb}
use Rattle.abstract_policy.specs.Given.{event_of}
use Rattle.abstract_policy.specs.Refusals.{waiting, open_conditions, answer_conditions}
use Rattle.machine_state.specs.Phase.{order_of}
use Rattle.machine_state.specs.declared.phase.Phase.{Phase}
use Rattle.machine_service.specs.declared.Service.{Service}
use Rattle.machine_service.specs.declared.refusals.Opening.{Opening}

-- what a kind that is known opens: 5 a charger's event, the others one from a port
abbrev pub opening_of : ℕ → ℕ → ℕ → Opening
opening_of kind device detail =
    cond (eqb kind 5) Opening.Charger (Opening.Psu (record { port = device; event = event_of kind detail }))

abbrev pub is_psu : Opening → Bool
is_psu (Opening.Psu e) = true
is_psu Opening.Charger = false

-- an event is open
abbrev pub is_open : Phase → Bool
is_open p = waiting (order_of p)

abbrev pub open_refusals : Service → ℕ → ℕ → ℕ → List (Bool × ℕ)
open_refusals s kind device detail =
    open_conditions s.registration.ports s.registration.chargers (is_open s.phase) s.number kind device detail

abbrev pub answer_refusals : Service → ℕ → List (Bool × ℕ)
answer_refusals s a = answer_conditions (order_of s.phase) a
