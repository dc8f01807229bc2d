-- EVT-4: an event as an interaction: it closes, or asks for a device order, and a reply brings the device's answer and the present
-- records. SHP-2: actions are what the Rust's async functions become: an await on a device is an order, `?` ends the event.
use Rattle.std.specs.Prelude.{ℕ, zero, suc, Bool, true, false, List, [], ◌∷◌, ◌++◌, Err, Ok, Result}
use Rattle.power_policy_interface.specs.declared.psu.Error.{Error}
use Rattle.power_policy_interface.specs.declared.service.event.Event.{Event}
use Rattle.abstract_policy.specs.declared.state.InternalState.{InternalState}
use Rattle.abstract_policy.specs.declared.state.Records.{Records}
use Rattle.abstract_policy.specs.declared.order.Order.{Order}

-- what an event changes: the state of the service, and the notices so far, in order
pub record Held : Type 0 where
  pub state : InternalState
  pub notices : List Event

pub data Interaction : Type 0 where
  done : Result (Unit {0}) Error → Held → Interaction
  ask : Order → (Result (Unit {0}) Error → Records → Interaction) → Interaction

-- what comes next is given what is held and the present records
abbrev pub Action : Type 0 → Type 0
Action A = Held → Records → (A → Held → Records → Interaction) → Interaction

infixl 10 ◌>>=◌ ◌>>◌
abbrev pub ◌>>=◌ : {A B : Type 0} → Action A → (A → Action B) → Action B
◌>>=◌ m f h r k = m h r (λ a h' r'. f a h' r' k)

abbrev pub ◌>>◌ : {A B : Type 0} → Action A → Action B → Action B
◌>>◌ m n h r k = m h r (λ a h' r'. n h' r' k)

abbrev pub skip : Action (Unit {0})
skip h r k = k tt h r

-- UPD-14: an error ends the event where it arises; earlier changes and notices remain
abbrev pub fail : Error → Action (Unit {0})
fail e h r k = done (Err e) h

abbrev pub state : Action InternalState
state h r k = k h.state h r

abbrev pub records : Action Records
records h r k = k r h r

abbrev pub set : (InternalState → InternalState) → Action (Unit {0})
set f h r k = k tt (record { state = f h.state; notices = h.notices }) r

abbrev pub notify : Event → Action (Unit {0})
notify e h r k = k tt (record { state = h.state; notices = h.notices ++ (e ∷ []) }) r

abbrev pub await : Order → Action (Result (Unit {0}) Error)
await o h r k = ask o (λ a r'. k a h r')

-- `?`
abbrev pub ok : Result (Unit {0}) Error → Action (Unit {0})
ok (Ok tt) = skip
ok (Err e) = fail e

-- `.map_err(|e| Error::Charger(e.into()))?`
abbrev pub charger_ok : Result (Unit {0}) Error → Action (Unit {0})
charger_ok (Ok tt) = skip
charger_ok (Err e) = fail Error.Charger

-- an order to a PSU and to a charger, with their `?`
abbrev pub psu : Order → Action (Unit {0})
psu o = await o >>= ok

abbrev pub charger : Order → Action (Unit {0})
charger o = await o >>= charger_ok

abbrev pub when : Bool → Action (Unit {0}) → Action (Unit {0})
when true m = m
when false m = skip

abbrev pub unless : Bool → Action (Unit {0}) → Action (Unit {0})
unless true m = skip
unless false m = m

-- for each of the n from i on
abbrev pub each : ℕ → ℕ → (ℕ → Action (Unit {0})) → Action (Unit {0})
each zero i f = skip
each (suc n) i f = f i >> each n (suc i) f
