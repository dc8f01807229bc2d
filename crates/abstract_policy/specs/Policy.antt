-- EVT-1: a run as the event's definition has it, without the machine: fed with the start and the calls that no numbered condition turns back.
use Rattle.std.specs.Prelude.{ℕ, suc, Bool, true, false, cond, List, [], ◌∷◌, ◌++◌, eqb, None, Ok, Option, Result, Some}
use Rattle.power_policy_interface.specs.declared.psu.Error.{Error}
use Rattle.power_policy_interface.specs.declared.service.event.Event.{Event}
use Rattle.interface_display.specs.declared.Display.{Display}
use Rattle.abstract_policy.specs.State.{fresh_state, display_of}
use Rattle.abstract_policy.specs.Refusals.{first_refused, open_conditions, no_answer}
use Rattle.abstract_policy.specs.Given.{event_of, result_of}
use Rattle.abstract_policy.specs.Action.{Interaction, done, ask}
use Rattle.abstract_policy.specs.Interaction.{event}
use Rattle.abstract_policy.specs.declared.state.InternalState.{InternalState}
use Rattle.abstract_policy.specs.declared.state.Records.{Records}
use Rattle.abstract_policy.specs.declared.state.Registration.{Registration}
use Rattle.abstract_policy.specs.declared.order.Order.{Order}

-- no event is open, or one is: so many orders given, the open one the last of them, and what its answer leads to
pub data Stand : Type 0 where
  between : Stand
  at : ℕ → Order → (Result (Unit {0}) Error → Records → Interaction) → Stand

pub record Policy : Type 0 where
  pub registration : Registration
  -- PKT-1: the number of the event closed last
  pub number : ℕ
  -- what was held when it closed
  pub state : InternalState
  -- its answer, the number of its orders, and its notices in their order
  pub answer : Result (Unit {0}) Error
  pub orders : ℕ
  pub notices : List Event
  pub stand : Stand

-- 0: the start
abbrev pub started : Registration → Policy
started g =
    record { registration = g; number = 0; state = fresh_state; answer = (Ok tt); orders = 0; notices = []; stand = between }

-- after n orders the event closes, and has the next number, or asks once more. What is counted is the length of the list of its orders
-- (specs/Orders.antt)
abbrev pub proceeds : Policy → ℕ → Interaction → Policy
proceeds p n (done a h) =
    record { registration = p.registration; number = suc p.number; state = h.state; answer = a; orders = n; notices = h.notices; stand = between }
proceeds p n (ask o k) =
    record { registration = p.registration; number = p.number; state = p.state; answer = p.answer; orders = p.orders; notices = p.notices; stand = at (suc n) o k }

abbrev pub order_at : Stand → Option Order
order_at between = None
order_at (at n o k) = Some o

abbrev pub is_at : Stand → Bool
is_at between = false
is_at (at n o k) = true

-- the number that turns an opening back, else 0
abbrev pub open_refused : Policy → ℕ → ℕ → ℕ → ℕ
open_refused p kind device detail =
    first_refused (open_conditions p.registration.ports p.registration.chargers (is_at p.stand) p.number kind device detail)

-- EVT-17: kind 5, a charger's event, changes nothing
abbrev pub opens : Policy → ℕ → ℕ → ℕ → Records → Policy
opens p kind device detail r =
    cond (eqb (open_refused p kind device detail) 0)
    (cond (eqb kind 5) p (proceeds p 0 (event p.registration device (event_of kind detail) p.state r)))
    p

abbrev pub answers : Stand → Policy → ℕ → Records → Policy
answers between p a r = p
answers (at n o k) p a r = cond (no_answer o a) p (proceeds p n (k (result_of a) r))

-- one order more if the event is at one
abbrev pub with_order : List Order → Interaction → List Order
with_order l (done a h) = l
with_order l (ask o k) = l ++ (o ∷ [])

abbrev pub answer_orders : Stand → List Order → ℕ → Records → List Order
answer_orders between l a r = l
answer_orders (at n o k) l a r = cond (no_answer o a) l (with_order l (k (result_of a) r))

-- Each call as one record: where it leads, and the orders that the event open or closed last has given then. A call that is added has its record here, and its case
-- in `Call` and `policy_call`.
pub record PolicyCall : Type 0 where
  pub after : Policy → Policy
  pub orders : Policy → List Order → List Order

-- an opening that is accepted begins the list anew
abbrev pub opening : ℕ → ℕ → ℕ → Records → PolicyCall
opening kind device detail r = record {
  after = λ p. opens p kind device detail r;
  orders = λ p l.
      cond (eqb (open_refused p kind device detail) 0)
      (cond (eqb kind 5) l (with_order [] (event p.registration device (event_of kind detail) p.state r)))
      l;
}

abbrev pub answering : ℕ → Records → PolicyCall
answering a r = record { after = λ p. answers p.stand p a r; orders = λ p l. answer_orders p.stand l a r }

-- it changes nothing
abbrev pub writing : PolicyCall
writing = record { after = λ p. p; orders = λ p l. l }

-- a call, with all its arguments
pub data Call : Type 0 where
  open_event : ℕ → ℕ → ℕ → Records → Call
  give_answer : ℕ → Records → Call
  write_packet write_picture : Call

abbrev pub policy_call : Call → PolicyCall
policy_call (open_event kind device detail r) = opening kind device detail r
policy_call (give_answer a r) = answering a r
policy_call write_packet = writing
policy_call write_picture = writing

abbrev pub policy_after : Policy → Call → Policy
policy_after p c = (policy_call c).after p

-- after a list of calls
abbrev pub policies : Policy → List Call → Policy
policies p [] = p
policies p (c ∷ l) = policies (policy_after p c) l

-- LNK-5: what was held when event n closed (0: the start); for an n that has not closed in these calls, what is held last
abbrev pub held_at : Policy → List Call → ℕ → Display
held_at p [] n = display_of p.state
held_at p (c ∷ l) n = cond (eqb n p.number) (display_of p.state) (held_at (policy_after p c) l n)
