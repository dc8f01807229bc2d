-- What the definition says of a run on bytes: fed with the start and the calls that no numbered condition turns back, records read from their bytes.
use Rattle.std.specs.Prelude.{ℕ, ◌+◌, ◌*◌, ◌-◌, ◌%◌, Bool, not, List, [], ◌∷◌, ◌++◌, ◌≡◌, eqb, length, Option}
use Rattle.power_policy_interface.specs.Limits.{service_length}
use Rattle.interface_display.specs.declared.Display.{Display}
use Rattle.power_policy_service.specs.declared.config.Config.{Config}
use Rattle.abstract_policy.specs.Refusals.{first_refused, First, start_refusals}
use Rattle.abstract_policy.specs.Action.{ask}
use Rattle.abstract_policy.specs.Ends.{AtMost}
use Rattle.abstract_policy.specs.Policy.{Call, Policy, Stand, between, at, started, held_at, policies}
use Rattle.abstract_policy.specs.declared.state.Registration.{Registration}
use Rattle.abstract_desk.specs.Follower.{Follower}
use Rattle.abstract_desk.specs.Takes.{paper_after}
use Rattle.abstract_calls.specs.Calls.{packets_of}
use Rattle.abstract_calls.specs.DeskCall.{DeskCall, desk_call}
use Rattle.abstract_calls.specs.Numbers.{refused_number}
use Rattle.abstract_calls.specs.OneToOne.{OrderFits}
use Rattle.abstract_calls.specs.ServiceCall.{ByteCall, service_call}

-- what a call comes to by value, returns, leaves in its buffer, and is turned back by, where the definition stands

abbrev pub call_of : Policy → ByteCall → List Call
call_of p c = (service_call c).calls p

abbrev pub return_to : Policy → ByteCall → ℕ
return_to p c = (service_call c).returns p

abbrev pub buffer_to : Policy → ByteCall → List ℕ
buffer_to p c = (service_call c).leaves p

abbrev pub conditions_to : Policy → ByteCall → List (Bool × ℕ)
conditions_to p c = (service_call c).conditions p

-- a list of calls by value: each where those before it have led
abbrev pub calls_of : Policy → List ByteCall → List Call
calls_of p [] = []
calls_of p (c ∷ l) = call_of p c ++ calls_of (policies p (call_of p c)) l

-- the definition after these calls
abbrev pub defined : Registration → List ByteCall → Policy
defined g l = policies (started g) (calls_of (started g) l)

-- LNK-5: what is held when event n closes (0: the start)
abbrev pub held : Registration → List ByteCall → ℕ → Display
held g l n = held_at (started g) (calls_of (started g) l) n

-- likewise of the desk

-- the abstract follower after these calls
abbrev pub followed : List DeskCall → Follower
followed l = paper_after (packets_of l)

abbrev pub desk_return_to : Follower → DeskCall → ℕ
desk_return_to p c = (desk_call c).returns p

abbrev pub desk_buffer_to : Follower → DeskCall → List ℕ
desk_buffer_to p c = (desk_call c).leaves p

abbrev pub desk_conditions_to : Follower → DeskCall → List (Bool × ℕ)
desk_conditions_to p c = (desk_call c).conditions p

-- an open event has given n orders, the open one the last of them; whatever is answered it closes after at most 3 + 4 × chargers in all
abbrev pub Closes : ℕ → Stand → Type 0
Closes chargers between = Unit {0}
Closes chargers (at n o k) = AtMost (4 + 4 * chargers - n) (ask o k)

-- the order that an event stands at has its fields in the range of a result's
abbrev pub OrderFitsAt : Stand → Type 0
OrderFitsAt between = Unit {0}
OrderFitsAt (at n o k) = OrderFits o

-- of a start: REF-20, and REF-21 for bytes of another length than an image's
abbrev pub start_conditions : List ℕ → Option Config → ℕ → ℕ → List (Bool × ℕ)
start_conditions image config ports chargers = start_refusals config ports chargers ++ ((not (eqb (length image) service_length), 21) ∷ [])

-- DEM-1b: the first that applies is returned, and a call that meets none is not turned back (its low byte is not 0)
pub record Refuses (l : List (Bool × ℕ)) (number : ℕ) : Type 0 where
  pub first : First l (first_refused l)
  pub turned_back : (first_refused l ≡ 0 → ⊥) → number ≡ refused_number (first_refused l)
  pub accepted : first_refused l ≡ 0 → number % 256 ≡ 0 → ⊥
