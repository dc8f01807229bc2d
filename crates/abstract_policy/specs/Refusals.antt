-- DEM-1b: what turns a call back: a list of conditions with their numbers for each call,
-- in the order in which they are looked at. The first that holds gives the number.
use Rattle.std.specs.Prelude.{ℕ, suc, ◌≤◌, Bool, true, false, cond, not, ◌&&◌, ◌||◌, List, [], ◌∷◌, ◌⊎◌, ◌≡◌, ltb, leb, eqb, None, Option, Some}
use Rattle.power_policy_interface.specs.Limits.{largest, max_ports, max_chargers}
use Rattle.power_policy_service.specs.declared.config.Config.{Config}
use Rattle.abstract_policy.specs.declared.order.Order.{Order}

-- 0 if no condition holds
abbrev pub first_refused : List (Bool × ℕ) → ℕ
first_refused [] = 0
first_refused (r ∷ rest) = cond r.0 r.1 (first_refused rest)

-- The numbers in the order in which they are looked at, whichever the call. Of 30 to 33 a packet meets one, the first from the left (REF-3); from 34 on
-- they come with later requests (REF-7).
abbrev pub order : List ℕ
order = 20 ∷ 21 ∷ 22 ∷ 23 ∷ 24 ∷ 25 ∷ 26 ∷ 27 ∷ 28 ∷ 29 ∷ 30 ∷ 31 ∷ 32 ∷ 33 ∷ 34 ∷ []

-- a number's place in a list, counted from k on; 0 if it is not there
abbrev pub place_from : ℕ → List ℕ → ℕ → ℕ
place_from k [] n = 0
place_from k (x ∷ l) n = cond (eqb x n) k (place_from (suc k) l n)

-- its place in the order, from 1
abbrev pub rank : ℕ → ℕ
rank n = place_from 1 order n

-- each number has a place, after k and after the one before it
abbrev pub ascends_from : ℕ → List (Bool × ℕ) → Bool
ascends_from k [] = true
ascends_from k (r ∷ rest) = ltb k (rank r.1) && ascends_from (rank r.1) rest

-- the list goes by the order; so does each list here (proofs/First.antt)
abbrev pub Ascending : List (Bool × ℕ) → Type 0
Ascending l = ascends_from 0 l ≡ true

-- a condition with this number holds
abbrev pub Applies : ℕ → List (Bool × ℕ) → Type 0
Applies n [] = ⊥
Applies n (r ∷ rest) = ((r.0 ≡ true) × (r.1 ≡ n)) ⊎ Applies n rest

-- n is the first that applies by the order, and 0 exactly if none does
pub record First (l : List (Bool × ℕ)) (n : ℕ) : Type 0 where
  pub applies : (n ≡ 0 → ⊥) → Applies n l
  pub before : (m : ℕ) → Applies m l → rank n ≤ rank m
  pub none : n ≡ 0 → (m : ℕ) → Applies m l → ⊥
  pub no_other : ((m : ℕ) → Applies m l → ⊥) → n ≡ 0

-- REF-2: the base's numbers; among them the order is that of size, so that the first is the lowest applicable (proofs/First.antt)
pub record Base (n : ℕ) : Type 0 where
  pub least : 20 ≤ n
  pub most : n ≤ 33

pub record Lowest (l : List (Bool × ℕ)) (n : ℕ) : Type 0 where
  pub applies : (n ≡ 0 → ⊥) → Applies n l
  pub least : (m : ℕ) → Applies m l → n ≤ m
  pub none : n ≡ 0 → (m : ℕ) → Applies m l → ⊥

-- start

-- no configuration could be read: a figure is over its Rust type, or the presence of a minimum is neither 0 nor 1
abbrev pub over_type : Option Config → Bool
over_type None = true
over_type (Some c) = false

-- REF-20: over 16 ports or 8 chargers, or no configuration
abbrev pub over_registered : Option Config → ℕ → ℕ → Bool
over_registered config ports chargers = ltb max_ports ports || (ltb max_chargers chargers || over_type config)

abbrev pub start_refusals : Option Config → ℕ → ℕ → List (Bool × ℕ)
start_refusals config ports chargers = (over_registered config ports chargers, 20) ∷ []

-- open

-- REF-23: port or charger not registered: kind 5 names a charger, every other kind, an unknown one too, a port
abbrev pub not_registered : ℕ → ℕ → ℕ → ℕ → Bool
not_registered ports chargers kind device = cond (eqb kind 5) (leb chargers device) (leb ports device)

-- REF-24: event kind not 0 to 5, reason (kind 3) above 6, charger's PSU state (kind 5) above 1
abbrev pub unknown_event : ℕ → ℕ → Bool
unknown_event kind detail = ltb 5 kind || cond (eqb kind 3) (ltb 6 detail) (eqb kind 5 && ltb 1 detail)

-- an order waits for its answer
abbrev pub waiting : Option Order → Bool
waiting None = false
waiting (Some o) = true

-- REF-28: PSU event after number 4,294,967,295; a charger's has no number
abbrev pub numbers_used : ℕ → ℕ → Bool
numbers_used kind number = not (eqb kind 5) && eqb number largest

-- REF-25: an event is open
abbrev pub open_conditions : ℕ → ℕ → Bool → ℕ → ℕ → ℕ → ℕ → List (Bool × ℕ)
open_conditions ports chargers waits number kind device detail =
    (not_registered ports chargers kind device, 23)
    ∷ (unknown_event kind detail, 24)
    ∷ (waits, 25)
    ∷ (numbers_used kind number, 28)
    ∷ []

-- answer

-- an error that the order does not fail with: a wait with any, a charger's order with any but 9
abbrev pub other_error : Order → ℕ → Bool
other_error (Order.Disconnect p) a = false
other_error (Order.ConnectConsumer p c) a = false
other_error (Order.ConnectProvider p c) a = false
other_error (Order.IsReady i) a = not (eqb a 9)
other_error (Order.InitCharger i) a = not (eqb a 9)
other_error (Order.Attach i c) a = not (eqb a 9)
other_error (Order.Detach i) a = not (eqb a 9)
other_error Order.Wait a = true

abbrev pub other_error_in : Option Order → ℕ → Bool
other_error_in None a = false
other_error_in (Some o) a = other_error o a

-- REF-24: answer above 10; a failed wait (EVT-7); a charger order failed other than by 9
abbrev pub unknown_answer : Option Order → ℕ → Bool
unknown_answer o a = ltb 10 a || (not (eqb a 0) && other_error_in o a)

-- REF-26: answer with no order open
abbrev pub answer_conditions : Option Order → ℕ → List (Bool × ℕ)
answer_conditions o a = (unknown_answer o a, 24) ∷ (not (waiting o), 26) ∷ []

-- 24 alone: this number is no answer to the order
abbrev pub no_answer : Order → ℕ → Bool
no_answer o a = unknown_answer (Some o) a

-- both writes: REF-25 while an event is open, REF-27 before event 1

abbrev pub packet_conditions : Bool → ℕ → List (Bool × ℕ)
packet_conditions waits number = (waits, 25) ∷ (eqb number 0, 27) ∷ []

abbrev pub picture_conditions : Bool → List (Bool × ℕ)
picture_conditions waits = (waits, 25) ∷ []
