-- The number that a call returns is the first that applies: the lists go by the order, whatever the call, and each definition looks at its conditions in it.
use Rattle.std.specs.Prelude.{Err, None, Ok, Option, Result, Some, is_none}
use mathlib.Core.Path.{◌≡◌, refl, sym, ap, ◌∙◌}
use mathlib.Core.Bool.{Bool, true, false, cond, not, ◌||◌}
use mathlib.Core.List.{List, [], ◌∷◌, ◌++◌}
use Prim.Native.Nat.{ℕ, ◌%◌}
use native.Mathlib.Omega.{arith}
use lib.Dec.{eqb, ltb}
use lib.ListN.{length}
use borrow.Author.Tests.{eqb-true, eqb-false}
use Rattle.power_policy_interface.specs.Limits.{service_length}
use Rattle.power_policy_interface.specs.declared.psu.Error.{Error}
use Rattle.power_policy_service.specs.declared.config.Config.{Config}
use Rattle.abstract_policy.specs.Refusals.{first_refused, Ascending, First, over_registered}
use Rattle.abstract_policy.specs.Given.{event_of, result_of}
use Rattle.abstract_policy.specs.declared.state.Records.{Records}
use Rattle.abstract_policy.specs.declared.state.Registration.{Registration}
use Rattle.abstract_policy.specs.declared.order.Order.{Order}
use Rattle.abstract_policy.specs.declared.outcome.Step.{Step}
use Rattle.abstract_policy.proofs.First.{first}
use Rattle.machine_state.specs.Phase.{order_of}
use Rattle.machine_state.specs.declared.phase.Phase.{Phase}
use Rattle.machine_state.specs.declared.phase.Turn.{Turn}
use Rattle.machine_process.specs.Process.{process_of, answered_of}
use Rattle.machine_service.specs.Refusals.{is_open, open_refusals, answer_refusals}
use Rattle.machine_service.specs.Service.{Stepped, stepped, refused, moved_by, cleared_of, opened_of, open_of, order_in, answered_by, answer_of, answer_in, fresh_service}
use Rattle.machine_service.specs.declared.Service.{Service}
use Rattle.machine_service.specs.Send.{packet_of, picture_of, packet_refusals, picture_refusals}
use Rattle.wire.specs.Bytes.{event_bytes, picture_bytes}
use Rattle.abstract_calls.specs.Called.{called, refused_call}
use Rattle.abstract_calls.specs.Lent.{rows_in, written_as, written_call, packet_call, picture_call}
use Rattle.abstract_calls.specs.Numbers.{refused_number, written_number, done_number}
use Rattle.abstract_calls.specs.ServiceCall.{ByteCall, open_event, give_answer, read_order, write_packet, write_picture, wrong_rows, short}
use Rattle.abstract_calls.specs.Calls.{returned}
use Rattle.abstract_calls.specs.Definition.{start_conditions, Refuses}
use Rattle.abstract_calls.proofs.Results.{order_low, closed_low, written_low, done_low}
use Rattle.bytes_service_image.specs.Image.{service_bytes, service_from}
use Rattle.bytes_calls.specs.Calls.{stepped_call, with_rows, on_service, stand_number, order_call, write_packet_call, write_picture_call, start_call, started_call}
use Rattle.abi_functions.specs.Ours.{functions}
use Rattle.promise_calls.proofs.Low.{not_two, refused_first}
use Rattle.promise_calls.specs.Refused.{of_image, conditions}

-- an order and a close have another low byte than a refusal

moved_low : (b : List ℕ) (o : Option Order) (g : Registration) (n k : ℕ) (t : Turn) → (stepped_call b (moved_by o g n k t)).number % 256 ≡ 0 → ⊥
moved_low b None g n k t e = not_two (closed_low (answer_in t.phase) k) e refl
moved_low b (Some o) g n k t e = not_two (order_low o) e refl

-- a call that makes a step: 21 and 22, then the first number of a list decides

step_refuses : (b : List ℕ) (s : Service) (psus chargers : List ℕ) (l : List (Bool × ℕ)) (x : Records → Stepped)
    → ((t : Bool) → Ascending ((false, 21) ∷ (t, 22) ∷ l))
    → ((r : Records) → (stepped_call b (x r)).number % 256 ≡ 0 → ⊥)
    → Refuses (of_image (Some s) (λ s. wrong_rows s.registration psus chargers ∷ l))
    (on_service b (Some s) psus chargers (λ s r. cond (eqb (first_refused l) 0) (x r) (refused (first_refused l) s))).number
step_refuses b s psus chargers l x low free = go (rows_in s.registration psus chargers)
  where
    n : ℕ
    n = first_refused l

    back : (r : Records) (t : Bool) → eqb n 0 ≡ t → (n ≡ 0 → ⊥) → (stepped_call b (cond t (x r) (refused n s))).number ≡ refused_number n
    back r true e z = absurd (z (eqb-true n 0 e))
    back r false e z = refl

    goes : (r : Records) (t : Bool) → eqb n 0 ≡ t → n ≡ 0 → (stepped_call b (cond t (x r) (refused n s))).number % 256 ≡ 0 → ⊥
    goes r true e z = free r
    goes r false e z = absurd (eqb-false n 0 e z)

    go : (o : Option Records) → Refuses ((false, 21) ∷ (is_none o, 22) ∷ l) (with_rows b o (λ r. cond (eqb n 0) (x r) (refused n s))).number
    go (Some r) = record { first = first _ (low false); turned_back = back r (eqb n 0) refl; accepted = goes r (eqb n 0) refl }
    go None = refused_first _ 22 (low true) refl refl

-- open and answer

opened_low : (b : List ℕ) (s : Service) (kind device detail : ℕ) (r : Records) (t : Bool)
    → (stepped_call b (cond t (stepped (Ok (Step.Closed (Ok tt) 0)) s) (opened_of s device (event_of kind detail) r))).number % 256 ≡ 0 → ⊥
opened_low b s kind device detail r true e = not_two (closed_low (Ok tt) 0) e refl
opened_low b s kind device detail r false e =
    let t = process_of s.registration (cleared_of s) device (event_of kind detail) r in
    moved_low b (order_of t.phase) s.registration s.number 0 t e

open_refuses : (b : List ℕ) (r : Option Service) (psus chargers : List ℕ) (kind device detail : ℕ)
    → Refuses (of_image r (λ s. wrong_rows s.registration psus chargers ∷ open_refusals s kind device detail))
    (on_service b r psus chargers (λ s x. open_of s kind device detail x)).number
open_refuses b None psus chargers kind device detail = refused_first _ 21 refl refl refl
open_refuses b (Some s) psus chargers kind device detail =
    step_refuses b s psus chargers (open_refusals s kind device detail)
    (λ r. cond (eqb kind 5) (stepped (Ok (Step.Closed (Ok tt) 0)) s) (opened_of s device (event_of kind detail) r))
    (λ t. refl) (λ r. opened_low b s kind device detail r (eqb kind 5))

answered_low : (b : List ℕ) (s : Service) (o : Order) (a : Result (Unit {0}) Error) (r : Records) → (stepped_call b (answered_by s o a r)).number % 256 ≡ 0 → ⊥
answered_low b s o a r e =
    let t = answered_of s.registration s.phase o s.memory a r in
    moved_low b (order_of t.phase) s.registration s.number s.orders t e

answer_refuses : (b : List ℕ) (r : Option Service) (psus chargers : List ℕ) (a : ℕ)
    → Refuses (of_image r (λ s. wrong_rows s.registration psus chargers ∷ answer_refusals s a)) (on_service b r psus chargers (λ s x. answer_of s a x)).number
answer_refuses b None psus chargers a = refused_first _ 21 refl refl refl
answer_refuses b (Some s) psus chargers a =
    step_refuses b s psus chargers (answer_refusals s a) (λ r. answered_by s (order_in (order_of s.phase)) (result_of a) r)
    (λ t. refl) (λ r. answered_low b s (order_in (order_of s.phase)) (result_of a) r)

-- order

stand_low : (o : Option Order) (p : Phase) (n : ℕ) → stand_number o p n % 256 ≡ 0 → ⊥
stand_low None p n e = not_two (closed_low (answer_in p) n) e refl
stand_low (Some o) p n e = not_two (order_low o) e refl

order_refuses : (r : Option Service) → Refuses (of_image r (λ s. [])) (order_call r)
order_refuses None = refused_first _ 21 refl refl refl
order_refuses (Some s) =
    record { first = first _ refl; turned_back = λ z. absurd (z refl); accepted = λ e. stand_low (order_of s.phase) s.phase s.orders }

-- the writes: the buffer is looked at last

written_at : (l : List (Bool × ℕ)) (bytes buffer : List ℕ) (t : Bool) → ltb (length buffer) 64 ≡ t → First l (first_refused l)
    → first_refused l ≡ cond t 29 0 → Refuses l (written_call bytes buffer).number
written_at l bytes buffer true e w q =
    let x : (written_call bytes buffer).number ≡ refused_number 29 =
    ap (λ (t : Bool). written_as (cond t (Err 29) (Ok (length bytes)))) e in
    record { first = w; turned_back = λ z. x ∙ ap refused_number (sym q); accepted = λ z. absurd (omega (arith, z, q)) }
written_at l bytes buffer false e w q =
    let x : (written_call bytes buffer).number ≡ written_number (length bytes) =
    ap (λ (t : Bool). written_as (cond t (Err 29) (Ok (length bytes)))) e in
    record {
      first = w;
      turned_back = λ z. absurd (z q);
      accepted = λ z y. not_two (written_low (length bytes)) (ap (λ (n : ℕ). n % 256) (sym x) ∙ y) refl;
    }

packet_refuses : (r : Option Service) (buffer : List ℕ) → Refuses (of_image r (λ s. packet_refusals s ++ short buffer)) (write_packet_call r buffer).number
packet_refuses None buffer = refused_first _ 21 refl refl refl
packet_refuses (Some s) buffer = go (is_open s.phase) (eqb s.number 0) (ltb (length buffer) 64) refl
  where
    go : (a z t : Bool) → ltb (length buffer) 64 ≡ t → Refuses ((false, 21) ∷ (a, 25) ∷ (z, 27) ∷ (t, 29) ∷ [])
        (packet_call (cond (eqb (cond a 25 (cond z 27 0)) 0) (Ok (packet_of s)) (Err (cond a 25 (cond z 27 0)))) buffer).number
    go true z t e = refused_first _ 25 refl refl refl
    go false true t e = refused_first _ 27 refl refl refl
    go false false t e = written_at _ (event_bytes (packet_of s)) buffer t e (first _ refl) refl

picture_refuses : (r : Option Service) (buffer : List ℕ) → Refuses (of_image r (λ s. picture_refusals s ++ short buffer)) (write_picture_call r buffer).number
picture_refuses None buffer = refused_first _ 21 refl refl refl
picture_refuses (Some s) buffer = go (is_open s.phase) (ltb (length buffer) 64) refl
  where
    go : (a t : Bool) → ltb (length buffer) 64 ≡ t → Refuses ((false, 21) ∷ (a, 25) ∷ (t, 29) ∷ [])
        (picture_call (cond (eqb (cond a 25 0) 0) (Ok (picture_of s)) (Err (cond a 25 0))) buffer).number
    go true t e = refused_first _ 25 refl refl refl
    go false t e = written_at _ (picture_bytes (picture_of s)) buffer t e (first _ refl) refl

-- every call, on any bytes
pub call_refuses : (b : List ℕ) (c : ByteCall) → Refuses (conditions b c) (returned functions b c)
call_refuses b (open_event psus chargers kind device detail) = open_refuses b (service_from b) psus chargers kind device detail
call_refuses b (give_answer psus chargers a) = answer_refuses b (service_from b) psus chargers a
call_refuses b read_order = order_refuses (service_from b)
call_refuses b (write_packet buffer) = packet_refuses (service_from b) buffer
call_refuses b (write_picture buffer) = picture_refuses (service_from b) buffer

-- and a start

pub start_refuses : (image : List ℕ) (config : Option Config) (ports chargers : ℕ)
    → Refuses (start_conditions image config ports chargers) (start_call image config ports chargers).number
start_refuses image None ports chargers = go (ltb 16 ports) (ltb 8 chargers)
  where
    go : (x y : Bool) → Refuses ((x || (y || true), 20) ∷ (not (eqb (length image) service_length), 21) ∷ [])
        (started_call image (cond (eqb (cond (x || (y || true)) 20 0) 0) (Err 20) (Err (cond (x || (y || true)) 20 0)))).number
    go true y = refused_first _ 20 refl refl refl
    go false true = refused_first _ 20 refl refl refl
    go false false = refused_first _ 20 refl refl refl
start_refuses image (Some c) ports chargers = go (over_registered (Some c) ports chargers) (eqb (length image) service_length) refl
  where
    s : Service
    s = fresh_service c ports chargers

    -- 20 does not apply: the length decides
    at : (t : Bool) → eqb (length image) service_length ≡ t → (started_call image (Ok s)).number ≡ (cond t (called done_number (service_bytes s)) (refused_call 21 image)).number
    at t e = ap (λ (x : Bool). (cond x (called done_number (service_bytes s)) (refused_call 21 image)).number) e

    go : (o t : Bool) → eqb (length image) service_length ≡ t → Refuses ((o, 20) ∷ (not t, 21) ∷ [])
        (started_call image (cond (eqb (cond o 20 0) 0) (Ok s) (Err (cond o 20 0)))).number
    go true t e = refused_first _ 20 refl refl refl
    go false true e =
        record {
          first = first _ refl;
          turned_back = λ z. absurd (z refl);
          accepted = λ z q. not_two done_low (ap (λ (n : ℕ). n % 256) (sym (at true e)) ∙ q) refl;
        }
    go false false e = record { first = first _ refl; turned_back = λ z. at false e; accepted = λ z. absurd (omega (arith, z)) }
