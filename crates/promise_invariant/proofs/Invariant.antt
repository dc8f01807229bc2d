-- A well-formed service stays well formed through every call: one that is turned back changes nothing, and an accepted one leads to a turn
-- that keeps it (Steps.antt), with one order more or the next number.
use Rattle.std.specs.Prelude.{Err, None, Ok, Option, Result, Some}
use mathlib.Core.Path.{◌≡◌, refl, sym, subst}
use mathlib.Core.Bool.{Bool, true, false, cond, ◌&&◌}
use mathlib.Core.List.{List, [], ◌∷◌}
use Prim.Native.Nat.{ℕ, zero, suc, ◌+◌, ◌*◌, ◌^◌, ◌≤◌, ◌<◌}
use native.Mathlib.Omega.{arith}
use lib.Dec.{eqb, leb}
use lib.ListN.{get_or}
use lib.Pow.{pow_pos}
use borrow.Author.Tests.{ltb-true, leb-false, eqb-true, le-leb, lt-ltb}
use Rattle.power_policy_interface.specs.Psu.{answers}
use Rattle.power_policy_interface.specs.Limits.{largest}
use Rattle.power_policy_interface.specs.declared.psu.Error.{Error}
use Rattle.power_policy_service.specs.Config.{ConfigFits}
use Rattle.power_policy_service.specs.declared.config.Config.{Config}
use Rattle.abstract_policy.specs.Refusals.{not_registered, unknown_event, numbers_used, first_refused, no_answer}
use Rattle.abstract_policy.specs.Given.{result_in, result_of, event_of}
use Rattle.abstract_policy.specs.Policy.{Call, open_event, give_answer, write_packet, write_picture}
use Rattle.abstract_policy.specs.declared.state.InternalState.{InternalState}
use Rattle.abstract_policy.specs.declared.state.Records.{Records}
use Rattle.abstract_policy.specs.declared.state.Registration.{Registration}
use Rattle.abstract_policy.specs.declared.order.Order.{Order}
use Rattle.abstract_policy.specs.declared.outcome.Step.{Step}
use Rattle.machine_state.specs.Memory.{no_notices}
use Rattle.machine_state.specs.Phase.{order_of, failed, outcome_of, switch_order, connect_order}
use Rattle.machine_state.specs.declared.memory.Memory.{Memory}
use Rattle.machine_state.specs.declared.phase.Phase.{Phase}
use Rattle.machine_state.specs.declared.phase.Turn.{Turn}
use Rattle.machine_update.specs.Update.{remember}
use Rattle.machine_process.specs.Process.{answered_of, process_of}
use Rattle.machine_service.specs.Refusals.{is_open, open_refusals}
use Rattle.machine_service.specs.Service.{fresh_service, stepped, refused, moved, opened_of, open_of, answer_of}
use Rattle.machine_service.specs.declared.Service.{Service}
use Rattle.machine_follows.specs.Machine.{stands_at}
use Rattle.machine_follows.specs.Served.{numbered}
use Rattle.machine_follows.proofs.Serves.{service, service_at, closed_answer, open_answer, moved_to, none_refused, below}
use Rattle.std.proofs.lemmas.Bool.{and_parts}
use Rattle.promise_run.specs.Run.{after_call, services, CallFits, CallsFit}
use Rattle.promise_run.specs.Sized.{RecordsFit}
use Rattle.bytes_service_image.specs.WellFormed.{error_fits, result_fits, number_fits}
use Rattle.promise_invariant.proofs.Good.{Good, StateGood, MemoryGood, Limits, Parts, parts, good}
use Rattle.promise_invariant.proofs.Steps.{TurnGood, orders_most_lem, process_good, answered_good}

-- nothing is told when an event is opened
cleared_good : (ports : ℕ) (s : InternalState) → StateGood ports s → MemoryGood ports (remember s no_notices)
cleared_good ports s h =
    record { state = h; notices = record { provider = refl; granted = tt; disconnected = refl; connected = refl; typed = tt; unconstrained = refl } }

-- a start

pub start_good : (c : Config) (ports chargers : ℕ) → ports ≤ 16 → chargers ≤ 8 → ConfigFits c → Good (fresh_service c ports chargers)
start_good c ports chargers p q t =
    good (fresh_service c ports chargers)
    (record {
      limits = record { ports = p; chargers = q; config = t };
      number = omega arith;
      next = refl;
      stands = record {
        fits = refl;
        typed = tt;
        least = omega arith;
        most = omega arith;
        memory =
            cleared_good ports _
            (record { consumer = refl; typed = tt; available = le-leb 0 ports (omega arith); tracked = lt-ltb 0 (2 ^ ports) (pow_pos ports); few = refl });
        told = refl;
      };
    })

-- the end of an accepted call: the order counts, or the event has its number

number_next : (g : Registration) (number : ℕ) (p : Phase) (m : Memory) → number < largest →
    (numbered number (stands_at g p m) ≤ largest) × (number_fits p (numbered number (stands_at g p m)) ≡ true)
number_next g number (Phase.Closed a) m l = (l, refl)
number_next g number (Phase.Leaving i p f) m l = (omega arith, lt-ltb number largest l)
number_next g number (Phase.Switching q old f new) m l = (omega arith, lt-ltb number largest l)
number_next g number (Phase.Connecting s new) m l = (omega arith, lt-ltb number largest l)
number_next g number (Phase.Providing p c) m l = (omega arith, lt-ltb number largest l)

moved_good : (g : Registration) (number k : ℕ) (t : Turn) → Limits g → number < largest → k ≤ 3 + 4 * g.chargers → TurnGood g k t → Parts (moved g number k t).service
moved_good g number k t limits l few h =
    let n = number_next g number t.phase t.memory l in
    let z : Parts (service_at g number k t.phase t.memory) = record { limits = limits; number = n.0; next = n.1; stands = h } in
    subst Parts (sym (moved_to g number k t.phase t.memory l (omega (arith, few, limits.chargers)))) z

-- an opening

first_not_refused : (a : Bool) (n : ℕ) → cond a 23 n ≡ 0 → a ≡ false
first_not_refused true n e = absurd (omega (arith, e))
first_not_refused false n e = refl

pub open_good : (s : Service) (kind device detail : ℕ) (r : Records) → RecordsFit r → Good s → Good (open_of s kind device detail r).service
open_good s kind device detail r w h = go (eqb n 0) refl (eqb kind 5) refl
  where
    g : Registration
    g = s.registration

    n : ℕ
    n = first_refused (open_refusals s kind device detail)

    q : Parts s
    q = parts s h

    accepted : n ≡ 0 → eqb kind 5 ≡ false → Parts (opened_of s device (event_of kind detail) r).service
    accepted e f =
        let port : leb g.ports device ≡ false = rw f at (first_not_refused (not_registered g.ports g.chargers kind device) _ e) in
        let number : s.number < largest =
        below s.number (eqb kind 5) f q.number
        (none_refused (not_registered g.ports g.chargers kind device) (unknown_event kind detail) (is_open s.phase) (numbers_used kind s.number) e).3 in
        moved_good g s.number 0 (process_of g (remember s.memory.state no_notices) device (event_of kind detail) r) q.limits number (omega arith)
        (process_good g q.limits r s.memory.state device (event_of kind detail) w (cleared_good g.ports s.memory.state q.stands.memory.state)
        (lt-ltb device g.ports (leb-false g.ports device port)))

    go : (a : Bool) → eqb n 0 ≡ a → (b : Bool) → eqb kind 5 ≡ b →
        Good (cond a (cond b (stepped (Ok (Step.Closed (Ok tt) 0)) s) (opened_of s device (event_of kind detail) r)) (refused n s)).service
    go true e true f = h
    go true e false f = good (opened_of s device (event_of kind detail) r).service (accepted (eqb-true n 0 e) f)
    go false e b f = h

-- an answer

abbrev all_fit : List (Option (Result (Unit {0}) Error)) → Bool
all_fit [] = true
all_fit (a ∷ l) = result_fits (result_in a) && all_fit l

one_fits : (l : List (Option (Result (Unit {0}) Error))) (n : ℕ) → all_fit l ≡ true → result_fits (result_in (get_or l n None)) ≡ true
one_fits [] n e = refl
one_fits (a ∷ l) zero e = (and_parts (result_fits (result_in a)) (all_fit l) e).0
one_fits (a ∷ l) (suc n) e = one_fits l n (and_parts (result_fits (result_in a)) (all_fit l) e).1

failed_fits : (o : Order) (e : Error) → error_fits e ≡ true → result_fits (failed o e) ≡ true
failed_fits (Order.Disconnect p) e h = h
failed_fits (Order.ConnectConsumer p c) e h = h
failed_fits (Order.ConnectProvider p c) e h = h
failed_fits (Order.IsReady i) e h = refl
failed_fits (Order.InitCharger i) e h = refl
failed_fits (Order.Attach i c) e h = refl
failed_fits (Order.Detach i) e h = refl
failed_fits Order.Wait e h = refl

pub outcome_fits : (o : Order) (a : Result (Unit {0}) Error) → result_fits a ≡ true → result_fits (outcome_of o a) ≡ true
outcome_fits o (Ok tt) h = refl
outcome_fits o (Err e) h = failed_fits o e h

open_answered : (g : Registration) (number k : ℕ) (p : Phase) (m : Memory) (o : Order) (a : ℕ) (r : Records) → order_of p ≡ Some o →
    Parts (service g number k p m) → Parts (answer_of (service g number k p m) a r).service
open_answered g number k p m o a r e h = subst Parts (sym (open_answer g number k p m o a r e)) (go (no_answer o a))
  where
    t : Turn
    t = answered_of g p o m (result_of a) r

    go : (b : Bool) → Parts (cond b (refused 24 (service g number k p m)) (moved g number k t)).service
    go true = h
    go false =
        moved_good g number k t h.limits (ltb-true number largest (rw e at h.next)) (orders_most_lem h.stands)
        (answered_good g h.limits r (outcome_of o (result_of a)) p m k (outcome_fits o (result_of a) (one_fits answers a refl)) h.stands)

answered : (g : Registration) (number k : ℕ) (p : Phase) (m : Memory) (a : ℕ) (r : Records) →
    Parts (service g number k p m) → Parts (answer_of (service g number k p m) a r).service
answered g number k (Phase.Closed x) m a r h = subst Parts (sym (closed_answer g number k x m a r)) h
answered g number k (Phase.Leaving i p f) m a r h = open_answered g number k (Phase.Leaving i p f) m (Order.Detach i) a r refl h
answered g number k (Phase.Switching l old f new) m a r h = open_answered g number k (Phase.Switching l old f new) m (switch_order l old) a r refl h
answered g number k (Phase.Connecting s new) m a r h = open_answered g number k (Phase.Connecting s new) m (connect_order s new) a r refl h
answered g number k (Phase.Providing p c) m a r h = open_answered g number k (Phase.Providing p c) m (Order.ConnectProvider p c) a r refl h

-- whatever the records are: an answer takes no figures from them
pub answer_good : (s : Service) (a : ℕ) (r : Records) → Good s → Good (answer_of s a r).service
answer_good s a r h = good (answer_of s a r).service (answered s.registration s.number s.orders s.phase s.memory a r (parts s h))

-- every call, and lists of them

pub after_good : (s : Service) (c : Call) → CallFits c → Good s → Good (after_call s c)
after_good s (open_event kind device detail r) w h = open_good s kind device detail r w h
after_good s (give_answer a r) w h = answer_good s a r h
after_good s write_packet w h = h
after_good s write_picture w h = h

pub services_good : (l : List Call) (s : Service) → CallsFit l → Good s → Good (services s l)
services_good [] s w h = h
services_good (c ∷ l) s w h = services_good l (after_call s c) w.1 (after_good s c w.0 h)
