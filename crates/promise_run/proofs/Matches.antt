-- The machine and the definition go through a run together: a call that is turned back changes neither, an accepted one leads both to the
-- same rest (machine_follows Follows.antt), and at each close the notices lead from what was held before (abstract_policy Carries.antt).
use Rattle.std.specs.Prelude.{Ok, Result, Some}
use mathlib.Core.Path.{◌≡◌, refl, sym, ap, ◌∙◌, subst}
use mathlib.Core.Bool.{Bool, true, false, cond}
use mathlib.Core.List.{List, []}
use Prim.Native.Nat.{ℕ, zero, suc, ◌+◌, ◌*◌, ◌<◌, ◌≤◌}
use native.Mathlib.Omega.{arith}
use lib.Dec.{leb, eqb}
use borrow.Author.Tests.{le-leb, leb-false, eqb-true}
use Rattle.power_policy_interface.specs.declared.psu.Error.{Error}
use Rattle.power_policy_interface.specs.declared.service.event.Event.{Event}
use Rattle.interface_display.specs.Notices.{applied_all}
use Rattle.power_policy_service.specs.Config.{ConfigFits}
use Rattle.abstract_policy.specs.State.{fresh_state, display_of}
use Rattle.abstract_policy.specs.Refusals.{first_refused, open_conditions, not_registered, unknown_event, numbers_used, no_answer}
use Rattle.abstract_policy.specs.Given.{result_of, event_of}
use Rattle.abstract_policy.specs.Action.{Held, Interaction, done, ask}
use Rattle.abstract_policy.specs.Ends.{Leads, Carries, AtMost}
use Rattle.abstract_policy.specs.Interaction.{close, event}
use Rattle.abstract_policy.specs.Policy.{Call, open_event, give_answer, write_packet, write_picture, between, Policy, proceeds, is_at, answers, policy_after}
use Rattle.abstract_policy.specs.declared.state.InternalState.{InternalState}
use Rattle.abstract_policy.specs.declared.state.Records.{Records}
use Rattle.abstract_policy.specs.declared.state.Registration.{Registration}
use Rattle.abstract_policy.specs.declared.order.Order.{Order}
use Rattle.abstract_policy.specs.declared.outcome.Step.{Step}
use Rattle.abstract_policy.proofs.Bound.{event_bound}
use Rattle.abstract_policy.proofs.Carries.{event_carries}
use Rattle.abstract_policy.proofs.Logic.{ends_ok}
use Rattle.machine_state.specs.Memory.{no_notices}
use Rattle.machine_state.specs.Phase.{order_of, outcome_of, switch_order, connect_order}
use Rattle.machine_state.specs.declared.memory.Memory.{Memory}
use Rattle.machine_state.specs.declared.phase.Phase.{Phase}
use Rattle.machine_state.specs.declared.phase.Turn.{Turn}
use Rattle.machine_update.specs.Update.{remember}
use Rattle.machine_process.specs.Process.{answered_of, process_of}
use Rattle.machine_service.specs.Refusals.{is_open}
use Rattle.machine_service.specs.Service.{stepped, moved, answer_of, opened_of, open_of, refused}
use Rattle.machine_service.specs.declared.Service.{Service}
use Rattle.machine_follows.specs.Machine.{held_of, listed, rest, stands_at, stands_for, Fits}
use Rattle.machine_follows.proofs.Follows.{opened, leaving_answered, switching_answered, connecting_answered, providing_answered}
use Rattle.machine_follows.proofs.Kept.{FitsTurn, opened_fits, answered_fits}
use Rattle.machine_follows.proofs.Serves.{service, service_at, closed_answer, open_answer, moved_to, none_refused, below}
use Rattle.promise_run.specs.Run.{after_call, CallFits}
use Rattle.promise_run.specs.Demands.{stand_of}
use Rattle.promise_run.specs.Sized.{RecordsFit}
use Rattle.promise_run.proofs.Sized.{StateFits, HeldFits, Sized, event_sized}
use Rattle.std.proofs.lemmas.Bool.{true≢false}
use native.Mathlib.Nat.{add-zero}
use native.Mathlib.Numerals.{add-one}

-- what the event closed last has left
pub record Last : Type 0 where
  pub state : InternalState
  pub answer : Result (Unit {0}) Error
  pub orders : ℕ
  pub notices : List Event

abbrev pub last_of : ℕ → Result (Unit {0}) Error → Held → Last
last_of given a h = record { state = h.state; answer = a; orders = given; notices = h.notices }

-- nothing yet
abbrev pub first_last : Last
first_last = last_of 0 (Ok tt) (record { state = fresh_state; notices = [] })

-- the definition where the machine is, with what the event closed last has left
abbrev pub policy_of : Service → Last → Policy
policy_of s held =
    record {
      registration = s.registration;
      number = s.number;
      state = held.state;
      answer = held.answer;
      orders = held.orders;
      notices = held.notices;
      stand = stand_of s.orders (stands_at s.registration s.phase s.memory);
    }

-- an open event: so many orders before the open one, and so many at most from it on
pub record Open (g : Registration) (number given : ℕ) (p : Phase) (m : Memory) (held : Last) : Type 0 where
  pub fits : Fits g.chargers p m.notices
  pub before : ℕ
  pub more : ℕ
  pub most : AtMost more (stands_at g p m)
  pub sum : before + more ≤ 35
  pub counted : given ≡ before + 1
  pub carries : Carries (display_of held.state) (stands_at g p m)
  pub below : number < 4294967295
  pub sized : Sized (stands_at g p m)

-- a closed one: what it left is what the machine has, and without error its notices lead there from what was held before
pub record Closed (given : ℕ) (a : Result (Unit {0}) Error) (m : Memory) (held : Last) (before : InternalState) : Type 0 where
  pub same : last_of given a (held_of m) ≡ held
  pub few : given ≤ 35
  pub leads : a ≡ (Ok tt) → display_of held.state ≡ applied_all (listed m.notices) (display_of before)
  pub sized : HeldFits (held_of m)

abbrev pub StateAt : Registration → ℕ → ℕ → Phase → Memory → Last → InternalState → Type 0
StateAt g number given (Phase.Closed a) m held before = Closed given a m held before
StateAt g number given (Phase.Leaving i p f) m held before = Open g number given (Phase.Leaving i p f) m held
StateAt g number given (Phase.Switching l old f new) m held before = Open g number given (Phase.Switching l old f new) m held
StateAt g number given (Phase.Connecting s new) m held before = Open g number given (Phase.Connecting s new) m held
StateAt g number given (Phase.Providing p c) m held before = Open g number given (Phase.Providing p c) m held

-- what a start accepts
pub record Limits (g : Registration) : Type 0 where
  pub chargers : g.chargers ≤ 8
  pub ports : g.ports ≤ 16
  pub config : ConfigFits g.config

pub record Runs (s : Service) (held : Last) (before : InternalState) : Type 0 where
  pub limits : Limits s.registration
  pub number : s.number ≤ 4294967295
  pub state : StateAt s.registration s.number s.orders s.phase s.memory held before

-- what was held before the last close, when an event goes on to this
abbrev pub next_before : Interaction → Last → InternalState → InternalState
next_before (done a h) held before = held.state
next_before (ask o k) held before = before

-- what the last close has left, when an event goes on to this after so many orders
abbrev pub next_held : ℕ → Interaction → Last → Last
next_held given (done a h) held = last_of given a h
next_held given (ask o k) held = held

-- the end of an accepted call: both proceed

pub proceeds_both : (g : Registration) (number given more : ℕ) (p : Phase) (m : Memory) (held : Last) (before : InternalState) → Limits g → number < 4294967295 →
    Fits g.chargers p m.notices → AtMost more (stands_at g p m) → given + more ≤ 35 → Carries (display_of held.state) (stands_at g p m) → Sized (stands_at g p m) →
    Runs (service_at g number given p m) (next_held given (stands_at g p m) held) (next_before (stands_at g p m) held before)
proceeds_both g number given more (Phase.Closed a) m held before le nb f am su ca sz = record {
  limits = le;
  number = omega (arith, nb);
  state = record { same = ap (λ n. last_of n a (held_of m)) (add-zero given); few = omega (arith, su); leads = λ e. ends_ok (Leads (display_of held.state)) a (held_of m) ca e; sized = sz };
}
proceeds_both g number given more (Phase.Leaving i p x) m held before le nb f am su ca sz = record {
  limits = le;
  number = omega (arith, nb);
  state = record { fits = f; before = given; more = more; most = am; sum = su; counted = refl; carries = ca; below = nb; sized = sz };
}
proceeds_both g number given more (Phase.Switching l old x new) m held before le nb f am su ca sz = record {
  limits = le;
  number = omega (arith, nb);
  state = record { fits = f; before = given; more = more; most = am; sum = su; counted = refl; carries = ca; below = nb; sized = sz };
}
proceeds_both g number given more (Phase.Connecting s new) m held before le nb f am su ca sz = record {
  limits = le;
  number = omega (arith, nb);
  state = record { fits = f; before = given; more = more; most = am; sum = su; counted = refl; carries = ca; below = nb; sized = sz };
}
proceeds_both g number given more (Phase.Providing p c) m held before le nb f am su ca sz = record {
  limits = le;
  number = omega (arith, nb);
  state = record { fits = f; before = given; more = more; most = am; sum = su; counted = refl; carries = ca; below = nb; sized = sz };
}

-- and the definition is where the machine is
pub proceeds_same : (g : Registration) (number given : ℕ) (p : Phase) (m : Memory) (q : Policy) → q.registration ≡ g → q.number ≡ number →
    proceeds q given (stands_at g p m) ≡ policy_of (service_at g number given p m) (next_held given (stands_at g p m) (record { state = q.state; answer = q.answer; orders = q.orders; notices = q.notices }))
proceeds_same g number given (Phase.Closed a) m q eg en = λ i. record { registration = eg i; number = suc (en i); state = m.state; answer = a; orders = given; notices = listed m.notices; stand = between }
proceeds_same g number given (Phase.Leaving j p f) m q eg en = λ i. record { registration = eg i; number = en i; state = q.state; answer = q.answer; orders = q.orders; notices = q.notices; stand = stand_of (sym (add-one given) i) (stands_at g (Phase.Leaving j p f) m) }
proceeds_same g number given (Phase.Switching l old f new) m q eg en = λ i. record { registration = eg i; number = en i; state = q.state; answer = q.answer; orders = q.orders; notices = q.notices; stand = stand_of (sym (add-one given) i) (stands_at g (Phase.Switching l old f new) m) }
proceeds_same g number given (Phase.Connecting s new) m q eg en = λ i. record { registration = eg i; number = en i; state = q.state; answer = q.answer; orders = q.orders; notices = q.notices; stand = stand_of (sym (add-one given) i) (stands_at g (Phase.Connecting s new) m) }
proceeds_same g number given (Phase.Providing p c) m q eg en = λ i. record { registration = eg i; number = en i; state = q.state; answer = q.answer; orders = q.orders; notices = q.notices; stand = stand_of (sym (add-one given) i) (stands_at g (Phase.Providing p c) m) }

-- one call

-- how a call moves a run: nothing changes; an event is open after it; or one has closed
pub data Moved (s t : Service) (held heldₜ : Last) (before beforeₜ : InternalState) : Type 0 where
  stays : t ≡ s → heldₜ ≡ held → beforeₜ ≡ before → Moved s t held heldₜ before beforeₜ
  asks : is_open t.phase ≡ true → t.number ≡ s.number → heldₜ ≡ held → beforeₜ ≡ before → Moved s t held heldₜ before beforeₜ
  closes : t.number ≡ suc s.number → beforeₜ ≡ held.state → Moved s t held heldₜ before beforeₜ

pub record Went (s : Service) (held : Last) (before : InternalState) (c : Call) (t : Service) : Type 0 where
  pub heldₜ : Last
  pub beforeₜ : InternalState
  pub same : policy_after (policy_of s held) c ≡ policy_of t heldₜ
  pub runs : Runs t heldₜ beforeₜ
  pub moves : Moved s t held heldₜ before beforeₜ

stayed : (s : Service) (held : Last) (before : InternalState) (c : Call) → Runs s held before → policy_after (policy_of s held) c ≡ policy_of s held → Went s held before c s
stayed s held before c r e = record { heldₜ = held; beforeₜ = before; same = e; runs = r; moves = stays refl refl refl }

moved_on : (g : Registration) (number given k : ℕ) (p q : Phase) (m n : Memory) (held : Last) (before : InternalState) →
    Moved (service g number k q n) (service_at g number given p m) held (next_held given (stands_at g p m) held) before (next_before (stands_at g p m) held before)
moved_on g number given k (Phase.Closed a) q m n held before = closes refl refl
moved_on g number given k (Phase.Leaving i p f) q m n held before = asks refl refl refl refl
moved_on g number given k (Phase.Switching l old f new) q m n held before = asks refl refl refl refl
moved_on g number given k (Phase.Connecting s new) q m n held before = asks refl refl refl refl
moved_on g number given k (Phase.Providing p c) q m n held before = asks refl refl refl refl

-- a turn that stands for what the definition goes on with
went : (g : Registration) (number given k more : ℕ) (t : Turn) (q : Phase) (n : Memory) (held : Last) (before : InternalState) (c : Call) (i : Interaction) → Limits g → number < 4294967295 →
    stands_for g t ≡ i → FitsTurn g t → AtMost more i → given + more ≤ 35 → Carries (display_of held.state) i → Sized i →
    policy_after (policy_of (service g number k q n) held) c ≡ proceeds (policy_of (service g number k q n) held) given i →
    Went (service g number k q n) held before c (moved g number given t).service
went g number given k more t q n held before c i le nb e f am su ca sz pol =
    subst (λ z. Went (service g number k q n) held before c z) (sym (moved_to g number given t.phase t.memory nb (omega (arith, su))))
    (record {
      heldₜ = next_held given (stands_for g t) held;
      beforeₜ = next_before (stands_for g t) held before;
      same = pol ∙ (ap (λ z. proceeds (policy_of (service g number k q n) held) given z) (sym e) ∙ proceeds_same g number given t.phase t.memory (policy_of (service g number k q n) held) refl refl);
      runs = proceeds_both g number given more t.phase t.memory held before le nb f (subst (λ z. AtMost more z) (sym e) am) su (subst (λ z. Carries (display_of held.state) z) (sym e) ca) (subst Sized (sym e) sz);
      moves = moved_on g number given k t.phase q t.memory n held before;
    })

-- an answer at an open phase

answer_goes : (g : Registration) (number k : ℕ) (p : Phase) (m : Memory) (held : Last) (before : InternalState) (o : Order) (a : ℕ) (r : Records) → Limits g → RecordsFit r → number ≤ 4294967295 →
    order_of p ≡ Some o → stands_at g p m ≡ ask o (λ x y. rest g p x (held_of m) y close) →
    stands_for g (answered_of g p o m (result_of a) r) ≡ rest g p (result_of a) (held_of m) r close →
    StateAt g number k p m held before → Open g number k p m held →
    Went (service g number k p m) held before (give_answer a r) (answer_of (service g number k p m) a r).service
answer_goes g number k p m held before o a r le rf nb eo es e st op =
    subst (λ z. Went (service g number k p m) held before (give_answer a r) z) (sym (open_answer g number k p m o a r eo)) (go (no_answer o a) refl)
  where
    s : Service
    s = service g number k p m

    runs : Runs s held before
    runs = record { limits = le; number = nb; state = st }

    i : Interaction
    i = rest g p (result_of a) (held_of m) r close

    pol : policy_after (policy_of s held) (give_answer a r) ≡ cond (no_answer o a) (policy_of s held) (proceeds (policy_of s held) k i)
    pol = ap (λ z. answers (stand_of k z) (policy_of s held) a r) es

    fits_next : FitsTurn g (answered_of g p o m (result_of a) r)
    fits_next = answered_fits g p m (outcome_of o (result_of a)) r op.fits

    step : (n : ℕ) → AtMost n (stands_at g p m) → op.before + n ≤ 35 → Carries (display_of held.state) (stands_at g p m) → policy_after (policy_of s held) (give_answer a r) ≡ proceeds (policy_of s held) k i →
        Went s held before (give_answer a r) (moved g number k (answered_of g p o m (result_of a) r)).service
    step zero am su ca po = absurd (subst (λ z. AtMost zero z) es am)
    step (suc n) am su ca po =
        went g number k k n (answered_of g p o m (result_of a) r) p m held before (give_answer a r) i le op.below e fits_next
        (subst (λ z. AtMost (suc n) z) es am (result_of a) r)
        (omega (arith, su, op.counted))
        (subst (λ z. Carries (display_of held.state) z) es ca (result_of a) r)
        (subst Sized es op.sized (result_of a) r rf)
        po

    go : (b : Bool) → no_answer o a ≡ b →
        Went s held before (give_answer a r) (cond b (refused 24 s) (moved g number k (answered_of g p o m (result_of a) r))).service
    go true x = stayed s held before (give_answer a r) runs (pol ∙ ap (λ z. cond z (policy_of s held) (proceeds (policy_of s held) k i)) x)
    go false x = step op.more op.most op.sum op.carries (pol ∙ ap (λ z. cond z (policy_of s held) (proceeds (policy_of s held) k i)) x)

-- an opening

pub open_is : (n : ℕ) (g : Registration) (p : Phase) (m : Memory) → is_at (stand_of n (stands_at g p m)) ≡ is_open p
open_is n g (Phase.Closed a) m = refl
open_is n g (Phase.Leaving i p f) m = refl
open_is n g (Phase.Switching l old f new) m = refl
open_is n g (Phase.Connecting s new) m = refl
open_is n g (Phase.Providing p c) m = refl

module _ (g : Registration) (number k : ℕ) (kind device detail : ℕ) (r : Records) where
  abbrev conditions : Bool → ℕ
  conditions waits = first_refused (open_conditions g.ports g.chargers waits number kind device detail)

  -- between events: the machine and the definition open the same event
  open_closed : (a : Result (Unit {0}) Error) (m : Memory) (held : Last) (before : InternalState) → Limits g → RecordsFit r → number ≤ 4294967295 → Closed k a m held before →
      Went (service g number k (Phase.Closed a) m) held before (open_event kind device detail r) (open_of (service g number k (Phase.Closed a) m) kind device detail r).service
  open_closed a m held before le rf nb st = go (eqb (conditions false) 0) refl (eqb kind 5) refl
    where
      s : Service
      s = service g number k (Phase.Closed a) m

      runs : Runs s held before
      runs = record { limits = le; number = nb; state = st }

      i : Interaction
      i = event g device (event_of kind detail) held.state r

      same-state : m.state ≡ held.state
      same-state = ap (λ (x : Last). x.state) st.same

      t : InternalState → Turn
      t x = process_of g (remember x no_notices) device (event_of kind detail) r

      go : (x : Bool) → eqb (conditions false) 0 ≡ x → (y : Bool) → eqb kind 5 ≡ y →
          Went s held before (open_event kind device detail r) (open_of s kind device detail r).service
      go false ex y ey =
          subst (λ z. Went s held before (open_event kind device detail r) z)
          (sym (ap (λ b. (cond b (cond (eqb kind 5) (stepped (Ok (Step.Closed (Ok tt) 0)) s) (opened_of s device (event_of kind detail) r)) (refused (conditions false) s)).service) ex))
          (stayed s held before (open_event kind device detail r) runs
          (ap (λ b. cond b (cond (eqb kind 5) (policy_of s held) (proceeds (policy_of s held) 0 i)) (policy_of s held)) ex))
      go true ex true ey =
          subst (λ z. Went s held before (open_event kind device detail r) z)
          (sym (ap (λ b. (cond b (cond (eqb kind 5) (stepped (Ok (Step.Closed (Ok tt) 0)) s) (opened_of s device (event_of kind detail) r)) (refused (conditions false) s)).service) ex
          ∙ ap (λ b. (cond b (stepped (Ok (Step.Closed (Ok tt) 0)) s) (opened_of s device (event_of kind detail) r)).service) ey))
          (stayed s held before (open_event kind device detail r) runs
          (ap (λ b. cond b (cond (eqb kind 5) (policy_of s held) (proceeds (policy_of s held) 0 i)) (policy_of s held)) ex
          ∙ ap (λ b. cond b (policy_of s held) (proceeds (policy_of s held) 0 i)) ey))
      go true ex false ey =
          let nr : not_registered g.ports g.chargers kind device ≡ false =
          (none_refused (not_registered g.ports g.chargers kind device) (unknown_event kind detail) false (numbers_used kind number) (eqb-true (conditions false) 0 ex)).0 in
          let lp : leb g.ports device ≡ false = sym (ap (λ b. cond b (leb g.chargers device) (leb g.ports device)) ey) ∙ nr in
          let port : leb device 15 ≡ true = le-leb device 15 (omega (arith, leb-false g.ports device lp, le.ports)) in
          let lt : number < 4294967295 = below number (eqb kind 5) ey nb (none_refused (not_registered g.ports g.chargers kind device) (unknown_event kind detail) false (numbers_used kind number) (eqb-true (conditions false) 0 ex)).3 in
          subst (λ z. Went s held before (open_event kind device detail r) z)
          (sym (ap (λ b. (cond b (cond (eqb kind 5) (stepped (Ok (Step.Closed (Ok tt) 0)) s) (opened_of s device (event_of kind detail) r)) (refused (conditions false) s)).service) ex
          ∙ (ap (λ b. (cond b (stepped (Ok (Step.Closed (Ok tt) 0)) s) (opened_of s device (event_of kind detail) r)).service) ey
          ∙ ap (λ x. (moved g number 0 (t x)).service) same-state)))
          (went g number 0 k (3 + 4 * g.chargers) (t held.state) (Phase.Closed a) m held before (open_event kind device detail r) i le lt
          (opened g held.state device (event_of kind detail) r) (opened_fits g held.state device (event_of kind detail) r)
          (event_bound g device (event_of kind detail) held.state r) (omega (arith, le.chargers)) (event_carries g device (event_of kind detail) held.state r)
          (event_sized g le.config le.ports device (event_of kind detail) held.state r port (subst StateFits same-state st.sized.state) rf)
          (ap (λ b. cond b (cond (eqb kind 5) (policy_of s held) (proceeds (policy_of s held) 0 i)) (policy_of s held)) ex
          ∙ ap (λ b. cond b (policy_of s held) (proceeds (policy_of s held) 0 i)) ey))

  -- at an order: 23, 24 or 25
  open_open : (p : Phase) (m : Memory) (held : Last) (before : InternalState) → is_open p ≡ true → Runs (service g number k p m) held before →
      Went (service g number k p m) held before (open_event kind device detail r) (open_of (service g number k p m) kind device detail r).service
  open_open p m held before io runs = go (eqb (conditions true) 0) refl
    where
      s : Service
      s = service g number k p m

      i : Interaction
      i = event g device (event_of kind detail) held.state r

      at-machine : (open_of s kind device detail r).service ≡ (cond (eqb (conditions true) 0) (cond (eqb kind 5) (stepped (Ok (Step.Closed (Ok tt) 0)) s) (opened_of s device (event_of kind detail) r)) (refused (conditions true) s)).service
      at-machine = ap (λ b. (cond (eqb (conditions b) 0) (cond (eqb kind 5) (stepped (Ok (Step.Closed (Ok tt) 0)) s) (opened_of s device (event_of kind detail) r)) (refused (conditions b) s)).service) io

      at-policy : policy_after (policy_of s held) (open_event kind device detail r) ≡ cond (eqb (conditions true) 0) (cond (eqb kind 5) (policy_of s held) (proceeds (policy_of s held) 0 i)) (policy_of s held)
      at-policy = ap (λ b. cond (eqb (conditions b) 0) (cond (eqb kind 5) (policy_of s held) (proceeds (policy_of s held) 0 i)) (policy_of s held)) (open_is k g p m ∙ io)

      go : (x : Bool) → eqb (conditions true) 0 ≡ x → Went s held before (open_event kind device detail r) (open_of s kind device detail r).service
      go true ex = absurd (true≢false (none_refused (not_registered g.ports g.chargers kind device) (unknown_event kind detail) true (numbers_used kind number) (eqb-true (conditions true) 0 ex)).2)
      go false ex =
          subst (λ z. Went s held before (open_event kind device detail r) z)
          (sym (at-machine ∙ ap (λ b. (cond b (cond (eqb kind 5) (stepped (Ok (Step.Closed (Ok tt) 0)) s) (opened_of s device (event_of kind detail) r)) (refused (conditions true) s)).service) ex))
          (stayed s held before (open_event kind device detail r) runs
          (at-policy ∙ ap (λ b. cond b (cond (eqb kind 5) (policy_of s held) (proceeds (policy_of s held) 0 i)) (policy_of s held)) ex))

-- every call

goes_at : (g : Registration) (number k : ℕ) (p : Phase) (m : Memory) (held : Last) (before : InternalState) (c : Call) → CallFits c → Runs (service g number k p m) held before →
    Went (service g number k p m) held before c (after_call (service g number k p m) c)
goes_at g number k p m held before write_packet cf x = stayed (service g number k p m) held before write_packet x refl
goes_at g number k p m held before write_picture cf x = stayed (service g number k p m) held before write_picture x refl
goes_at g number k (Phase.Closed a) m held before (give_answer n r) cf x =
    subst (λ z. Went (service g number k (Phase.Closed a) m) held before (give_answer n r) z) (sym (closed_answer g number k a m n r))
    (stayed (service g number k (Phase.Closed a) m) held before (give_answer n r) x refl)
goes_at g number k (Phase.Leaving i p f) m held before (give_answer n r) cf x =
    answer_goes g number k (Phase.Leaving i p f) m held before (Order.Detach i) n r x.limits cf x.number refl refl
    (leaving_answered g i p f m x.limits.chargers x.state.fits (result_of n) r) x.state x.state
goes_at g number k (Phase.Switching l old f new) m held before (give_answer n r) cf x =
    answer_goes g number k (Phase.Switching l old f new) m held before (switch_order l old) n r x.limits cf x.number refl refl
    (switching_answered g l old f new m x.limits.chargers x.state.fits (result_of n) r) x.state x.state
goes_at g number k (Phase.Connecting s new) m held before (give_answer n r) cf x =
    answer_goes g number k (Phase.Connecting s new) m held before (connect_order s new) n r x.limits cf x.number refl refl
    (connecting_answered g s new m x.limits.chargers x.state.fits (result_of n) r) x.state x.state
goes_at g number k (Phase.Providing p c) m held before (give_answer n r) cf x =
    answer_goes g number k (Phase.Providing p c) m held before (Order.ConnectProvider p c) n r x.limits cf x.number refl refl
    (providing_answered g p c m x.state.fits (result_of n) r) x.state x.state
goes_at g number k (Phase.Closed a) m held before (open_event kind device detail r) cf x =
    open_closed g number k kind device detail r a m held before x.limits cf x.number x.state
goes_at g number k (Phase.Leaving i p f) m held before (open_event kind device detail r) cf x =
    open_open g number k kind device detail r (Phase.Leaving i p f) m held before refl x
goes_at g number k (Phase.Switching l old f new) m held before (open_event kind device detail r) cf x =
    open_open g number k kind device detail r (Phase.Switching l old f new) m held before refl x
goes_at g number k (Phase.Connecting s new) m held before (open_event kind device detail r) cf x =
    open_open g number k kind device detail r (Phase.Connecting s new) m held before refl x
goes_at g number k (Phase.Providing p c) m held before (open_event kind device detail r) cf x =
    open_open g number k kind device detail r (Phase.Providing p c) m held before refl x

pub goes : (s : Service) (held : Last) (before : InternalState) (c : Call) → CallFits c → Runs s held before → Went s held before c (after_call s c)
goes s held before c cf x = goes_at s.registration s.number s.orders s.phase s.memory held before c cf x
