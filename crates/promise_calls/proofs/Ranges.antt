-- Along a run every order, answer and display is in the range of a result's fields: the machine is well formed, and what is held changes only at a close.
use Rattle.std.specs.Prelude.{Err, None, Ok, Option, Some}
use mathlib.Core.Path.{◌≡◌, refl, sym, ap, ◌∙◌, subst}
use mathlib.Core.Bool.{Bool, true, false, cond, ◌&&◌}
use mathlib.Core.List.{List, [], ◌∷◌, ◌++◌, append_assoc}
use Prim.Native.Nat.{ℕ, ◌^◌, ◌<◌, ◌≤◌}
use native.Mathlib.Omega.{arith}
use lib.Dec.{eqb, ltb, leb}
use borrow.Author.Tests.{ltb-true, leb-true}
use Rattle.power_policy_interface.specs.Psu.{mismatch_of}
use Rattle.power_policy_interface.specs.Capability.{capability_fits}
use Rattle.power_policy_interface.specs.declared.capability.PowerCapability.{PowerCapability}
use Rattle.power_policy_interface.specs.declared.psu.Error.{Error}
use Rattle.abstract_policy.specs.declared.order.Order.{Order}
use Rattle.interface_display.specs.declared.AvailableConsumer.{AvailableConsumer}
use Rattle.power_policy_interface.specs.declared.psu.Mismatch.{Mismatch}
use Rattle.abstract_policy.specs.Given.{event_of, result_of}
use Rattle.abstract_policy.specs.State.{display_of}
use Rattle.abstract_policy.specs.Action.{Interaction, done, ask}
use Rattle.abstract_policy.specs.Interaction.{event}
use Rattle.abstract_policy.specs.Refusals.{no_answer}
use Rattle.abstract_policy.specs.Policy.{Call, open_event, give_answer, write_packet, write_picture, Stand, between, at, Policy, started, proceeds, open_refused, answers, policy_after, order_at, held_at, policies}
use Rattle.abstract_policy.specs.declared.state.InternalState.{InternalState}
use Rattle.abstract_policy.proofs.Chosen.{policies_append}
use Rattle.machine_state.specs.Phase.{order_of}
use Rattle.machine_state.specs.declared.phase.Leaver.{Leaver}
use Rattle.machine_state.specs.declared.phase.Phase.{Phase}
use Rattle.machine_state.specs.declared.phase.Stage.{Stage}
use Rattle.machine_service.specs.Service.{answer_in}
use Rattle.machine_service.specs.declared.Service.{Service}
use Rattle.std.proofs.lemmas.Bool.{and_parts}
use Rattle.promise_run.specs.Demands as run
use Rattle.promise_run.specs.Demands.{Equal}
use Rattle.promise_run.specs.Run.{services, CallsFit}
use Rattle.abstract_calls.specs.OneToOne.{CapabilityFits, OrderFits, MismatchFits, AnswerFits, ConsumerFits, DisplayFits}
use Rattle.abstract_calls.specs.Definition.{OrderFitsAt}
use Rattle.bytes_service_image.specs.Typed.{ConsumerTyped, PhaseTyped}
use Rattle.bytes_service_image.specs.WellFormed.{consumer_fits, mismatch_fits, error_fits, phase_fits}
use Rattle.bytes_service_image.proofs.Fits.{within}
use Rattle.bytes_service_image.proofs.Masks.{mask_lt}
use Rattle.promise_invariant.proofs.Good.{Good, StateGood, parts}
use Rattle.promise_invariant.proofs.Invariant.{services_good}

-- of a well-formed service

capability : (c : PowerCapability) → capability_fits c ≡ true → CapabilityFits c
capability c e =
    let w = within c e in
    (w.mv, w.ma)

byte : (i n m : ℕ) → ltb i n ≡ true → n ≤ m → m ≤ 16 → i < 256
byte i n m e h k = omega (arith, ltb-true i n e, h, k)

abbrev InOrder : Option Order → Type 0
InOrder None = Unit {0}
InOrder (Some o) = OrderFits o

order_fits : (ports chargers : ℕ) (p : Phase) → ports ≤ 16 → chargers ≤ 8 → phase_fits ports chargers p ≡ true → PhaseTyped p → InOrder (order_of p)
order_fits ports chargers (Phase.Closed a) h k e t = tt
order_fits ports chargers (Phase.Leaving i p f) h k e t = byte i chargers 8 (and_parts (ltb i chargers) (ltb p ports) e).0 k (omega arith)
order_fits ports chargers (Phase.Switching Leaver.Psu old f new) h k e t = byte old ports 16 (and_parts (ltb old ports) (ltb new.psu ports) e).0 h (omega arith)
order_fits ports chargers (Phase.Switching (Leaver.Charger i) old f new) h k e t =
    byte i chargers 8 (and_parts (ltb i chargers) (ltb old ports && ltb new.psu ports) e).0 k (omega arith)
order_fits ports chargers (Phase.Connecting Stage.Psu new) h k e t =
    (byte new.psu ports 16 e h (omega arith), capability new.consumer_power_capability.capability t)
order_fits ports chargers (Phase.Connecting Stage.Settling new) h k e t = tt
order_fits ports chargers (Phase.Connecting (Stage.Readying i) new) h k e t = byte i chargers 8 (and_parts (ltb i chargers) (ltb new.psu ports) e).0 k (omega arith)
order_fits ports chargers (Phase.Connecting (Stage.Initializing i) new) h k e t = byte i chargers 8 (and_parts (ltb i chargers) (ltb new.psu ports) e).0 k (omega arith)
order_fits ports chargers (Phase.Connecting (Stage.Attaching i) new) h k e t =
    (byte i chargers 8 (and_parts (ltb i chargers) (ltb new.psu ports) e).0 k (omega arith), capability new.consumer_power_capability.capability t)
order_fits ports chargers (Phase.Providing p c) h k e t = (byte p ports 16 e h (omega arith), capability c.capability t)

mismatch_fits_lem : (m : Option Mismatch) → mismatch_fits m ≡ true → MismatchFits m
mismatch_fits_lem None e = tt
mismatch_fits_lem (Some m) e =
    let l = leb-true m.expected 15 (and_parts (ltb 0 m.expected) (leb m.expected 15) e).1 in
    (ltb-true 0 m.expected (and_parts (ltb 0 m.expected) (leb m.expected 15) e).0, omega (arith, l))

error_fits_lem : (e : Error) → error_fits e ≡ true → MismatchFits (mismatch_of e)
error_fits_lem Error.InvalidDevice h = tt
error_fits_lem Error.CannotProvide h = tt
error_fits_lem Error.CannotConsume h = tt
error_fits_lem (Error.InvalidState m) h = mismatch_fits_lem m h
error_fits_lem Error.InvalidResponse h = tt
error_fits_lem Error.Busy h = tt
error_fits_lem Error.Timeout h = tt
error_fits_lem Error.Bus h = tt
error_fits_lem Error.Charger h = tt
error_fits_lem Error.Failed h = tt

answer_fits : (ports chargers : ℕ) (p : Phase) → phase_fits ports chargers p ≡ true → AnswerFits (answer_in p)
answer_fits ports chargers (Phase.Closed (Ok tt)) e = tt
answer_fits ports chargers (Phase.Closed (Err x)) e = error_fits_lem x e
answer_fits ports chargers (Phase.Leaving i p f) e = tt
answer_fits ports chargers (Phase.Switching l old f new) e = tt
answer_fits ports chargers (Phase.Connecting s new) e = tt
answer_fits ports chargers (Phase.Providing p c) e = tt

consumer_fits_lem : (ports : ℕ) (c : Option AvailableConsumer) → ports ≤ 16 → consumer_fits ports c ≡ true → ConsumerTyped c → ConsumerFits c
consumer_fits_lem ports None h e t = tt
consumer_fits_lem ports (Some c) h e t = (byte c.psu ports 16 e h (omega arith), capability c.consumer_power_capability.capability t)

state_fits_lem : (ports : ℕ) (s : InternalState) → ports ≤ 16 → StateGood ports s → DisplayFits (display_of s)
state_fits_lem ports s h g =
    let l = leb-true s.unconstrained.available ports g.available in
    record {
      consumer = consumer_fits_lem ports s.current_consumer_state h g.consumer g.typed;
      available = omega (arith, l, h);
      providers = mask_lt ports s.connected_providers.mask h (ltb-true s.connected_providers.mask (2 ^ ports) g.tracked);
    }

at_order : (x : Stand) → InOrder (order_at x) → OrderFitsAt x
at_order between h = tt
at_order (at n o k) h = h

pub order_in_range : (s : Service) (p : Policy) → Good s → Equal s p → OrderFitsAt p.stand
order_in_range s p h q =
    let z = parts s h in
    at_order p.stand
    (subst InOrder q.order
    (order_fits s.registration.ports s.registration.chargers s.phase z.limits.ports z.limits.chargers z.stands.fits z.stands.typed))

pub answer_in_range : (s : Service) (p : Policy) → Good s → Equal s p → p.stand ≡ between → AnswerFits p.answer
answer_in_range s p h q e =
    let z = parts s h in
    subst AnswerFits (q.answer e) (answer_fits s.registration.ports s.registration.chargers s.phase z.stands.fits)

-- what is held: at a close the machine's state, else what was held before

closed_in_range : (s : Service) (p : Policy) → Good s → Equal s p → p.stand ≡ between → DisplayFits (display_of p.state)
closed_in_range s p h q e =
    let z = parts s h in
    subst (λ (x : InternalState). DisplayFits (display_of x)) (q.state e)
    (state_fits_lem s.registration.ports s.memory.state z.limits.ports z.stands.memory.state)

-- a call that leaves an event open has changed nothing that is held
record Same (p q : Policy) : Type 0 where
  same : (q.stand ≡ between → ⊥) → q.state ≡ p.state

proceeds_same : (p : Policy) (n : ℕ) (i : Interaction) → Same p (proceeds p n i)
proceeds_same p n (done a h) = record { same = λ z. absurd (z refl) }
proceeds_same p n (ask o k) = record { same = λ z. refl }

after_same : (p : Policy) (c : Call) → Same p (policy_after p c)
after_same p (open_event kind device detail r) = go (eqb (open_refused p kind device detail) 0) (eqb kind 5)
  where
    go : (a b : Bool) → Same p (cond a (cond b p (proceeds p 0 (event p.registration device (event_of kind detail) p.state r))) p)
    go true true = record { same = λ z. refl }
    go true false = proceeds_same p 0 (event p.registration device (event_of kind detail) p.state r)
    go false b = record { same = λ z. refl }
after_same p (give_answer a r) = go p.stand
  where
    go : (x : Stand) → Same p (answers x p a r)
    go between = record { same = λ z. refl }
    go (at n o k) = turned (no_answer o a)
      where
        turned : (t : Bool) → Same p (cond t p (proceeds p n (k (result_of a) r)))
        turned true = record { same = λ z. refl }
        turned false = proceeds_same p n (k (result_of a) r)
after_same p write_packet = record { same = λ z. refl }
after_same p write_picture = record { same = λ z. refl }

fit_left : (a b : List Call) → CallsFit (a ++ b) → CallsFit a
fit_left [] b k = tt
fit_left (x ∷ a) b k = (k.0, fit_left a b k.1)

module _ (s : Service) (good : Good s) (demands : run.Demands s) where
  abbrev after : List Call → Policy
  after m = policies (started s.registration) m

  -- after one more call, if it was so before
  next : (m : List Call) (c : Call) → CallsFit (m ++ (c ∷ [])) → DisplayFits (display_of (after m).state) → DisplayFits (display_of (after (m ++ (c ∷ []))).state)
  next m c f h = go (after (m ++ (c ∷ []))).stand refl
    where
      go : (x : Stand) → (after (m ++ (c ∷ []))).stand ≡ x → DisplayFits (display_of (after (m ++ (c ∷ []))).state)
      go between e =
          closed_in_range (services s (m ++ (c ∷ []))) (after (m ++ (c ∷ []))) (services_good (m ++ (c ∷ [])) s f good) (demands.demand_2 (m ++ (c ∷ [])) f) e
      go (at n o k) e =
          let a : after (m ++ (c ∷ [])) ≡ policy_after (after m) c = policies_append (started s.registration) m (c ∷ []) in
          subst (λ (x : InternalState). DisplayFits (display_of x)) (sym (ap (λ (x : Policy). x.state) a ∙ (after_same (after m) c).same (λ z. cc))) h

  held_from : (l m : List Call) (n : ℕ) → CallsFit (m ++ l) → DisplayFits (display_of (after m).state) → DisplayFits (held_at (after m) l n)
  held_from [] m n f h = h
  held_from (c ∷ l) m n f h =
      let fits : CallsFit ((m ++ (c ∷ [])) ++ l) = subst CallsFit (sym (append_assoc m (c ∷ []) l)) f in
      go (eqb n (after m).number)
      (subst (λ (p : Policy). DisplayFits (held_at p l n)) (policies_append (started s.registration) m (c ∷ []))
      (held_from l (m ++ (c ∷ [])) n fits (next m c (fit_left (m ++ (c ∷ [])) l fits) h)))
    where
      go : (t : Bool) → DisplayFits (held_at (policy_after (after m) c) l n) → DisplayFits (cond t (display_of (after m).state) (held_at (policy_after (after m) c) l n))
      go true later = h
      go false later = later

  pub held_in_range : (l : List Call) (n : ℕ) → CallsFit l → DisplayFits (held_at (started s.registration) l n)
  held_in_range l n f = held_from l [] n f (record { consumer = tt; available = omega arith; providers = omega arith })
