-- While an event is open no other is accepted, and what is left of it ends with the consumer that it chose (Chooses.antt); once it has
-- closed, what is held stays until the next close; and that choice is DEM-2c's (power_policy_service Choice.antt).
use Rattle.std.specs.Prelude.{Ok, Option}
use mathlib.Core.Path.{◌≡◌, refl, sym, ap, ◌∙◌, subst}
use mathlib.Core.Bool.{Bool, true, false, cond, ◌||◌, true≢false}
use mathlib.Core.List.{List, [], ◌∷◌, ◌++◌}
use Prim.Native.Nat.{ℕ, suc, min, ◌≤◌}
use native.Mathlib.Omega.{arith}
use lib.Dec.{eqb}
use borrow.Author.Tests.{eqb-true}
use Rattle.interface_display.specs.declared.AvailableConsumer.{AvailableConsumer}
use Rattle.power_policy_service.specs.Choice.{Chosen}
use Rattle.power_policy_service.specs.Consumer.{best_of}
use Rattle.power_policy_service.proofs.Choice.{chosen}
use Rattle.abstract_policy.specs.Refusals.{first_refused, not_registered, unknown_event, numbers_used, no_answer}
use Rattle.abstract_policy.specs.Given.{event_of, result_of}
use Rattle.abstract_policy.specs.Action.{Interaction, done, ask}
use Rattle.abstract_policy.specs.Ends.{Consumes, Chooses, updates_consumer}
use Rattle.abstract_policy.specs.Interaction.{find_best_consumer, event}
use Rattle.abstract_policy.specs.Policy.{Call, open_event, give_answer, write_packet, write_picture, Stand, between, at, Policy, started, proceeds, is_at, open_refused, opens, answers, policy_after, policies}
use Rattle.abstract_policy.specs.Chosen.{updates, Choices}
use Rattle.abstract_policy.specs.declared.state.Records.{Records}
use Rattle.abstract_policy.specs.declared.state.Registration.{Registration}
use Rattle.abstract_policy.proofs.Chooses.{event_chooses}
use Rattle.abstract_policy.proofs.Logic.{ends_ok}

-- lists of calls

pub policies_append : (p : Policy) (l m : List Call) → policies p (l ++ m) ≡ policies (policies p l) m
policies_append p [] m = refl
policies_append p (c ∷ l) m = policies_append (policy_after p c) l m

-- the registration stays

proceeds_registration : (p : Policy) (n : ℕ) (i : Interaction) → (proceeds p n i).registration ≡ p.registration
proceeds_registration p n (done a h) = refl
proceeds_registration p n (ask o k) = refl

after_registration : (p : Policy) (c : Call) → (policy_after p c).registration ≡ p.registration
after_registration p (open_event kind device detail r) = go (eqb (open_refused p kind device detail) 0) (eqb kind 5)
  where
    i : Interaction
    i = event p.registration device (event_of kind detail) p.state r

    go : (a b : Bool) → (cond a (cond b p (proceeds p 0 i)) p).registration ≡ p.registration
    go true true = refl
    go true false = proceeds_registration p 0 i
    go false b = refl
after_registration p (give_answer a r) = go p.stand
  where
    if-answer : (n : ℕ) (i : Interaction) (b : Bool) → (cond b p (proceeds p n i)).registration ≡ p.registration
    if-answer n i true = refl
    if-answer n i false = proceeds_registration p n i

    go : (s : Stand) → (answers s p a r).registration ≡ p.registration
    go between = refl
    go (at n o k) = if-answer n (k (result_of a) r) (no_answer o a)
after_registration p write_packet = refl
after_registration p write_picture = refl

pub policies_registration : (p : Policy) (l : List Call) → (policies p l).registration ≡ p.registration
policies_registration p [] = refl
policies_registration p (c ∷ l) = policies_registration (policy_after p c) l ∙ after_registration p c

-- while an event is open no other is accepted
no_second : (a b d : Bool) → first_refused ((a, 23) ∷ (b, 24) ∷ (true, 25) ∷ (d, 28) ∷ []) ≡ 0 → ⊥
no_second true b d e = absurd (omega (arith, e))
no_second false true d e = absurd (omega (arith, e))
no_second false false d e = absurd (omega (arith, e))

-- an event opened at number n that is to leave the consumer c

-- what is left of it ends with c
abbrev Left : Option AvailableConsumer → Stand → Type 0
Left c between = ⊥
Left c (at m o k) = Chooses c (ask o k)

module _ (n : ℕ) (c : Option AvailableConsumer) where
  -- the numbers only rise; at n the event is open; at the next number it has closed, with c if without error
  record Since (p : Policy) : Type 0 where
    reached : n ≤ p.number
    open-left : p.number ≡ n → Left c p.stand
    closed : p.number ≡ suc n → p.answer ≡ (Ok tt) → p.state.current_consumer_state ≡ c

  proceeds_since : (p : Policy) (m : ℕ) (i : Interaction) → n ≤ p.number → (p.number ≡ n → Chooses c i) →
      (p.number ≡ suc n → p.answer ≡ (Ok tt) → p.state.current_consumer_state ≡ c) → Since (proceeds p m i)
  proceeds_since p m (done a h) le left cl = record {
    reached = omega (arith, le);
    open-left = λ e. absurd (omega (arith, le, e));
    closed = λ e ok. ends_ok (Consumes c) a h (left (omega (arith, e))) ok;
  }
  proceeds_since p m (ask o k) le left cl = record { reached = le; open-left = left; closed = cl }

  opens_since : (p : Policy) (kind device detail : ℕ) (r : Records) → Since p → Since (opens p kind device detail r)
  opens_since p kind device detail r s = go (eqb (open_refused p kind device detail) 0) refl (eqb kind 5)
    where
      i : Interaction
      i = event p.registration device (event_of kind detail) p.state r

      refused : (t : Stand) → Left c t → first_refused ((not_registered p.registration.ports p.registration.chargers kind device, 23)
          ∷ (unknown_event kind detail, 24) ∷ (is_at t, 25) ∷ (numbers_used kind p.number, 28) ∷ []) ≡ 0 → ⊥
      refused between left e = left
      refused (at m o k) left e =
          no_second (not_registered p.registration.ports p.registration.chargers kind device) (unknown_event kind detail) (numbers_used kind p.number) e

      go : (a : Bool) → eqb (open_refused p kind device detail) 0 ≡ a → (b : Bool) → Since (cond a (cond b p (proceeds p 0 i)) p)
      go true e true = s
      go true e false =
          proceeds_since p 0 i s.reached
          (λ q. absurd (refused p.stand (s.open-left q) (eqb-true (open_refused p kind device detail) 0 e)))
          s.closed
      go false e b = s

  answers_since : (p : Policy) (t : Stand) (a : ℕ) (r : Records) → p.stand ≡ t → Since p → Since (answers t p a r)
  answers_since p between a r e s = s
  answers_since p (at m o k) a r e s = go (no_answer o a)
    where
      go : (b : Bool) → Since (cond b p (proceeds p m (k (result_of a) r)))
      go true = s
      go false =
          proceeds_since p m (k (result_of a) r) s.reached (λ q. subst (λ t. Left c t) e (s.open-left q) (result_of a) r) s.closed

  after_since : (p : Policy) (call : Call) → Since p → Since (policy_after p call)
  after_since p (open_event kind device detail r) s = opens_since p kind device detail r s
  after_since p (give_answer a r) s = answers_since p p.stand a r refl s
  after_since p write_packet s = s
  after_since p write_picture s = s

  calls_since : (l : List Call) (p : Policy) → Since p → Since (policies p l)
  calls_since [] p s = s
  calls_since (call ∷ l) p s = calls_since l (policy_after p call) (after_since p call s)

-- the kinds that update are the events that do, and none is the charger's
updating : (kind detail : ℕ) → updates kind ≡ true → (updates_consumer (event_of kind detail) ≡ true) × (eqb kind 5 ≡ false)
updating kind detail u = go (eqb kind 1) refl (eqb kind 3) refl (eqb kind 4) refl u
  where
    Fits : ℕ → Type 0
    Fits x = (updates_consumer (event_of x detail) ≡ true) × (eqb x 5 ≡ false)

    go : (a : Bool) → eqb kind 1 ≡ a → (b : Bool) → eqb kind 3 ≡ b → (d : Bool) → eqb kind 4 ≡ d → a || (b || d) ≡ true → Fits kind
    go true x b y d z w = subst Fits (sym (eqb-true kind 1 x)) (refl, refl)
    go false x true y d z w = subst Fits (sym (eqb-true kind 3 y)) (refl, refl)
    go false x false y true z w = subst Fits (sym (eqb-true kind 4 z)) (refl, refl)
    go false x false y false z w = absurd (true≢false (sym w))

-- opened, the event is to leave the best
open_since : (p : Policy) (kind device detail : ℕ) (r : Records) → open_refused p kind device detail ≡ 0 → updates kind ≡ true →
    Since p.number (find_best_consumer p.registration p.state r) (opens p kind device detail r)
open_since p kind device detail r e u =
    let w = updating kind detail u in
    let i = event p.registration device (event_of kind detail) p.state r in
    let c = find_best_consumer p.registration p.state r in
    subst (λ (x : Bool). Since p.number c (cond (eqb (open_refused p kind device detail) 0) (cond x p (proceeds p 0 i)) p)) (sym w.1)
    (subst (λ (x : ℕ). Since p.number c (cond (eqb x 0) (proceeds p 0 i) p)) (sym e)
    (proceeds_since p.number c p 0 i (omega arith)
    (λ q. event_chooses p.registration device (event_of kind detail) p.state r w.0)
    (λ q. absurd (omega (arith, q)))))

-- over every run after a start with at most 16 ports
pub run_chooses : (g : Registration) → g.ports ≤ 16 → Choices g
run_chooses g few = record {
  chosen = λ l kind device detail r u.
      let p = policies (started g) l in
      let c = p.state.current_consumer_state in
      let m = p.registration.config.min_consumer_threshold_mw in
      subst (λ (n : ℕ). Chosen m c r.psus n (best_of m c r.psus (min 16 p.registration.ports))) (ports l)
      (chosen m c r.psus (min 16 p.registration.ports));
  held = λ l kind device detail r m u n a.
      let p = policies (started g) l in
      let same = policies_append (started g) l (open_event kind device detail r ∷ m) in
      let opened = open_since p kind device detail r u.accepted u.updating in
      let s = calls_since p.number (find_best_consumer p.registration p.state r) m (opens p kind device detail r) opened in
      ap (λ (x : Policy). x.state.current_consumer_state) same
      ∙ s.closed (sym (ap (λ (x : Policy). x.number) same) ∙ n) (sym (ap (λ (x : Policy). x.answer) same) ∙ a);
}
  where
    ports : (l : List Call) → min 16 (policies (started g) l).registration.ports ≡ (policies (started g) l).registration.ports
    ports l =
        let e : (policies (started g) l).registration.ports ≤ 16 =
        subst (λ (x : Registration). x.ports ≤ 16) (sym (policies_registration (started g) l)) few in
        omega (arith, e)
