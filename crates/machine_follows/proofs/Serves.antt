-- The service follows the event for every list of answers, refused ones included: a refused answer changes nothing on either side, an
-- accepted one leads both to the rest (Follows.antt), and the bound on the orders keeps the count from its limit.
use Rattle.std.specs.Prelude.{None, Result, Some}
use mathlib.Core.Path.{◌≡◌, refl, sym, ap, ◌∙◌, subst}
use mathlib.Core.Bool.{Bool, true, false, cond, not, ◌&&◌}
use mathlib.Core.List.{List, [], ◌∷◌}
use Prim.Native.Nat.{ℕ, zero, suc, ◌+◌, ◌*◌, ◌<◌, ◌≤◌}
use native.Mathlib.Omega.{arith}
use lib.Dec.{eqb}
use lib.ListN.{length}
use borrow.Author.Tests.{lt-ltb, eqb-false}
use Rattle.power_policy_interface.specs.declared.psu.Error.{Error}
use Rattle.power_policy_interface.specs.declared.service.event.Event.{Event}
use Rattle.abstract_policy.specs.Refusals.{not_registered, unknown_event, numbers_used, unknown_answer, no_answer}
use Rattle.abstract_policy.specs.Given.{result_of, event_of}
use Rattle.abstract_policy.specs.Action.{Held, Interaction, done, ask}
use Rattle.abstract_policy.specs.Interaction.{close}
use Rattle.abstract_policy.specs.Fed.{Answers, fed_by, orders_by}
use Rattle.abstract_policy.specs.Ends.{AtMost}
use Rattle.abstract_policy.specs.Returns.{brings}
use Rattle.abstract_policy.specs.declared.state.Records.{Records}
use Rattle.abstract_policy.specs.declared.state.Registration.{Registration}
use Rattle.abstract_policy.specs.declared.order.Order.{Order}
use Rattle.abstract_policy.proofs.Bound.{event_bound, orders_bound}
use Rattle.machine_state.specs.Memory.{no_notices}
use Rattle.machine_state.specs.Phase.{order_of, outcome_of, switch_order, connect_order}
use Rattle.machine_state.specs.declared.memory.Memory.{Memory}
use Rattle.machine_state.specs.declared.phase.Phase.{Phase}
use Rattle.machine_state.specs.declared.phase.Turn.{Turn}
use Rattle.machine_update.specs.Update.{remember}
use Rattle.machine_process.specs.Process.{answered_of, process_of}
use Rattle.machine_service.specs.Refusals.{is_open}
use Rattle.machine_service.specs.Service.{refused, increment, moved, answer_of, opened_of, open_of}
use Rattle.machine_service.specs.declared.Service.{Service}
use Rattle.machine_service.specs.Service.{Stepped}
use Rattle.machine_follows.specs.Machine.{held_of, rest, stands_at, stands_for, Fits}
use Rattle.machine_follows.specs.Served.{service_after, numbered, Stands, Opens, Registered, event_at}
use Rattle.machine_follows.proofs.Follows.{opened, leaving_answered, switching_answered, connecting_answered, providing_answered}
use Rattle.machine_follows.proofs.Told.{at_most_four}
use Rattle.machine_follows.proofs.Kept.{opened_fits, answered_fits}
use Rattle.std.proofs.lemmas.Bool.{true≢false}

-- the service at a phase, when the event had given so many orders before the open one
abbrev pub open_orders : Interaction → ℕ
open_orders (done a h) = 0
open_orders (ask o k) = 1

abbrev pub service : Registration → ℕ → ℕ → Phase → Memory → Service
service g number given p m = record { registration = g; number = number; memory = m; orders = given; phase = p }

abbrev pub service_at : Registration → ℕ → ℕ → Phase → Memory → Service
service_at g number before p m =
    service g (numbered number (stands_at g p m)) (before + open_orders (stands_at g p m)) p m

-- one call of answer

turned_back : (b : Bool) (x y : Stepped) → cond (eqb (cond b 24 26) 0) x y ≡ y
turned_back true x y = refl
turned_back false x y = refl

-- closed: 24 or 26, and nothing changes
pub closed_answer : (g : Registration) (number given : ℕ) (a : Result (Unit {0}) Error) (m : Memory) (n : ℕ) (r : Records) →
    (answer_of (service g number given (Phase.Closed a) m) n r).service ≡ service g number given (Phase.Closed a) m
closed_answer g number given a m n r = ap (λ z. z.service) (turned_back (unknown_answer None n) _ _)

-- open: 24, and nothing changes, or the turn that the answer leads to
pub open_answer : (g : Registration) (number given : ℕ) (p : Phase) (m : Memory) (o : Order) (n : ℕ) (r : Records) → order_of p ≡ Some o →
    (answer_of (service g number given p m) n r).service
    ≡ (cond (no_answer o n) (refused 24 (service g number given p m)) (moved g number given (answered_of g p o m (result_of n) r))).service
open_answer g number given p m o n r e = rw e (go (no_answer o n))
  where
    go : (b : Bool) →
        (cond (eqb (cond b 24 0) 0) (moved g number given (answered_of g p o m (result_of n) r)) (refused (cond b 24 0) (service g number given p m))).service
        ≡ (cond b (refused 24 (service g number given p m)) (moved g number given (answered_of g p o m (result_of n) r))).service
    go true = refl
    go false = refl

counted_on : (g : Registration) (number given : ℕ) (p : Phase) (m : Memory) → given < 255 →
    service g number (increment 255 given) p m ≡ service g number (given + 1) p m
counted_on g number given p m k =
    let e : suc given ≡ given + 1 = omega arith in
    rw (lt-ltb given 255 k) (ap (λ t. service g number t p m) e)

-- the end of an accepted call
pub moved_to : (g : Registration) (number given : ℕ) (p : Phase) (m : Memory) → number < 4294967295 → given < 255 →
    (moved g number given (record { phase = p; memory = m })).service ≡ service_at g number given p m
moved_to g number given (Phase.Closed a) m n k =
    let e : given ≡ given + 0 = omega arith in
    rw (lt-ltb number 4294967295 n) (ap (λ t. service g (suc number) t (Phase.Closed a) m) e)
moved_to g number given (Phase.Leaving i p f) m n k = counted_on g number given (Phase.Leaving i p f) m k
moved_to g number given (Phase.Switching l old f new) m n k = counted_on g number given (Phase.Switching l old f new) m k
moved_to g number given (Phase.Connecting s new) m n k = counted_on g number given (Phase.Connecting s new) m k
moved_to g number given (Phase.Providing p c) m n k = counted_on g number given (Phase.Providing p c) m k

-- a list of answers

abbrev StandsAfter : Service → Registration → ℕ → ℕ → Interaction → Answers → Type 0
StandsAfter s g number before i l =
    Stands (service_after s l) g (numbered number (fed_by i l)) (before + length (orders_by i l)) (fed_by i l)

carry : (s t : Service) (g : Registration) (number before : ℕ) (i j : Interaction) (l : Answers) → t ≡ s → i ≡ j →
    StandsAfter s g number before i l → StandsAfter t g number before j l
carry s t g number before i j l e d h =
    subst (λ z. StandsAfter z g number before j l) (sym e) (subst (λ z. StandsAfter s g number before z l) d h)

-- one more order is counted
one_more : (s : Service) (g : Registration) (number before n : ℕ) (i : Interaction) → Stands s g number (before + 1 + n) i → Stands s g number (before + suc n) i
one_more s g number before n i h =
    let e : before + 1 + n ≡ before + suc n = omega arith in
    subst (λ z. Stands s g number z i) e h

open_follows : (g : Registration) (number before : ℕ) (p : Phase) (m : Memory) (o : Order) (k : Result (Unit {0}) Error → Records → Interaction) (n : ℕ) (r : Records) (l : Answers) →
    order_of p ≡ Some o →
    StandsAfter (service g number (before + 1) p m) g number before (ask o k) l →
    StandsAfter (moved g number (before + 1) (answered_of g p o m (result_of n) r)).service g number (before + 1) (k (result_of n) r) l →
    StandsAfter (service g number (before + 1) p m) g number before (ask o k) ((n, r) ∷ l)
open_follows g number before p m o k n r l e again next = rw (open_answer g number (before + 1) p m o n r e) (go (no_answer o n))
  where
    go : (b : Bool) →
        Stands (service_after (cond b (refused 24 (service g number (before + 1) p m)) (moved g number (before + 1) (answered_of g p o m (result_of n) r))).service l)
        g
        (numbered number (cond b (fed_by (ask o k) l) (fed_by (k (result_of n) r) l)))
        (before + length (cond b (orders_by (ask o k) l) (o ∷ orders_by (k (result_of n) r) l)))
        (cond b (fed_by (ask o k) l) (fed_by (k (result_of n) r) l))
    go true = again
    go false = one_more _ g _ before _ _ next

-- an answer at an open phase, where both ways of going on are known to follow
answer_follows : (g : Registration) (number before : ℕ) (p : Phase) (m : Memory) (o : Order) (x : ℕ × Records) (l : Answers) →
    number < 4294967295 → before < 35 → order_of p ≡ Some o →
    (e : stands_for g (answered_of g p o m (result_of x.0) x.1) ≡ rest g p (result_of x.0) (held_of m) x.1 close) →
    StandsAfter (service g number (before + 1) p m) g number before (ask o (λ a r. rest g p a (held_of m) r close)) l →
    (let t = answered_of g p o m (result_of x.0) x.1 in
    StandsAfter (service_at g number (before + 1) t.phase t.memory) g number (before + 1) (stands_for g t) l) →
    StandsAfter (service g number (before + 1) p m) g number before (ask o (λ a r. rest g p a (held_of m) r close)) (x ∷ l)
answer_follows g number before p m o x l nb sum eo e again next =
    let t = answered_of g p o m (result_of x.0) x.1 in
    open_follows g number before p m o (λ a r. rest g p a (held_of m) r close) x.0 x.1 l eo again
    (carry _ _ g number (before + 1) _ _ l (moved_to g number (before + 1) t.phase t.memory nb (omega arith)) e next)

-- the rest is bounded by one order less
one_less : (g : Registration) (n : ℕ) (t : Turn) (i : Interaction) → stands_for g t ≡ i → AtMost n i → AtMost n (stands_for g t)
one_less g n t i e h = subst (λ z. AtMost n z) (sym e) h

pub answers_follow : (l : Answers) (g : Registration) (number before n : ℕ) (p : Phase) (m : Memory) →
    g.chargers ≤ 8 → number < 4294967295 → Fits g.chargers p m.notices → AtMost n (stands_at g p m) → before + n ≤ 35 →
    StandsAfter (service_at g number before p m) g number before (stands_at g p m) l
answers_follow [] g number before n (Phase.Closed a) m le nb fits most sum = record { registered = refl; numbered = refl; counted = refl; left = refl }
answers_follow [] g number before n (Phase.Leaving i p f) m le nb fits most sum = record { registered = refl; numbered = refl; counted = refl; left = refl }
answers_follow [] g number before n (Phase.Switching q old f new) m le nb fits most sum = record { registered = refl; numbered = refl; counted = refl; left = refl }
answers_follow [] g number before n (Phase.Connecting s new) m le nb fits most sum = record { registered = refl; numbered = refl; counted = refl; left = refl }
answers_follow [] g number before n (Phase.Providing p c) m le nb fits most sum = record { registered = refl; numbered = refl; counted = refl; left = refl }
answers_follow (x ∷ l) g number before n (Phase.Closed a) m le nb fits most sum =
    carry (service_at g number before (Phase.Closed a) m) _ g number before (done a (held_of m)) (done a (held_of m)) l
    (closed_answer g (suc number) (before + 0) a m x.0 x.1) refl
    (answers_follow l g number before n (Phase.Closed a) m le nb fits most sum)
answers_follow (x ∷ l) g number before zero (Phase.Leaving i p f) m le nb fits most sum = elim most [ ]
answers_follow (x ∷ l) g number before (suc n) (Phase.Leaving i p f) m le nb fits most sum =
    let t = answered_of g (Phase.Leaving i p f) (Order.Detach i) m (result_of x.0) x.1 in
    let e = leaving_answered g i p f m le fits (result_of x.0) x.1 in
    answer_follows g number before (Phase.Leaving i p f) m (Order.Detach i) x l nb (omega arith) refl e
    (answers_follow l g number before (suc n) (Phase.Leaving i p f) m le nb fits most sum)
    (answers_follow l g number (before + 1) n t.phase t.memory le nb
    (answered_fits g (Phase.Leaving i p f) m (outcome_of (Order.Detach i) (result_of x.0)) x.1 fits)
    (one_less g n t (rest g (Phase.Leaving i p f) (result_of x.0) (held_of m) x.1 close) e (most (result_of x.0) x.1))
    (omega arith))
answers_follow (x ∷ l) g number before zero (Phase.Switching q old f new) m le nb fits most sum = elim most [ ]
answers_follow (x ∷ l) g number before (suc n) (Phase.Switching q old f new) m le nb fits most sum =
    let t = answered_of g (Phase.Switching q old f new) (switch_order q old) m (result_of x.0) x.1 in
    let e = switching_answered g q old f new m le fits (result_of x.0) x.1 in
    answer_follows g number before (Phase.Switching q old f new) m (switch_order q old) x l nb (omega arith) refl e
    (answers_follow l g number before (suc n) (Phase.Switching q old f new) m le nb fits most sum)
    (answers_follow l g number (before + 1) n t.phase t.memory le nb
    (answered_fits g (Phase.Switching q old f new) m (outcome_of (switch_order q old) (result_of x.0)) x.1 fits)
    (one_less g n t (rest g (Phase.Switching q old f new) (result_of x.0) (held_of m) x.1 close) e (most (result_of x.0) x.1))
    (omega arith))
answers_follow (x ∷ l) g number before zero (Phase.Connecting s new) m le nb fits most sum = elim most [ ]
answers_follow (x ∷ l) g number before (suc n) (Phase.Connecting s new) m le nb fits most sum =
    let t = answered_of g (Phase.Connecting s new) (connect_order s new) m (result_of x.0) x.1 in
    let e = connecting_answered g s new m le fits (result_of x.0) x.1 in
    answer_follows g number before (Phase.Connecting s new) m (connect_order s new) x l nb (omega arith) refl e
    (answers_follow l g number before (suc n) (Phase.Connecting s new) m le nb fits most sum)
    (answers_follow l g number (before + 1) n t.phase t.memory le nb
    (answered_fits g (Phase.Connecting s new) m (outcome_of (connect_order s new) (result_of x.0)) x.1 fits)
    (one_less g n t (rest g (Phase.Connecting s new) (result_of x.0) (held_of m) x.1 close) e (most (result_of x.0) x.1))
    (omega arith))
answers_follow (x ∷ l) g number before zero (Phase.Providing p c) m le nb fits most sum = elim most [ ]
answers_follow (x ∷ l) g number before (suc n) (Phase.Providing p c) m le nb fits most sum =
    let t = answered_of g (Phase.Providing p c) (Order.ConnectProvider p c) m (result_of x.0) x.1 in
    let e = providing_answered g p c m fits (result_of x.0) x.1 in
    answer_follows g number before (Phase.Providing p c) m (Order.ConnectProvider p c) x l nb (omega arith) refl e
    (answers_follow l g number before (suc n) (Phase.Providing p c) m le nb fits most sum)
    (answers_follow l g number (before + 1) n t.phase t.memory le nb
    (answered_fits g (Phase.Providing p c) m (outcome_of (Order.ConnectProvider p c) (result_of x.0)) x.1 fits)
    (one_less g n t (rest g (Phase.Providing p c) (result_of x.0) (held_of m) x.1 close) e (most (result_of x.0) x.1))
    (omega arith))

-- what a call brings about is where the service then stands

pub moved_brings : (g : Registration) (number given : ℕ) (p : Phase) (m : Memory) →
    (moved g number given (record { phase = p; memory = m })).step ≡ brings given (stands_at g p m)
moved_brings g number given (Phase.Closed a) m = refl
moved_brings g number given (Phase.Leaving i p f) m = refl
moved_brings g number given (Phase.Switching l old f new) m = refl
moved_brings g number given (Phase.Connecting s new) m = refl
moved_brings g number given (Phase.Providing p c) m = refl

-- an event that is opened

-- the number 0: no condition holds
pub none_refused : (a b c d : Bool) → (let n : ℕ = cond a 23 (cond b 24 (cond c 25 (cond d 28 0))) in n ≡ 0) → (a ≡ false) × (b ≡ false) × (c ≡ false) × (d ≡ false)
none_refused true b c d e = absurd (omega (arith, e))
none_refused false true c d e = absurd (omega (arith, e))
none_refused false false true d e = absurd (omega (arith, e))
none_refused false false false true e = absurd (omega (arith, e))
none_refused false false false false e = (refl, refl, refl, refl)

pub below : (number : ℕ) (b : Bool) → b ≡ false → number ≤ 4294967295 → not b && eqb number 4294967295 ≡ false → number < 4294967295
below number true k le e = absurd (true≢false k)
below number false k le e = omega (arith, eqb-false number 4294967295 e)

pub opens : (s : Service) (kind device detail : ℕ) (r : Records) → Opens s kind device detail →
    open_of s kind device detail r ≡ opened_of s device (event_of kind detail) r
opens s kind device detail r h = rw (h.accepted, h.from_port)

-- the machine follows the event, for every list of answers: the same order asked, or the same close with answer, notices and state held;
-- the orders counted are those of the event's list, and the number is the next when it has closed
pub follows : (s : Service) (kind device detail : ℕ) (r : Records) (l : Answers) → Registered s → Opens s kind device detail →
    Stands (service_after (open_of s kind device detail r).service l) s.registration
    (numbered s.number (fed_by (event_at s kind device detail r) l))
    (length (orders_by (event_at s kind device detail r) l))
    (fed_by (event_at s kind device detail r) l)
follows s kind device detail r l h o =
    let g = s.registration in
    let e = event_of kind detail in
    let t = process_of g (remember s.memory.state no_notices) device e r in
    let nb : s.number < 4294967295 = below s.number (eqb kind 5) o.from_port h.number (none_refused (not_registered g.ports g.chargers kind device) (unknown_event kind detail) (is_open s.phase) (numbers_used kind s.number) o.accepted).3 in
    let is : stands_for g t ≡ event_at s kind device detail r = opened g s.memory.state device e r in
    let bound : AtMost (3 + 4 * g.chargers) (event_at s kind device detail r) = event_bound g device e s.memory.state r in
    let z : 0 + length (orders_by (event_at s kind device detail r) l) ≡ length (orders_by (event_at s kind device detail r) l) = omega arith in
    rw (opens s kind device detail r o)
    (subst (λ n. Stands (service_after (moved g s.number 0 t).service l) g (numbered s.number (fed_by (event_at s kind device detail r) l)) n (fed_by (event_at s kind device detail r) l)) z
    (carry (service_at g s.number 0 t.phase t.memory) (moved g s.number 0 t).service g s.number 0 (stands_for g t) (event_at s kind device detail r) l
    (moved_to g s.number 0 t.phase t.memory nb (omega arith)) is
    (answers_follow l g s.number 0 (3 + 4 * g.chargers) t.phase t.memory h.chargers nb
    (opened_fits g s.memory.state device e r)
    (one_less g (3 + 4 * g.chargers) t (event_at s kind device detail r) is bound)
    (omega (arith, h.chargers)))))

-- at most 3 + 4 × chargers orders are counted, so at most 35
pub counted_bound : (s : Service) (kind device detail : ℕ) (r : Records) (l : Answers) → Registered s → Opens s kind device detail →
    (service_after (open_of s kind device detail r).service l).orders ≤ 3 + 4 * s.registration.chargers
counted_bound s kind device detail r l h o =
    rw (follows s kind device detail r l h o).counted
    (orders_bound (3 + 4 * s.registration.chargers) (event_at s kind device detail r) l (event_bound s.registration device (event_of kind detail) s.memory.state r))

-- opening brings about the event's first order, or its close
pub open_brings : (s : Service) (kind device detail : ℕ) (r : Records) → Opens s kind device detail →
    (open_of s kind device detail r).step ≡ brings 0 (event_at s kind device detail r)
open_brings s kind device detail r o =
    let t = process_of s.registration (remember s.memory.state no_notices) device (event_of kind detail) r in
    rw (opens s kind device detail r o)
    (moved_brings s.registration s.number 0 t.phase t.memory
    ∙ ap (brings 0) (opened s.registration s.memory.state device (event_of kind detail) r))

-- an event gives at most four notices

abbrev notices_in : Interaction → List Event
notices_in (done a h) = h.notices
notices_in (ask o k) = []

few : (g : Registration) (p : Phase) (m : Memory) → length (notices_in (stands_at g p m)) ≤ 4
few g (Phase.Closed a) m = at_most_four m.notices
few g (Phase.Leaving i p f) m = omega arith
few g (Phase.Switching l old f new) m = omega arith
few g (Phase.Connecting s new) m = omega arith
few g (Phase.Providing p c) m = omega arith

pub notices_bound : (s : Service) (kind device detail : ℕ) (r : Records) (l : Answers) (a : Result (Unit {0}) Error) (h : Held) → Registered s → Opens s kind device detail →
    fed_by (event_at s kind device detail r) l ≡ done a h → length h.notices ≤ 4
notices_bound s kind device detail r l a h reg o e =
    let at = service_after (open_of s kind device detail r).service l in
    let left : stands_at s.registration at.phase at.memory ≡ done a h = (follows s kind device detail r l reg o).left ∙ e in
    subst (λ i. length (notices_in i) ≤ 4) left (few s.registration at.phase at.memory)
