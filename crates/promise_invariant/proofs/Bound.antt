-- From every well-formed service with an open event, however it was come by: whatever is answered, the event closes with at most
-- 3 + 4 × chargers orders counted, as each answer counts one order more and no phase has more than that.
use Rattle.std.specs.Prelude.{Err, None, Ok, Option, Result, Some}
use mathlib.Core.Path.{◌≡◌, refl, sym, ap, ◌∙◌, subst}
use mathlib.Core.Bool.{Bool, true, false, cond, not, ◌&&◌}
use mathlib.Core.List.{[], ◌∷◌}
use Prim.Native.Nat.{ℕ, zero, suc, ◌+◌, ◌*◌, ◌-◌, ◌≤◌, ◌<◌}
use native.Mathlib.Omega.{arith}
use lib.Dec.{eqb, ltb}
use lib.ListN.{length}
use borrow.Author.Tests.{ltb-true, lt-ltb}
use Rattle.power_policy_interface.specs.Limits.{largest}
use Rattle.interface_display.specs.declared.AvailableConsumer.{AvailableConsumer}
use Rattle.power_policy_interface.specs.declared.psu.Error.{Error}
use Rattle.power_policy_interface.specs.declared.service.UnconstrainedState.{UnconstrainedState}
use Rattle.abstract_policy.specs.Refusals.{first_refused, unknown_answer}
use Rattle.abstract_policy.specs.Given.{result_of}
use Rattle.abstract_policy.specs.Interaction.{close}
use Rattle.abstract_policy.specs.Fed.{Answers, fed_by, orders_by}
use Rattle.abstract_policy.specs.Ends.{AtMost}
use Rattle.abstract_policy.specs.declared.state.Records.{Records}
use Rattle.abstract_policy.specs.declared.state.Registration.{Registration}
use Rattle.abstract_policy.specs.declared.order.Order.{Order}
use Rattle.machine_state.specs.Memory.{no_notices}
use Rattle.machine_state.specs.Phase.{order_of, outcome_of, switch_order, connect_order}
use Rattle.machine_state.specs.declared.memory.Disconnected.{Disconnected}
use Rattle.machine_state.specs.declared.memory.Memory.{Memory}
use Rattle.machine_state.specs.declared.memory.Notices.{Notices}
use Rattle.machine_state.specs.declared.memory.ProviderNotice.{ProviderNotice}
use Rattle.machine_state.specs.declared.phase.Leaver.{Leaver}
use Rattle.machine_state.specs.declared.phase.Phase.{Phase}
use Rattle.machine_state.specs.declared.phase.Stage.{Stage}
use Rattle.machine_state.specs.declared.phase.Turn.{Turn}
use Rattle.machine_process.specs.Process.{after_order, answered_to, answered_of}
use Rattle.machine_service.specs.Refusals.{answer_refusals, is_open}
use Rattle.machine_service.specs.Service.{refused, moved, moved_by, order_in, answered_by, answer_of}
use Rattle.machine_service.specs.declared.Service.{Service}
use Rattle.machine_follows.specs.Machine as machine
use Rattle.machine_follows.specs.Machine.{held_of, rest, stands_at, stands_for, NotConnected, NotUpdated, Fits}
use Rattle.machine_follows.specs.Served.{service_after, numbered, Stands}
use Rattle.machine_follows.proofs.Follows.{leaving_answered, switching_answered, connecting_answered, providing_answered}
use Rattle.machine_follows.proofs.Serves.{open_orders, service, service_at, answers_follow}
use Rattle.std.proofs.lemmas.Bool.{and_parts, false≢true}
use Rattle.bytes_service_image.specs.WellFormed.{leaver_fits, stage_fits, stage_least, phase_fits, none_connected, no_provider, not_disconnected, no_consumer, no_figures, not_connected, not_updated, nothing_told, tells}
use Rattle.promise_invariant.proofs.Good.{Good, At, Limits, Parts, parts}
use Rattle.promise_invariant.proofs.Steps.{TurnGood, orders_most_lem, answered_good}
use Rattle.promise_invariant.proofs.Invariant.{answer_good}

-- a list of answers, refused ones included

pub answers_good : (l : Answers) (s : Service) → Good s → Good (service_after s l)
answers_good [] s h = h
answers_good (x ∷ l) s h = answers_good l (answer_of s x.0 x.1).service (answer_good s x.0 x.1 h)

moved_registered : (g : Registration) (number k : ℕ) (t : Turn) → (moved g number k t).service.registration ≡ g
moved_registered g number k t = go (order_of t.phase)
  where
    go : (o : Option Order) → (moved_by o g number k t).service.registration ≡ g
    go None = refl
    go (Some o) = refl

answer_registered : (s : Service) (a : ℕ) (r : Records) → (answer_of s a r).service.registration ≡ s.registration
answer_registered s a r = go (eqb (first_refused (answer_refusals s a)) 0)
  where
    o : Order
    o = order_in (order_of s.phase)

    go : (b : Bool) → (cond b (answered_by s o (result_of a) r) (refused (first_refused (answer_refusals s a)) s)).service.registration ≡ s.registration
    go true = moved_registered s.registration s.number s.orders (answered_of s.registration s.phase o s.memory (result_of a) r)
    go false = refl

answers_registered : (l : Answers) (s : Service) → (service_after s l).registration ≡ s.registration
answers_registered [] s = refl
answers_registered (x ∷ l) s = answers_registered l (answer_of s x.0 x.1).service ∙ answer_registered s x.0 x.1

-- so at most 3 + 4 × chargers orders are ever counted, and at most 35

pub good_orders : (s : Service) → Good s → s.orders ≤ 3 + 4 * s.registration.chargers
good_orders s h = orders_most_lem (parts s h).stands

pub good_bound : (s : Service) (l : Answers) → Good s → (service_after s l).orders ≤ 3 + 4 * s.registration.chargers
good_bound s l h = rw (answers_registered l s) at (good_orders (service_after s l) (answers_good l s h))

pub good_35 : (s : Service) (l : Answers) → Good s → (service_after s l).orders ≤ 35
good_35 s l h = omega (arith, good_bound s l h, (parts s h).limits.chargers)

-- an open event has not told of what comes at its close

not_connected_lem : (n : Notices) → not_connected n ≡ true → NotConnected n
not_connected_lem n h =
    let x = (and_parts (none_connected n.provider) (no_consumer n.connected && no_figures n.unconstrained) h).1 in
    record {
      connected = consumer n.connected (and_parts (no_consumer n.connected) (no_figures n.unconstrained) x).0;
      unconstrained = figures n.unconstrained (and_parts (no_consumer n.connected) (no_figures n.unconstrained) x).1;
    }
  where
    consumer : (c : Option AvailableConsumer) → no_consumer c ≡ true → c ≡ None
    consumer None e = refl
    consumer (Some c) e = absurd (false≢true e)

    figures : (u : Option UnconstrainedState) → no_figures u ≡ true → u ≡ None
    figures None e = refl
    figures (Some u) e = absurd (false≢true e)

not_updated_lem : (n : Notices) → not_updated n ≡ true → NotUpdated n
not_updated_lem n h = record {
  disconnected = consumer n.disconnected (and_parts (not_disconnected n.disconnected) (not_connected n) h).0;
  later = not_connected_lem n (and_parts (not_disconnected n.disconnected) (not_connected n) h).1;
}
  where
    consumer : (d : Option Disconnected) → not_disconnected d ≡ true → d ≡ None
    consumer None e = refl
    consumer (Some d) e = absurd (false≢true e)

nothing_told_lem : (n : Notices) → nothing_told n ≡ true → n ≡ no_notices
nothing_told_lem n h =
    let x = provider n.provider (and_parts (no_provider n.provider) (not_updated n) h).0 in
    let y = not_updated_lem n (and_parts (no_provider n.provider) (not_updated n) h).1 in
    λ i. record { provider = x i; disconnected = y.disconnected i; connected = y.later.connected i; unconstrained = y.later.unconstrained i }
  where
    provider : (p : Option ProviderNotice) → no_provider p ≡ true → p ≡ None
    provider None e = refl
    provider (Some (ProviderNotice.Disconnected p)) e = absurd (false≢true e)
    provider (Some (ProviderNotice.Connected p c)) e = absurd (false≢true e)

stage_fits_lem : (chargers : ℕ) (s : Stage) (b : Bool) → stage_fits chargers s && b ≡ true → machine.StageFits chargers s
stage_fits_lem chargers Stage.Psu b e = tt
stage_fits_lem chargers Stage.Settling b e = tt
stage_fits_lem chargers (Stage.Readying i) b e = ltb-true i chargers (and_parts (ltb i chargers) b e).0
stage_fits_lem chargers (Stage.Initializing i) b e = ltb-true i chargers (and_parts (ltb i chargers) b e).0
stage_fits_lem chargers (Stage.Attaching i) b e = ltb-true i chargers (and_parts (ltb i chargers) b e).0

leaver_fits_lem : (chargers : ℕ) (l : Leaver) (b : Bool) → leaver_fits chargers l && b ≡ true → machine.LeaverFits chargers l
leaver_fits_lem chargers Leaver.Psu b e = tt
leaver_fits_lem chargers (Leaver.Charger i) b e = ltb-true i chargers (and_parts (ltb i chargers) b e).0

phase_fits_lem : (ports chargers : ℕ) (p : Phase) (n : Notices) → phase_fits ports chargers p ≡ true → tells p n ≡ true → Fits chargers p n
phase_fits_lem ports chargers (Phase.Closed a) n e t = tt
phase_fits_lem ports chargers (Phase.Leaving i p f) n e t = (ltb-true i chargers (and_parts (ltb i chargers) (ltb p ports) e).0, not_updated_lem n t)
phase_fits_lem ports chargers (Phase.Switching l old f new) n e t = (leaver_fits_lem chargers l (ltb old ports && ltb new.psu ports) e, not_updated_lem n t)
phase_fits_lem ports chargers (Phase.Connecting s new) n e t = (stage_fits_lem chargers s (ltb new.psu ports) e, not_connected_lem n t)
phase_fits_lem ports chargers (Phase.Providing p c) n e t = nothing_told_lem n t

fits_at : {ports chargers k : ℕ} {p : Phase} {m : Memory} → At ports chargers k p m → Fits chargers p m.notices
fits_at {ports} {chargers} {k} {p} {m} h = phase_fits_lem ports chargers p m.notices h.fits h.told

-- what is left of an event

-- an error closes it
by_outcome : (n : ℕ) (g : Registration) (p : Phase) (m : Memory) (r : Records) (a : Result (Unit {0}) Error) → AtMost n (stands_for g (after_order g p m r)) → AtMost n (stands_for g (answered_to a g p m r))
by_outcome n g p m r (Ok tt) h = h
by_outcome n g p m r (Err e) h = tt

module _ (n before : ℕ) (g : Registration) (limits : Limits g) (next : (t : Turn) → TurnGood g (before + 1) t → AtMost n (stands_for g t)) where
  after_answer : (p : Phase) (m : Memory) (o : Order) → ((a : Result (Unit {0}) Error) (r : Records) → stands_for g (answered_of g p o m a r) ≡ rest g p a (held_of m) r close) →
      At g.ports g.chargers (before + 1) p m → (a : Result (Unit {0}) Error) (r : Records) → AtMost n (rest g p a (held_of m) r close)
  after_answer p m o e h a r =
      subst (λ i. AtMost n i) (e a r) (by_outcome n g p m r (outcome_of o a) (next (after_order g p m r) (answered_good g limits r (Ok tt) p m (before + 1) refl h)))

  -- one order more than after its answer
  one_order : (p : Phase) (m : Memory) → At g.ports g.chargers (before + open_orders (stands_at g p m)) p m → AtMost (suc n) (stands_at g p m)
  one_order (Phase.Closed a) m h = tt
  one_order (Phase.Leaving i p f) m h =
      after_answer (Phase.Leaving i p f) m (Order.Detach i) (leaving_answered g i p f m limits.chargers (fits_at h)) h
  one_order (Phase.Switching l old f new) m h =
      after_answer (Phase.Switching l old f new) m (switch_order l old)
      (switching_answered g l old f new m limits.chargers (fits_at h)) h
  one_order (Phase.Connecting s new) m h =
      after_answer (Phase.Connecting s new) m (connect_order s new)
      (connecting_answered g s new m limits.chargers (fits_at h)) h
  one_order (Phase.Providing p c) m h =
      after_answer (Phase.Providing p c) m (Order.ConnectProvider p c) (providing_answered g p c m (fits_at h)) h

-- all are counted: it is closed
all_counted : (before : ℕ) (g : Registration) (p : Phase) (m : Memory) → At g.ports g.chargers (before + open_orders (stands_at g p m)) p m → before ≡ 3 + 4 * g.chargers → AtMost 0 (stands_at g p m)
all_counted before g (Phase.Closed a) m h e = tt
all_counted before g (Phase.Leaving i p f) m h e = omega (arith, orders_most_lem h)
all_counted before g (Phase.Switching l old f new) m h e = omega (arith, orders_most_lem h)
all_counted before g (Phase.Connecting s new) m h e = omega (arith, orders_most_lem h)
all_counted before g (Phase.Providing p c) m h e = omega (arith, orders_most_lem h)

turn_bound : (n before : ℕ) (g : Registration) (t : Turn) → Limits g → TurnGood g before t → before + n ≡ 3 + 4 * g.chargers → AtMost n (stands_for g t)
turn_bound zero before g t limits h e = all_counted before g t.phase t.memory h (omega arith)
turn_bound (suc n) before g t limits h e = one_order n before g limits (λ u k. turn_bound n (before + 1) g u limits k (omega arith)) t.phase t.memory h

-- an open event has given an order

stage_ordered : (s : Stage) → 1 ≤ stage_least s
stage_ordered Stage.Psu = omega arith
stage_ordered Stage.Settling = omega arith
stage_ordered (Stage.Readying i) = omega arith
stage_ordered (Stage.Initializing i) = omega arith
stage_ordered (Stage.Attaching i) = omega arith

-- its order is among those counted, and its number is still to come
pub record Waits (g : Registration) (number k : ℕ) (p : Phase) (m : Memory) : Type 0 where
  pub counted : 1 ≤ k
  pub open_order : open_orders (stands_at g p m) ≡ 1
  pub unnumbered : numbered number (stands_at g p m) ≡ number

waits : (ports chargers number k : ℕ) (g : Registration) (p : Phase) (m : Memory) → At ports chargers k p m → is_open p ≡ true → Waits g number k p m
waits ports chargers number k g (Phase.Closed a) m h e = absurd (false≢true e)
waits ports chargers number k g (Phase.Leaving i p f) m h e = record { counted = h.least; open_order = refl; unnumbered = refl }
waits ports chargers number k g (Phase.Switching l old f new) m h e = record { counted = h.least; open_order = refl; unnumbered = refl }
waits ports chargers number k g (Phase.Connecting s new) m h e = record { counted = omega (arith, h.least, stage_ordered s); open_order = refl; unnumbered = refl }
waits ports chargers number k g (Phase.Providing p c) m h e = record { counted = h.least; open_order = refl; unnumbered = refl }

closed_rest : (n : ℕ) (g : Registration) (p : Phase) (m : Memory) → is_open p ≡ false → AtMost n (stands_at g p m)
closed_rest n g (Phase.Closed a) m e = tt
closed_rest n g (Phase.Leaving i p f) m e = absurd (false≢true (sym e))
closed_rest n g (Phase.Switching l old f new) m e = absurd (false≢true (sym e))
closed_rest n g (Phase.Connecting s new) m e = absurd (false≢true (sym e))
closed_rest n g (Phase.Providing p c) m e = absurd (false≢true (sym e))

-- so many orders are left at most, the open one among them
pub good_rest : (s : Service) → Good s → AtMost (4 + 4 * s.registration.chargers - s.orders) (stands_at s.registration s.phase s.memory)
good_rest s h = go (is_open s.phase) refl
  where
    g : Registration
    g = s.registration

    q : Parts s
    q = parts s h

    go : (b : Bool) → is_open s.phase ≡ b → AtMost (4 + 4 * g.chargers - s.orders) (stands_at g s.phase s.memory)
    go true e =
        let w = waits g.ports g.chargers 0 s.orders g s.phase s.memory q.stands e in
        let k : s.orders ≡ s.orders - 1 + open_orders (stands_at g s.phase s.memory) = omega (arith, w.counted, w.open_order) in
        turn_bound (4 + 4 * g.chargers - s.orders) (s.orders - 1) g (record { phase = s.phase; memory = s.memory }) q.limits
        (subst (λ n. At g.ports g.chargers n s.phase s.memory) k q.stands)
        (omega (arith, w.counted, good_orders s h))
    go false e = closed_rest (4 + 4 * g.chargers - s.orders) g s.phase s.memory e

-- and the service follows what is left for every list of answers, refused ones included
pub good_follows : (s : Service) (l : Answers) → Good s → is_open s.phase ≡ true →
    (let i = stands_at s.registration s.phase s.memory in
    Stands (service_after s l) s.registration (numbered s.number (fed_by i l)) (s.orders - 1 + length (orders_by i l)) (fed_by i l))
good_follows s l h e =
    let g = s.registration in
    let q = parts s h in
    let i = stands_at g s.phase s.memory in
    let w = waits g.ports g.chargers s.number s.orders g s.phase s.memory q.stands e in
    let k : s.orders - 1 + open_orders i ≡ s.orders = omega (arith, w.counted, w.open_order) in
    let same : service_at g s.number (s.orders - 1) s.phase s.memory ≡ s = λ j. service g (w.unnumbered j) (k j) s.phase s.memory in
    subst (λ t. Stands (service_after t l) g (numbered s.number (fed_by i l)) (s.orders - 1 + length (orders_by i l)) (fed_by i l)) same
    (answers_follow l g s.number (s.orders - 1) (4 + 4 * g.chargers - s.orders) s.phase s.memory q.limits.chargers
    (ltb-true s.number largest (rw e at q.next))
    (fits_at q.stands)
    (good_rest s h)
    (omega (arith, w.counted, good_orders s h, q.limits.chargers)))

-- answers that are taken

-- each in its turn is not turned back
abbrev pub Taken : Service → Answers → Type 0
Taken s [] = Unit {0}
Taken s (x ∷ l) = (first_refused (answer_refusals s x.0) ≡ 0) × Taken (answer_of s x.0 x.1).service l

closed_same : (s : Service) (a : ℕ) (r : Records) → is_open s.phase ≡ false → (answer_of s a r).service ≡ s
closed_same s a r e = go (unknown_answer (order_of s.phase) a) (is_open s.phase) e
  where
    go : (u w : Bool) → w ≡ false →
        (let n : ℕ = cond u 24 (cond (not w) 26 0) in
        (cond (eqb n 0) (answered_by s (order_in (order_of s.phase)) (result_of a) r) (refused n s)).service ≡ s)
    go true w f = refl
    go false true f = absurd (false≢true (sym f))
    go false false f = refl

closed_stays : (l : Answers) (s : Service) → is_open s.phase ≡ false → is_open (service_after s l).phase ≡ false
closed_stays [] s e = e
closed_stays (x ∷ l) s e =
    closed_stays l (answer_of s x.0 x.1).service (subst (λ (t : Service). is_open t.phase ≡ false) (sym (closed_same s x.0 x.1 e)) e)

moved_counts : (g : Registration) (number k : ℕ) (t : Turn) → k < 255 → is_open (moved g number k t).service.phase ≡ true → (moved g number k t).service.orders ≡ suc k
moved_counts g number k t l = go (order_of t.phase) refl
  where
    go : (o : Option Order) → order_of t.phase ≡ o → is_open (moved_by o g number k t).service.phase ≡ true → (moved_by o g number k t).service.orders ≡ suc k
    go None e f = absurd (false≢true (rw e at f))
    go (Some o) e f = rw (lt-ltb k 255 l)

-- an answer that is taken counts one order more, or closes
taken_counts : (s : Service) (a : ℕ) (r : Records) → s.orders < 255 → first_refused (answer_refusals s a) ≡ 0 → is_open (answer_of s a r).service.phase ≡ true →
    (answer_of s a r).service.orders ≡ suc s.orders
taken_counts s a r l e f =
    let t = answered_of s.registration s.phase (order_in (order_of s.phase)) s.memory (result_of a) r in
    rw e (moved_counts s.registration s.number s.orders t l (rw e at f))

closes_on : (s : Service) (l : Answers) → (is_open s.phase ≡ true → is_open (service_after s l).phase ≡ false) → is_open (service_after s l).phase ≡ false
closes_on s l next = go (is_open s.phase) refl
  where
    go : (b : Bool) → is_open s.phase ≡ b → is_open (service_after s l).phase ≡ false
    go true e = next e
    go false e = closed_stays l s e

-- when the answers taken and the orders counted before them come to more than 3 + 4 × chargers, the event is closed
pub good_closes : (l : Answers) (s : Service) → Good s → Taken s l → 3 + 4 * s.registration.chargers < s.orders + length l → is_open (service_after s l).phase ≡ false
good_closes [] s h t e = absurd (omega (arith, good_orders s h))
good_closes (x ∷ l) s h t e =
    let u = (answer_of s x.0 x.1).service in
    let few : s.orders < 255 = omega (arith, good_orders s h, (parts s h).limits.chargers) in
    let g : u.registration.chargers ≡ s.registration.chargers = ap (λ (z : Registration). z.chargers) (answer_registered s x.0 x.1) in
    closes_on u l (λ f. good_closes l u (answer_good s x.0 x.1 h) t.1 (omega (arith, g, e, taken_counts s x.0 x.1 few t.0 f)))
