-- Every event closes after at most 3 + 4 × chargers orders: each loop asks at most one order (detach) or three (ready, init, attach) a
-- charger, and beside them there are a disconnect, a connect and a wait.
use Rattle.std.specs.Prelude.{Err, None, Ok, Option, Result, Some}
use mathlib.Core.Path.{◌≡◌, refl}
use mathlib.Core.Bool.{Bool, true, false, cond}
use mathlib.Core.List.{[], ◌∷◌}
use Prim.Native.Nat.{ℕ, zero, suc, ◌+◌, ◌*◌, ◌≤◌, min}
use native.Mathlib.Nat.{suc-mul}
use native.Mathlib.Omega.{arith}
use lib.ListN.{length}
use Rattle.power_policy_interface.specs.Psu.{can_connect_consumer_of, can_connect_provider_of}
use Rattle.power_policy_interface.specs.Service.{same_unconstrained}
use Rattle.power_policy_interface.specs.declared.capability.DisconnectFlags.{DisconnectFlags}
use Rattle.power_policy_interface.specs.declared.psu.Error.{Error}
use Rattle.power_policy_interface.specs.declared.capability.ProviderPowerCapability.{ProviderPowerCapability}
use Rattle.power_policy_interface.specs.declared.psu.event.EventData.{EventData}
use Rattle.power_policy_interface.specs.declared.service.event.Event.{Event}
use Rattle.interface_display.specs.Providers.{insert_of, remove_of, Removed}
use Rattle.interface_display.specs.declared.AvailableConsumer.{AvailableConsumer}
use Rattle.power_policy_service.specs.Provider.{total_of, total_with, power_state_of, grant_of}
use Rattle.abstract_policy.specs.State.{with_consumer, with_unconstrained, with_providers, with_power_state, psu_of, charger_unpowered}
use Rattle.abstract_policy.specs.Interaction.{no_reason, detached_reason, reason_of, unconstrained_of, same_available, is_connected_consumer, update_unconstrained_state, attach_charger, post_consumer_connected, detach_charger, disconnect_chargers, disconnect_current, connect_consumer, connect_new_consumer, connect_best, find_best_consumer, update_current_consumer, post_provider_connected, provide, connect_provider, remove_provider, post_provider_removed, process_psu_event, close, event}
use Rattle.abstract_policy.specs.Action.{Held, Interaction, done, ask, Action, ◌>>=◌, ◌>>◌, skip, records, set, notify, await, ok, charger_ok, charger, psu, when, unless, each}
use Rattle.abstract_policy.specs.Given.{result_of}
use Rattle.abstract_policy.specs.Fed.{Answers, orders_by}
use Rattle.abstract_policy.specs.Refusals.{no_answer}
use Rattle.abstract_policy.specs.Ends.{AtMost}
use Rattle.abstract_policy.specs.declared.state.InternalState.{InternalState}
use Rattle.abstract_policy.specs.declared.state.Records.{Records}
use Rattle.abstract_policy.specs.declared.state.Registration.{Registration}
use Rattle.abstract_policy.specs.declared.order.Order.{Order}

-- an action of at most n orders, before what comes next
pub record Costs (n : ℕ) (m : Action (Unit {0})) : Type 0 where
  pub cost :
      (j t : ℕ) → t ≡ n + j → (h : Held) (r : Records) (k : Unit {0} → Held → Records → Interaction) →
      ((h' : Held) (r' : Records) → AtMost j (k tt h' r')) →
      AtMost t (m h r k)

more : (n m : ℕ) (i : Interaction) → n ≤ m → AtMost n i → AtMost m i
more n m (done a h) le p = tt
more zero m (ask o k) le p = elim p [ ]
more (suc n) zero (ask o k) le p = elim le [ ]
more (suc n) (suc m) (ask o k) le p = λ a r. more n m (k a r) (omega arith) (p a r)

free : (j t : ℕ) (i : Interaction) → t ≡ 0 + j → AtMost j i → AtMost t i
free j t i e p = more j t i (omega arith) p

then : {n m : ℕ} {a b : Action (Unit {0})} → Costs n a → Costs m b → Costs (n + m) (a >> b)
then {n} {m} {a} {b} ca cb = record {
  cost = λ j t e h r k p. ca.cost (m + j) t (omega arith) h r (λ u h' r'. b h' r' k) (λ h' r'. cb.cost j (m + j) refl h' r' k p);
}

dearer : {n : ℕ} {a : Action (Unit {0})} (m : ℕ) → n ≤ m → Costs n a → Costs m a
dearer {n} {a} m le c = record {
  cost = λ j t e h r k p. more (n + j) t (a h r k) (omega arith) (c.cost j (n + j) refl h r k p);
}

first : {n : ℕ} {a b : Action (Unit {0})} → Costs 0 a → Costs n b → Costs n (a >> b)
first {n} ca cb = dearer n (omega arith) (then ca cb)

last : {n : ℕ} {a b : Action (Unit {0})} → Costs n a → Costs 0 b → Costs n (a >> b)
last {n} ca cb = dearer n (omega arith) (then ca cb)

-- what reads the state or the records costs what comes then
reads : {n : ℕ} {a : Action (Unit {0})} (f : InternalState → Records → Action (Unit {0})) →
    ((h : Held) (r : Records) (k : Unit {0} → Held → Records → Interaction) → a h r k ≡ f h.state r h r k) →
    ((s : InternalState) (r : Records) → Costs n (f s r)) →
    Costs n a
reads f e c = record { cost = λ j t q h r k p. rw (e h r k) ((c h.state r).cost j t q h r k p) }

skips : Costs 0 skip
skips = record { cost = λ j t e h r k p. free j t (k tt h r) e (p h r) }

-- one order, and its answer

psu_answer : (a : Result (Unit {0}) Error) (j : ℕ) (h : Held) (r : Records) (k : Unit {0} → Held → Records → Interaction) → AtMost j (k tt h r) → AtMost j (ok a h r k)
psu_answer (Ok tt) j h r k p = p
psu_answer (Err x) j h r k p = tt

charger_answer : (a : Result (Unit {0}) Error) (j : ℕ) (h : Held) (r : Records) (k : Unit {0} → Held → Records → Interaction) → AtMost j (k tt h r) → AtMost j (charger_ok a h r k)
charger_answer (Ok tt) j h r k p = p
charger_answer (Err x) j h r k p = tt

asks_psu : (o : Order) → Costs 1 (psu o)
asks_psu o = record { cost = λ j t e h r k p. let z : t ≡ suc j = omega (arith, e) in rw z (λ a r'. psu_answer a j h r' k (p h r')) }

asks_charger : (o : Order) → Costs 1 (charger o)
asks_charger o = record { cost = λ j t e h r k p. let z : t ≡ suc j = omega (arith, e) in rw z (λ a r'. charger_answer a j h r' k (p h r')) }

waits : {n : ℕ} {b : Action (Unit {0})} → Costs n b → Costs (1 + n) (await Order.Wait >> b)
waits {n} c = record { cost = λ j t e h r k p. let z : t ≡ suc (n + j) = omega (arith, e) in rw z (λ a r'. c.cost j (n + j) refl h r' k p) }

-- tests and loops

when_costs : {n : ℕ} {m : Action (Unit {0})} (b : Bool) → Costs n m → Costs n (when b m)
when_costs true c = c
when_costs {n} false c = dearer n (omega arith) skips

unless_costs : {n : ℕ} {m : Action (Unit {0})} (b : Bool) → Costs n m → Costs n (unless b m)
unless_costs {n} true c = dearer n (omega arith) skips
unless_costs false c = c

each_costs : (c n i : ℕ) (f : ℕ → Action (Unit {0})) → ((x : ℕ) → Costs c (f x)) → Costs (n * c) (each n i f)
each_costs c zero i f p = dearer (0 * c) (omega arith) skips
each_costs c (suc n) i f p = dearer (suc n * c) (omega (arith, suc-mul n c)) (then (p i) (each_costs c n (suc i) f p))

ok_costs : (a : Result (Unit {0}) Error) → Costs 0 (ok a)
ok_costs (Ok tt) = skips
ok_costs (Err e) = record { cost = λ j t q h r k p. tt }

set_costs : (f : InternalState → InternalState) → Costs 0 (set f)
set_costs f = record { cost = λ j t e h r k p. free j t (set f h r k) e (p _ r) }

notify_costs : (x : Event) → Costs 0 (notify x)
notify_costs x = record { cost = λ j t e h r k p. free j t (notify x h r k) e (p _ r) }

-- the event's parts

unconstrained_costs : (g : Registration) → Costs 0 (update_unconstrained_state g)
unfolding update_unconstrained_state
unconstrained_costs g =
    reads (λ s r. unless (same_unconstrained (unconstrained_of g s r) s.unconstrained) (set (with_unconstrained (unconstrained_of g s r)) >> notify (Event.Unconstrained (unconstrained_of g s r))))
    (λ h r k. refl)
    (λ s r. unless_costs (same_unconstrained (unconstrained_of g s r) s.unconstrained)
    (first (set_costs (with_unconstrained (unconstrained_of g s r))) (notify_costs (Event.Unconstrained (unconstrained_of g s r)))))

attach_costs : (new : AvailableConsumer) (i : ℕ) → Costs 3 (attach_charger new i)
unfolding attach_charger
attach_costs new i =
    reads (λ s r. when (charger_unpowered r i) (charger (Order.IsReady i) >> charger (Order.InitCharger i)) >> charger (Order.Attach i new.consumer_power_capability))
    (λ h r k. refl)
    (λ s r. dearer 3 (omega arith)
    (then (when_costs (charger_unpowered r i) (then (asks_charger (Order.IsReady i)) (asks_charger (Order.InitCharger i))))
    (asks_charger (Order.Attach i new.consumer_power_capability))))

detach_costs : (i : ℕ) → Costs 1 (detach_charger i)
unfolding detach_charger
detach_costs i =
    reads (λ s r. unless (charger_unpowered r i) (charger (Order.Detach i))) (λ h r k. refl)
    (λ s r. unless_costs (charger_unpowered r i) (asks_charger (Order.Detach i)))

chargers_cost : (g : Registration) → Costs (g.chargers * 1) (disconnect_chargers g)
unfolding disconnect_chargers
chargers_cost g = each_costs 1 g.chargers 0 detach_charger detach_costs

connected_costs : (g : Registration) (new : AvailableConsumer) → Costs (1 + g.chargers * 3) (post_consumer_connected g new)
unfolding post_consumer_connected
connected_costs g new =
    first (set_costs (with_consumer (Some new)))
    (waits
    (last (each_costs 3 g.chargers 0 (attach_charger new) (attach_costs new))
    (notify_costs (Event.ConsumerConnected new.psu new.consumer_power_capability))))

connect_costs : (g : Registration) (new : AvailableConsumer) → Costs (1 + (1 + g.chargers * 3)) (connect_consumer g new)
unfolding connect_consumer
connect_costs g new =
    reads (λ s r. ok (can_connect_consumer_of (psu_of r new.psu)) >> (psu (Order.ConnectConsumer new.psu new.consumer_power_capability) >> post_consumer_connected g new))
    (λ h r k. refl)
    (λ s r. first (ok_costs (can_connect_consumer_of (psu_of r new.psu)))
    (then (asks_psu (Order.ConnectConsumer new.psu new.consumer_power_capability)) (connected_costs g new)))

gives_way : (g : Registration) (current new : AvailableConsumer) (f : DisconnectFlags) →
    Costs (1 + g.chargers * 1)
    (records >>= (λ r. when (is_connected_consumer (psu_of r current.psu).psu_state) (psu (Order.Disconnect current.psu))
    >> (disconnect_chargers g >> notify (Event.ConsumerDisconnected current.psu (reason_of current.psu new f)))))
gives_way g current new f =
    reads (λ s r. when (is_connected_consumer (psu_of r current.psu).psu_state) (psu (Order.Disconnect current.psu))
    >> (disconnect_chargers g >> notify (Event.ConsumerDisconnected current.psu (reason_of current.psu new f))))
    (λ h r k. refl)
    (λ s r. then (when_costs (is_connected_consumer (psu_of r current.psu).psu_state) (asks_psu (Order.Disconnect current.psu)))
    (last (chargers_cost g) (notify_costs (Event.ConsumerDisconnected current.psu (reason_of current.psu new f)))))

current_costs : (g : Registration) (current new : AvailableConsumer) (f : DisconnectFlags) → Costs (1 + g.chargers * 1) (disconnect_current g current new f)
unfolding disconnect_current
current_costs g current new f = first (set_costs (with_consumer None)) (gives_way g current new f)

new_costs : (g : Registration) (current : Option AvailableConsumer) (new : AvailableConsumer) (f : DisconnectFlags) →
    Costs (3 + 4 * g.chargers) (connect_new_consumer g current new f)
unfolding connect_new_consumer
new_costs g None new f = dearer (3 + 4 * g.chargers) (omega arith) (connect_costs g new)
new_costs g (Some current) new f =
    unless_costs (same_available current new)
    (dearer (3 + 4 * g.chargers) (omega arith) (then (current_costs g current new f) (connect_costs g new)))

best_costs : (g : Registration) (best current : Option AvailableConsumer) (f : DisconnectFlags) →
    Costs (3 + 4 * g.chargers) (connect_best g best current f)
unfolding connect_best
best_costs g (Some new) current f = new_costs g current new f
best_costs g None None f =
    dearer (3 + 4 * g.chargers) (omega arith) (set_costs (with_consumer None))
best_costs g None (Some current) f =
    dearer (3 + 4 * g.chargers) (omega arith)
    (last (chargers_cost g)
    (first (notify_costs (Event.ConsumerDisconnected current.psu f)) (set_costs (with_consumer None))))

-- the update, whatever came before it
pub update_costs : (g : Registration) (f : DisconnectFlags) → Costs (3 + 4 * g.chargers) (update_current_consumer g f)
unfolding update_current_consumer
update_costs g f =
    reads (λ s r. connect_best g (find_best_consumer g s r) s.current_consumer_state f >> update_unconstrained_state g) (λ h r k. refl)
    (λ s r. last (best_costs g (find_best_consumer g s r) s.current_consumer_state f) (unconstrained_costs g))

provided_costs : (p : ℕ) (c : ProviderPowerCapability) → Costs 0 (post_provider_connected p c)
unfolding post_provider_connected
provided_costs p c =
    reads (λ s r. set (with_providers (insert_of s.connected_providers p).providers) >> notify (Event.ProviderConnected p c)) (λ h r k. refl)
    (λ s r. first (set_costs (with_providers (insert_of s.connected_providers p).providers)) (notify_costs (Event.ProviderConnected p c)))

provide_costs : (g : Registration) (p : ℕ) (q : Option ProviderPowerCapability) → Costs 1 (provide g p q)
unfolding provide
provide_costs g p None = dearer 1 (omega arith) skips
provide_costs g p (Some q) =
    reads
    (λ s r.
    let w = power_state_of g.config (total_with p q r.psus (min 16 g.ports)) in
    set (with_power_state w)
    >> (ok (can_connect_provider_of (psu_of r p))
    >> (psu (Order.ConnectProvider p (grant_of g.config w q)) >> post_provider_connected p (grant_of g.config w q))))
    (λ h r k. refl)
    (λ s r.
    let w = power_state_of g.config (total_with p q r.psus (min 16 g.ports)) in
    first (set_costs (with_power_state w))
    (first (ok_costs (can_connect_provider_of (psu_of r p)))
    (last (asks_psu (Order.ConnectProvider p (grant_of g.config w q))) (provided_costs p (grant_of g.config w q)))))

removed_costs : (g : Registration) (p : ℕ) (d : Removed) → Costs 0 (remove_provider g p d)
unfolding remove_provider
removed_costs g p d =
    when_costs d.found
    (reads
    (λ s r. set (with_providers d.providers)
    >> (set (with_power_state (power_state_of g.config (total_of r.psus (min 16 g.ports)))) >> notify (Event.ProviderDisconnected p)))
    (λ h r k. refl)
    (λ s r. first (set_costs (with_providers d.providers))
    (first (set_costs (with_power_state (power_state_of g.config (total_of r.psus (min 16 g.ports)))))
    (notify_costs (Event.ProviderDisconnected p)))))

departed_costs : (g : Registration) (p : ℕ) → Costs 0 (post_provider_removed g p)
unfolding post_provider_removed
departed_costs g p =
    reads (λ s r. remove_provider g p (remove_of s.connected_providers p)) (λ h r k. refl)
    (λ s r. removed_costs g p (remove_of s.connected_providers p))

event_costs : (g : Registration) (p : ℕ) (e : EventData) → Costs (3 + 4 * g.chargers) (process_psu_event g p e)
unfolding process_psu_event connect_provider
event_costs g p EventData.Attached = dearer (3 + 4 * g.chargers) (omega arith) skips
event_costs g p EventData.UpdatedConsumerCapability = update_costs g no_reason
event_costs g p EventData.RequestedProviderCapability =
    dearer (3 + 4 * g.chargers) (omega arith)
    (reads (λ s r. provide g p (psu_of r p).requested_provider_capability) (λ h r k. refl)
    (λ s r. provide_costs g p (psu_of r p).requested_provider_capability))
event_costs g p (EventData.Disconnected f) = first (departed_costs g p) (update_costs g f)
event_costs g p EventData.Detached = first (departed_costs g p) (update_costs g detached_reason)

-- whatever the devices answer, an event closes after at most 3 + 4 × chargers orders
pub event_bound : (g : Registration) (p : ℕ) (e : EventData) (s : InternalState) (r : Records) → AtMost (3 + 4 * g.chargers) (event g p e s r)
event_bound g p e s r = (event_costs g p e).cost 0 (3 + 4 * g.chargers) (omega arith) _ r close (λ h r'. tt)

-- so it never gives more
pub orders_bound : (n : ℕ) (i : Interaction) (l : Answers) → AtMost n i → length (orders_by i l) ≤ n
orders_bound n (done a h) l p = omega arith
orders_bound zero (ask o k) l p = elim p [ ]
orders_bound (suc n) (ask o k) [] p = omega arith
orders_bound (suc n) (ask o k) (x ∷ l) p =
    go (no_answer o x.0) (orders_bound (suc n) (ask o k) l p) (orders_bound n (k (result_of x.0) x.1) l (p (result_of x.0) x.1))
  where
    go : (b : Bool) → length (orders_by (ask o k) l) ≤ suc n → length (orders_by (k (result_of x.0) x.1) l) ≤ n →
        length (cond b (orders_by (ask o k) l) (o ∷ orders_by (k (result_of x.0) x.1) l)) ≤ suc n
    go true q z = q
    go false q z = omega arith
