-- An event that updates the consumer leaves the best one of the records that it was opened with: the new one is recorded and nothing after that
-- changes it, no order comes before the choice, and a consumer that is left alone equals the best.
use Rattle.std.specs.Prelude.{None, Option, Some}
use mathlib.Core.Path.{◌≡◌, refl, sym, subst}
use mathlib.Core.Bool.{Bool, true, false}
use mathlib.Core.List.{[]}
use Prim.Native.Nat.{ℕ, min}
use lib.Dec.{T, eqb, eqb→eq}
use mir.Facts.{and_yes}
use Rattle.power_policy_interface.specs.Capability.{same_consumer}
use Rattle.power_policy_interface.specs.declared.capability.DisconnectFlags.{DisconnectFlags}
use Rattle.power_policy_interface.specs.declared.psu.event.EventData.{EventData}
use Rattle.power_policy_interface.specs.declared.service.event.Event.{Event}
use Rattle.power_policy_interface.proofs.Same.{consumer_eq}
use Rattle.interface_display.specs.Providers.{remove_of, Removed}
use Rattle.interface_display.specs.declared.AvailableConsumer.{AvailableConsumer}
use Rattle.power_policy_service.specs.Consumer.{best_of}
use Rattle.power_policy_service.specs.Provider.{total_of, power_state_of}
use Rattle.abstract_policy.specs.State.{with_consumer, with_providers, with_power_state}
use Rattle.abstract_policy.specs.Interaction.{no_reason, detached_reason, same_available, update_unconstrained_state, disconnect_current, connect_consumer, connect_new_consumer, connect_best, find_best_consumer, update_current_consumer, remove_provider, post_provider_removed, process_psu_event, close, event}
use Rattle.abstract_policy.specs.Action.{Held, ◌>>=◌, ◌>>◌, skip, records, set, notify, when, unless}
use Rattle.abstract_policy.specs.Ends.{Consumes, Chooses, updates_consumer, Ends}
use Rattle.abstract_policy.specs.declared.state.InternalState.{InternalState}
use Rattle.abstract_policy.specs.declared.state.Records.{Records}
use Rattle.abstract_policy.specs.declared.state.Registration.{Registration}
use Rattle.abstract_policy.proofs.Logic.{Next, From, then, skips, sets, notifies, chargers_left, connects, disconnects, figures}

-- same port and same capability: the same consumer
same_available_lem : (a b : AvailableConsumer) → T (same_available a b) → a ≡ b
same_available_lem a b t =
    let both = and_yes (eqb a.psu b.psu) (same_consumer b.consumer_power_capability a.consumer_power_capability) t in
    let p = eqb→eq a.psu b.psu both.0 in
    let q = sym (consumer_eq b.consumer_power_capability a.consumer_power_capability both.1) in
    λ i. record { psu = p i; consumer_power_capability = q i }

-- the new one is recorded, whatever was held
connect_chooses : (P : Held → Type 0) (g : Registration) (new : AvailableConsumer) →
    From P (connect_consumer g new) (Consumes (Some new))
connect_chooses P g new =
    connects {P = P} {A = Consumes (Some new)} {Q = Consumes (Some new)} g new (λ h p. refl) (λ h p. p)

disconnect_leaves : (P : Held → Type 0) (g : Registration) (current new : AvailableConsumer) (f : DisconnectFlags) →
    From P (disconnect_current g current new f) (Consumes None)
disconnect_leaves P g current new f =
    disconnects {P = P} {A = Consumes None} {Q = Consumes None} g current new f (λ h p. refl) (λ h p. p)

new_chosen : (g : Registration) (current : Option AvailableConsumer) (new : AvailableConsumer) (f : DisconnectFlags) →
    From (Consumes current) (connect_new_consumer g current new f) (Consumes (Some new))
unfolding connect_new_consumer
new_chosen g None new f = connect_chooses (Consumes None) g new
new_chosen g (Some current) new f = go (same_available current new) (same_available_lem current new)
  where
    -- whatever the test, if it is true only of equal ones
    go : (b : Bool) → (T b → current ≡ new) →
        From (Consumes (Some current)) (unless b (disconnect_current g current new f >> connect_consumer g new))
        (Consumes (Some new))
    go true e = subst (λ c. From (Consumes (Some current)) skip (Consumes (Some c))) (e tt) skips
    go false e =
        then (disconnect_leaves (Consumes (Some current)) g current new f)
        (connect_chooses (Consumes None) g new)

best_chosen : (g : Registration) (best current : Option AvailableConsumer) (f : DisconnectFlags) →
    From (Consumes current) (connect_best g best current f) (Consumes best)
unfolding connect_best
best_chosen g (Some best) current f = new_chosen g current best f
best_chosen g None None f = sets (with_consumer None) (λ h p. refl)
best_chosen g None (Some current) f =
    then (chargers_left g)
    (then (notifies {Q = Consumes (Some current)} (Event.ConsumerDisconnected current.psu f) (λ h p. p))
    (sets (with_consumer None) (λ h p. refl)))

figures_keep : (c : Option AvailableConsumer) (g : Registration) → From (Consumes c) (update_unconstrained_state g) (Consumes c)
figures_keep c g = figures {P = Consumes c} {A = λ u. Consumes c} g (λ u h p. p) (λ u h p. p)

-- the update, whatever came before it: from the consumer of s, by the records that it is given, it leaves the best
pub updates_choose : (g : Registration) (f : DisconnectFlags) (s : InternalState) (h : Held) (r : Records) →
    h.state.current_consumer_state ≡ s.current_consumer_state → Chooses (find_best_consumer g s r) (update_current_consumer g f h r close)
unfolding update_current_consumer
updates_choose g f s h r e =
    subst (λ c. Chooses (best_of g.config.min_consumer_threshold_mw c r.psus (min 16 g.ports)) ((connect_best g (find_best_consumer g h.state r) h.state.current_consumer_state f >> update_unconstrained_state g) h r close))
    e
    ((then (best_chosen g (find_best_consumer g h.state r) h.state.current_consumer_state f) (figures_keep (find_best_consumer g h.state r) g)).goes
    (Consumes (find_best_consumer g h.state r)) h r close refl (λ h' r' z. z))

-- removing a provider leaves the consumer, and asks for nothing: the records stay
removal_keeps : (C : Held → Type 0) (g : Registration) (p : ℕ) (d : Removed) (h : Held) (r : Records) (k : Next) →
    ((h' : Held) → h'.state.current_consumer_state ≡ h.state.current_consumer_state → Ends C (k tt h' r)) → Ends C (remove_provider g p d h r k)
unfolding remove_provider
removal_keeps C g p d h r k q = go d.found
  where
    go : (b : Bool) → Ends C (when b
        (records >>= (λ r'. set (with_providers d.providers)
        >> (set (with_power_state (power_state_of g.config (total_of r'.psus (min 16 g.ports)))) >> notify (Event.ProviderDisconnected p))))
        h
        r
        k)
    go true = q _ refl
    go false = q h refl

departs_choose : (g : Registration) (p : ℕ) (f : DisconnectFlags) (s : InternalState) (r : Records) →
    Chooses (find_best_consumer g s r) ((post_provider_removed g p >> update_current_consumer g f) (record { state = s; notices = [] }) r close)
unfolding post_provider_removed
departs_choose g p f s r =
    removal_keeps (Consumes (find_best_consumer g s r)) g p (remove_of s.connected_providers p) (record { state = s; notices = [] }) r
    (λ u h r'. update_current_consumer g f h r' close) (λ h e. updates_choose g f s h r e)

-- an event that updates the consumer leaves the best for the state and the records that it was opened with
pub event_chooses : (g : Registration) (p : ℕ) (e : EventData) (s : InternalState) (r : Records) → updates_consumer e ≡ true →
    Chooses (find_best_consumer g s r) (event g p e s r)
unfolding process_psu_event
event_chooses g p EventData.Attached s r u = absurd (subst T (sym u) tt)
event_chooses g p EventData.UpdatedConsumerCapability s r u = updates_choose g no_reason s (record { state = s; notices = [] }) r refl
event_chooses g p EventData.RequestedProviderCapability s r u = absurd (subst T (sym u) tt)
event_chooses g p (EventData.Disconnected f) s r u = departs_choose g p f s r
event_chooses g p EventData.Detached s r u = departs_choose g p detached_reason s r
