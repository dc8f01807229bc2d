-- What is held and told stays within its ranges: each change of an event takes its figures from the state, the configuration or the records.
use Rattle.std.specs.Prelude.{Err, None, Ok, Option, Result, Some}
use mathlib.Core.Path.{◌≡◌, refl, sym, ap, ◌∙◌, subst}
use mathlib.Core.Bool.{Bool, true, false, cond}
use mathlib.Core.List.{List, [], ◌∷◌, ◌++◌}
use Prim.Native.Nat.{ℕ, zero, suc, min, ◌<◌, ◌≤◌}
use native.Mathlib.Nat.{min-le_left}
use native.Mathlib.Omega.{arith}
use lib.Dec.{leb, ltb}
use borrow.Author.Tests.{le-leb, ltb-true}
use Rattle.power_policy_interface.specs.Psu.{can_connect_consumer_of, can_connect_provider_of}
use Rattle.power_policy_interface.specs.Service.{same_unconstrained}
use Rattle.power_policy_interface.specs.Capability.{max_power_mw, capability_fits}
use Rattle.power_policy_interface.specs.declared.capability.ConsumerPowerCapability.{ConsumerPowerCapability}
use Rattle.power_policy_interface.specs.declared.capability.DisconnectFlags.{DisconnectFlags}
use Rattle.power_policy_interface.specs.declared.psu.Error.{Error}
use Rattle.power_policy_interface.specs.declared.capability.ProviderPowerCapability.{ProviderPowerCapability}
use Rattle.power_policy_interface.specs.declared.psu.event.EventData.{EventData}
use Rattle.power_policy_interface.specs.declared.service.event.Event.{Event}
use Rattle.interface_display.specs.Providers.{insert_of, remove_of}
use Rattle.interface_display.specs.declared.AvailableConsumer.{AvailableConsumer}
use Rattle.interface_display.specs.declared.providers.Providers.{Providers}
use Rattle.interface_display.proofs.Tracked.{Tracks, insert_tracks, remove_tracks}
use Rattle.power_policy_service.specs.Choice.{Chosen}
use Rattle.power_policy_service.specs.Consumer.{best_of, offered, meets}
use Rattle.power_policy_service.specs.Provider.{total_of, total_with, power_state_of, grant_of}
use Rattle.power_policy_service.specs.Rows.{psu_at, no_psu}
use Rattle.power_policy_service.specs.Config.{ConfigFits}
use Rattle.power_policy_service.specs.declared.config.Config.{Config}
use Rattle.power_policy_service.specs.declared.provider.PowerState.{PowerState}
use Rattle.power_policy_service.proofs.Choice.{chosen}
use Rattle.power_policy_service.proofs.Greatest.{not_both, one_offer}
use Rattle.abstract_policy.specs.State.{with_consumer, with_unconstrained, with_providers, with_power_state, psu_of, charger_unpowered}
use Rattle.abstract_policy.specs.Interaction.{no_reason, detached_reason, reason_of, unconstrained_of, available_of, offers_unconstrained, counted, same_available, is_connected_consumer, update_unconstrained_state, attach_charger, post_consumer_connected, detach_charger, disconnect_chargers, disconnect_current, connect_consumer, connect_new_consumer, connect_best, find_best_consumer, update_current_consumer, post_provider_connected, provide, connect_provider, remove_provider, post_provider_removed, process_psu_event, close, event}
use Rattle.abstract_policy.specs.Action.{Held, Interaction, done, ask, Action, ◌>>=◌, ◌>>◌, skip, records, set, notify, await, ok, charger_ok, charger, psu, when, unless, each}
use Rattle.abstract_policy.specs.declared.state.InternalState.{InternalState}
use Rattle.abstract_policy.specs.declared.state.Records.{Records}
use Rattle.abstract_policy.specs.declared.state.Registration.{Registration}
use Rattle.abstract_policy.specs.declared.order.Order.{Order}
use Rattle.wire.specs.WellFormed.{contract_fits, notice_fits, notices_fit, consumer_fits}
use Rattle.std.proofs.lemmas.Bool.{and_parts, and_from}
use Rattle.promise_run.specs.Sized.{OfferFits, RequestFits, PsuFits, RecordsFit}

-- what is held and told

abbrev pub ConsumerFits : AvailableConsumer → Type 0
ConsumerFits c = contract_fits c.psu c.consumer_power_capability.capability ≡ true

pub record StateFits (s : InternalState) : Type 0 where
  pub consumer : consumer_fits s.current_consumer_state ≡ true
  pub available : leb s.unconstrained.available 16 ≡ true
  pub tracks : Tracks s.connected_providers

pub record HeldFits (h : Held) : Type 0 where
  pub state : StateFits h.state
  pub notices : notices_fit h.notices ≡ true

-- wherever an event closes, if the records that come fit
abbrev pub Sized : Interaction → Type 0
Sized (done a h) = HeldFits h
Sized (ask o k) = (a : Result (Unit {0}) Error) (r : Records) → RecordsFit r → Sized (k a r)

fits_last : (l : List Event) (e : Event) → notices_fit l ≡ true → notice_fits e ≡ true → notices_fit (l ++ (e ∷ [])) ≡ true
fits_last [] e p q = and_from (notice_fits e) true q refl
fits_last (x ∷ l) e p q =
    and_from (notice_fits x) (notices_fit (l ++ (e ∷ []))) (and_parts (notice_fits x) (notices_fit l) p).0 (fits_last l e (and_parts (notice_fits x) (notices_fit l) p).1 q)

-- an action keeps what is held and told within its ranges

abbrev Next : Type 0
Next = Unit {0} → Held → Records → Interaction

pub record Keeps (m : Action (Unit {0})) : Type 0 where
  pub keeps :
      (h : Held) (r : Records) (k : Next) → HeldFits h → RecordsFit r →
      ((h' : Held) (r' : Records) → HeldFits h' → RecordsFit r' → Sized (k tt h' r')) →
      Sized (m h r k)

then : {a b : Action (Unit {0})} → Keeps a → Keeps b → Keeps (a >> b)
then {a} {b} x y = record { keeps = λ h r k p f q. x.keeps h r (λ u h' r'. b h' r' k) p f (λ h' r' z w. y.keeps h' r' k z w q) }

skips : Keeps skip
skips = record { keeps = λ h r k p f q. q h r p f }

sets : (f : InternalState → InternalState) → ((s : InternalState) → StateFits s → StateFits (f s)) → Keeps (set f)
sets f z = record { keeps = λ h r k p w q. q _ r (record { state = z h.state p.state; notices = p.notices }) w }

notifies : (e : Event) → notice_fits e ≡ true → Keeps (notify e)
notifies e z = record { keeps = λ h r k p w q. q _ r (record { state = p.state; notices = fits_last h.notices e p.notices z }) w }

psu_answer : (a : Result (Unit {0}) Error) (h : Held) (r : Records) (k : Next) → HeldFits h → Sized (k tt h r) → Sized (ok a h r k)
psu_answer (Ok tt) h r k p q = q
psu_answer (Err x) h r k p q = p

charger_answer : (a : Result (Unit {0}) Error) (h : Held) (r : Records) (k : Next) → HeldFits h → Sized (k tt h r) → Sized (charger_ok a h r k)
charger_answer (Ok tt) h r k p q = q
charger_answer (Err x) h r k p q = p

oks : (a : Result (Unit {0}) Error) → Keeps (ok a)
oks a = record { keeps = λ h r k p f q. psu_answer a h r k p (q h r p f) }

asks_psu : (o : Order) → Keeps (psu o)
asks_psu o = record { keeps = λ h r k p f q. λ a r' w. psu_answer a h r' k p (q h r' p w) }

asks_charger : (o : Order) → Keeps (charger o)
asks_charger o = record { keeps = λ h r k p f q. λ a r' w. charger_answer a h r' k p (q h r' p w) }

waits : {b : Action (Unit {0})} → Keeps b → Keeps (await Order.Wait >> b)
waits x = record { keeps = λ h r k p f q. λ a r' w. x.keeps h r' k p w q }

whens : {m : Action (Unit {0})} (b : Bool) → Keeps m → Keeps (when b m)
whens true x = x
whens false x = skips

unlesses : {m : Action (Unit {0})} (b : Bool) → Keeps m → Keeps (unless b m)
unlesses true x = skips
unlesses false x = x

loops : (n i : ℕ) (f : ℕ → Action (Unit {0})) → ((x : ℕ) → Keeps (f x)) → Keeps (each n i f)
loops zero i f x = skips
loops (suc n) i f x = then (x i) (loops n (suc i) f x)

reads : {a : Action (Unit {0})} (f : InternalState → Records → Action (Unit {0})) →
    ((h : Held) (r : Records) (k : Next) → a h r k ≡ f h.state r h r k) →
    ((s : InternalState) (r : Records) → StateFits s → RecordsFit r → Keeps (f s r)) →
    Keeps a
reads f e x = record { keeps = λ h r k p w q. subst Sized (sym (e h r k)) ((x h.state r p.state w).keeps h r k p w q) }

-- the chargers

attaches : (new : AvailableConsumer) (i : ℕ) → Keeps (attach_charger new i)
unfolding attach_charger
attaches new i =
    reads (λ s r. when (charger_unpowered r i) (charger (Order.IsReady i) >> charger (Order.InitCharger i)) >> charger (Order.Attach i new.consumer_power_capability))
    (λ h r k. refl)
    (λ s r p w. then (whens (charger_unpowered r i) (then (asks_charger (Order.IsReady i)) (asks_charger (Order.InitCharger i))))
    (asks_charger (Order.Attach i new.consumer_power_capability)))

detaches : (i : ℕ) → Keeps (detach_charger i)
unfolding detach_charger
detaches i =
    reads (λ s r. unless (charger_unpowered r i) (charger (Order.Detach i))) (λ h r k. refl)
    (λ s r p w. unlesses (charger_unpowered r i) (asks_charger (Order.Detach i)))

chargers_left : (g : Registration) → Keeps (disconnect_chargers g)
unfolding disconnect_chargers
chargers_left g = loops g.chargers 0 detach_charger detaches

-- the consumer

consumer_set : (c : Option AvailableConsumer) → consumer_fits c ≡ true → (s : InternalState) → StateFits s → StateFits (with_consumer c s)
consumer_set c e s p = record { consumer = e; available = p.available; tracks = p.tracks }

port_fits_lem : (c : AvailableConsumer) → ConsumerFits c → leb c.psu 15 ≡ true
port_fits_lem c e = (and_parts (leb c.psu 15) (capability_fits c.consumer_power_capability.capability) e).0

connected : (g : Registration) (new : AvailableConsumer) → ConsumerFits new → Keeps (post_consumer_connected g new)
unfolding post_consumer_connected
connected g new e =
    then (sets (with_consumer (Some new)) (consumer_set (Some new) e))
    (waits
    (then (loops g.chargers 0 (attach_charger new) (attaches new))
    (notifies (Event.ConsumerConnected new.psu new.consumer_power_capability) e)))

connects : (g : Registration) (new : AvailableConsumer) → ConsumerFits new → Keeps (connect_consumer g new)
unfolding connect_consumer
connects g new e =
    reads (λ s r. ok (can_connect_consumer_of (psu_of r new.psu)) >> (psu (Order.ConnectConsumer new.psu new.consumer_power_capability) >> post_consumer_connected g new))
    (λ h r k. refl)
    (λ s r p w. then (oks (can_connect_consumer_of (psu_of r new.psu)))
    (then (asks_psu (Order.ConnectConsumer new.psu new.consumer_power_capability)) (connected g new e)))

gives_way : (g : Registration) (current new : AvailableConsumer) (f : DisconnectFlags) → ConsumerFits current →
    Keeps (records >>= (λ r. when (is_connected_consumer (psu_of r current.psu).psu_state) (psu (Order.Disconnect current.psu))
    >> (disconnect_chargers g >> notify (Event.ConsumerDisconnected current.psu (reason_of current.psu new f)))))
gives_way g current new f e =
    reads (λ s r. when (is_connected_consumer (psu_of r current.psu).psu_state) (psu (Order.Disconnect current.psu))
    >> (disconnect_chargers g >> notify (Event.ConsumerDisconnected current.psu (reason_of current.psu new f))))
    (λ h r k. refl)
    (λ s r p w. then (whens (is_connected_consumer (psu_of r current.psu).psu_state) (asks_psu (Order.Disconnect current.psu)))
    (then (chargers_left g) (notifies (Event.ConsumerDisconnected current.psu (reason_of current.psu new f)) (port_fits_lem current e))))

disconnects : (g : Registration) (current new : AvailableConsumer) (f : DisconnectFlags) → ConsumerFits current → Keeps (disconnect_current g current new f)
unfolding disconnect_current
disconnects g current new f e =
    then (sets (with_consumer None) (consumer_set None refl)) (gives_way g current new f e)

news : (g : Registration) (current : Option AvailableConsumer) (new : AvailableConsumer) (f : DisconnectFlags) → consumer_fits current ≡ true → ConsumerFits new → Keeps (connect_new_consumer g current new f)
unfolding connect_new_consumer
news g None new f c e = connects g new e
news g (Some current) new f c e = unlesses (same_available current new) (then (disconnects g current new f c) (connects g new e))

bests : (g : Registration) (best current : Option AvailableConsumer) (f : DisconnectFlags) → consumer_fits best ≡ true → consumer_fits current ≡ true → Keeps (connect_best g best current f)
unfolding connect_best
bests g (Some new) current f b c = news g current new f c b
bests g None None f b c = sets (with_consumer None) (consumer_set None refl)
bests g None (Some current) f b c =
    then (chargers_left g)
    (then (notifies (Event.ConsumerDisconnected current.psu f) (port_fits_lem current c))
    (sets (with_consumer None) (consumer_set None refl)))

-- the choice takes its figures from a record

eligible_fits : (m : Option ℕ) (o : Option ConsumerPowerCapability) (c : ConsumerPowerCapability) → offered m o ≡ Some c → OfferFits o → capability_fits c.capability ≡ true
eligible_fits m None c e f = absurd (not_both {o = None} {d = c} refl e)
eligible_fits m (Some d) c e f = go (meets m d) refl
  where
    go : (b : Bool) → meets m d ≡ b → capability_fits c.capability ≡ true
    go true x =
        let y : Some d ≡ Some c = sym (ap (λ b. cond b (Some d) None) x) ∙ e in
        subst (λ (z : ConsumerPowerCapability). capability_fits z.capability ≡ true) (one_offer {o = Some d} {c = d} {d = c} refl y) f
    go false x =
        absurd (not_both {o = None} {d = c} refl (sym (ap (λ b. cond b (Some d) None) x) ∙ e))

pub best_fits : (m : Option ℕ) (current : Option AvailableConsumer) (r : Records) (n : ℕ) → n ≤ 16 → RecordsFit r → consumer_fits (best_of m current r.psus n) ≡ true
best_fits m current r n l w = go (best_of m current r.psus n) (chosen m current r.psus n)
  where
    go : (x : Option AvailableConsumer) → Chosen m current r.psus n x → consumer_fits x ≡ true
    go None c = refl
    go (Some c) b =
        let p : c.psu < n = b.offer.registered in
        and_from (leb c.psu 15) (capability_fits c.consumer_power_capability.capability) (le-leb c.psu 15 (omega (arith, p, l)))
        (eligible_fits m (psu_at r.psus c.psu).consumer_capability c.consumer_power_capability b.offer.offered (w c.psu (omega (arith, p, l))).0)

pub psu_fits : (r : Records) (p : ℕ) → RecordsFit r → PsuFits (psu_of r p)
psu_fits r p w = go (ltb p 16) refl
  where
    go : (b : Bool) → ltb p 16 ≡ b → PsuFits (cond b (psu_at r.psus p) no_psu)
    go true e = w p (ltb-true p 16 e)
    go false e = (tt, tt)

counted_le : (b : Bool) (n m : ℕ) → n ≤ m → counted b n ≤ suc m
counted_le true n m l = omega (arith, l)
counted_le false n m l = omega (arith, l)

pub available_le : (r : Records) (n : ℕ) → available_of r n ≤ n
available_le r zero = omega arith
available_le r (suc n) = counted_le (offers_unconstrained (psu_of r n)) (available_of r n) n (available_le r n)

-- a grant takes its figures from the configuration or the request

pub grant_fits : (c : Config) (s : PowerState) (q : ProviderPowerCapability) → ConfigFits c → capability_fits q.capability ≡ true → capability_fits (grant_of c s q).capability ≡ true
grant_fits c PowerState.Limited q f e = f.limited
grant_fits c PowerState.Unlimited q f e = go (ltb (max_power_mw q.capability) (max_power_mw c.provider_unlimited))
  where
    go : (b : Bool) → capability_fits (cond {A = ProviderPowerCapability} b q (record { capability = c.provider_unlimited; flags = q.flags })).capability ≡ true
    go true = e
    go false = f.unlimited

module _ (g : Registration) (config : ConfigFits g.config) (ports : g.ports ≤ 16) where
  figures : Keeps (update_unconstrained_state g)
  unfolding update_unconstrained_state
  figures =
      reads (λ s r. unless (same_unconstrained (unconstrained_of g s r) s.unconstrained) (set (with_unconstrained (unconstrained_of g s r)) >> notify (Event.Unconstrained (unconstrained_of g s r))))
      (λ h r k. refl)
      (λ s r p w.
      let e : leb (available_of r g.ports) 16 ≡ true = le-leb (available_of r g.ports) 16 (omega (arith, available_le r g.ports, ports)) in
      unlesses (same_unconstrained (unconstrained_of g s r) s.unconstrained)
      (then (sets (with_unconstrained (unconstrained_of g s r)) (λ x q. record { consumer = q.consumer; available = e; tracks = q.tracks }))
      (notifies (Event.Unconstrained (unconstrained_of g s r)) e)))

  updates : (f : DisconnectFlags) → Keeps (update_current_consumer g f)
  unfolding update_current_consumer
  updates f =
      reads (λ s r. connect_best g (find_best_consumer g s r) s.current_consumer_state f >> update_unconstrained_state g) (λ h r k. refl)
      (λ s r p w. then
      (bests g (find_best_consumer g s r) s.current_consumer_state f
      (best_fits g.config.min_consumer_threshold_mw s.current_consumer_state r (min 16 g.ports) (min-le_left 16 g.ports) w) p.consumer)
      figures)

  provided : (p : ℕ) (c : ProviderPowerCapability) → leb p 15 ≡ true → capability_fits c.capability ≡ true → Keeps (post_provider_connected p c)
  unfolding post_provider_connected
  provided p c l e =
      reads (λ s r. set (with_providers (insert_of s.connected_providers p).providers) >> notify (Event.ProviderConnected p c)) (λ h r k. refl)
      (λ s r q w. then
      (sets (with_providers (insert_of s.connected_providers p).providers)
      (λ x z. record { consumer = z.consumer; available = z.available; tracks = insert_tracks s.connected_providers p q.tracks }))
      (notifies (Event.ProviderConnected p c) (and_from (leb p 15) (capability_fits c.capability) l e)))

  provides : (p : ℕ) (q : Option ProviderPowerCapability) → leb p 15 ≡ true → RequestFits q → Keeps (provide g p q)
  unfolding provide
  provides p None l e = skips
  provides p (Some q) l e =
      reads
      (λ s r.
      let w = power_state_of g.config (total_with p q r.psus (min 16 g.ports)) in
      set (with_power_state w)
      >> (ok (can_connect_provider_of (psu_of r p))
      >> (psu (Order.ConnectProvider p (grant_of g.config w q)) >> post_provider_connected p (grant_of g.config w q))))
      (λ h r k. refl)
      (λ s r x y.
      let w = power_state_of g.config (total_with p q r.psus (min 16 g.ports)) in
      then (sets (with_power_state w) (λ z v. record { consumer = v.consumer; available = v.available; tracks = v.tracks }))
      (then (oks (can_connect_provider_of (psu_of r p)))
      (then (asks_psu (Order.ConnectProvider p (grant_of g.config w q))) (provided p (grant_of g.config w q) l (grant_fits g.config w q config e)))))

  removes : (p : ℕ) (ps : Providers) → leb p 15 ≡ true → Tracks ps → Keeps (remove_provider g p (remove_of ps p))
  unfolding remove_provider
  removes p ps l t =
      whens (remove_of ps p).found
      (reads
      (λ s r. set (with_providers (remove_of ps p).providers)
      >> (set (with_power_state (power_state_of g.config (total_of r.psus (min 16 g.ports)))) >> notify (Event.ProviderDisconnected p)))
      (λ h r k. refl)
      (λ s r x y. then
      (sets (with_providers (remove_of ps p).providers) (λ z v. record { consumer = v.consumer; available = v.available; tracks = remove_tracks ps p t }))
      (then (sets (with_power_state (power_state_of g.config (total_of r.psus (min 16 g.ports)))) (λ z v. record { consumer = v.consumer; available = v.available; tracks = v.tracks }))
      (notifies (Event.ProviderDisconnected p) l))))

  departs : (p : ℕ) → leb p 15 ≡ true → Keeps (post_provider_removed g p)
  unfolding post_provider_removed
  departs p l =
      reads (λ s r. remove_provider g p (remove_of s.connected_providers p)) (λ h r k. refl)
      (λ s r q w. removes p s.connected_providers l q.tracks)

  events : (p : ℕ) (e : EventData) → leb p 15 ≡ true → Keeps (process_psu_event g p e)
  unfolding process_psu_event connect_provider
  events p EventData.Attached l = skips
  events p EventData.UpdatedConsumerCapability l = updates no_reason
  events p EventData.RequestedProviderCapability l =
      reads (λ s r. provide g p (psu_of r p).requested_provider_capability) (λ h r k. refl)
      (λ s r q w. provides p (psu_of r p).requested_provider_capability l (psu_fits r p w).1)
  events p (EventData.Disconnected f) l = then (departs p l) (updates f)
  events p EventData.Detached l = then (departs p l) (updates detached_reason)

  pub event_sized : (p : ℕ) (e : EventData) (s : InternalState) (r : Records) → leb p 15 ≡ true → StateFits s → RecordsFit r → Sized (event g p e s r)
  event_sized p e s r l f w = (events p e l).keeps (record { state = s; notices = [] }) r close (record { state = f; notices = refl }) w (λ h r' z v. z)
