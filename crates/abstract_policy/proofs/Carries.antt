-- An event's notices lead from what was held before it to what is held when it closes without error: each change of the state has its notice
-- after it, and between the two only a device's error can end the event. In the logic of actions of Logic.antt.
use Rattle.std.specs.Prelude.{None, Option, Some}
use mathlib.Core.Path.{◌≡◌, refl, sym, ap, ◌∙◌}
use mathlib.Core.Bool.{Bool, true, false}
use mathlib.Core.List.{[]}
use Prim.Native.Nat.{ℕ, min}
use Rattle.power_policy_interface.specs.Psu.{can_connect_provider_of}
use Rattle.power_policy_interface.specs.declared.capability.DisconnectFlags.{DisconnectFlags}
use Rattle.power_policy_interface.specs.declared.capability.ProviderPowerCapability.{ProviderPowerCapability}
use Rattle.power_policy_interface.specs.declared.psu.event.EventData.{EventData}
use Rattle.power_policy_interface.specs.declared.service.event.Event.{Event}
use Rattle.interface_display.specs.Display.{set_consumer, set_unconstrained, set_providers, applied_to}
use Rattle.interface_display.specs.Notices.{applied_all}
use Rattle.interface_display.specs.Providers.{insert_of, remove_of}
use Rattle.interface_display.specs.declared.AvailableConsumer.{AvailableConsumer}
use Rattle.interface_display.specs.declared.Display.{Display}
use Rattle.interface_display.specs.declared.providers.Providers.{Providers}
use Rattle.power_policy_service.specs.Provider.{total_of, total_with, power_state_of, grant_of}
use Rattle.power_policy_service.specs.declared.provider.PowerState.{PowerState}
use Rattle.abstract_policy.specs.State.{with_consumer, with_providers, with_power_state, psu_of, display_of}
use Rattle.abstract_policy.specs.Interaction.{no_reason, detached_reason, reason_of, same_available, update_unconstrained_state, disconnect_current, connect_consumer, connect_new_consumer, connect_best, find_best_consumer, update_current_consumer, post_provider_connected, provide, connect_provider, remove_provider, post_provider_removed, process_psu_event, close, event}
use Rattle.abstract_policy.specs.Action.{Held, ◌>>=◌, ◌>>◌, records, set, notify, ok, psu, when}
use Rattle.abstract_policy.specs.Ends.{Leads, Carries}
use Rattle.abstract_policy.specs.declared.state.InternalState.{InternalState}
use Rattle.abstract_policy.specs.declared.state.Records.{Records}
use Rattle.abstract_policy.specs.declared.state.Registration.{Registration}
use Rattle.abstract_policy.specs.declared.order.Order.{Order}
use Rattle.abstract_policy.proofs.Logic.{From, SetsTo, TellsTo, connected_event, then, skips, sets, notifies, oks, asks_psu, unlesses, reads, forget, chargers_left, connects, disconnects, figures}
use Rattle.interface_display.proofs.Four.{applied_last}

module _ (d : Display) where
  -- the consumer: changed first, told of later

  abbrev Old : Held → Type 0
  Old h = Leads d h

  -- the state's consumer is c already, its notice is still to come
  abbrev Ahead : Option AvailableConsumer → Held → Type 0
  Ahead c h = display_of h.state ≡ set_consumer (applied_all h.notices d) c

  ahead : (c : Option AvailableConsumer) → SetsTo (with_consumer c) Old (Ahead c)
  ahead c h p = ap (λ (x : Display). set_consumer x c) p

  told_none : (p : ℕ) (f : DisconnectFlags) → TellsTo (Event.ConsumerDisconnected p f) (Ahead None) Old
  told_none p f h q = q ∙ sym (applied_last h.notices (Event.ConsumerDisconnected p f) d)

  told_new : (c : AvailableConsumer) → TellsTo (connected_event c) (Ahead (Some c)) Old
  told_new c h q = q ∙ sym (applied_last h.notices (connected_event c) d)

  connect : (g : Registration) (new : AvailableConsumer) → From Old (connect_consumer g new) Old
  connect g new =
      connects {P = Old} {A = Ahead (Some new)} {Q = Old} g new (ahead (Some new)) (told_new new)

  disconnect : (g : Registration) (current new : AvailableConsumer) (f : DisconnectFlags) → From Old (disconnect_current g current new f) Old
  disconnect g current new f =
      disconnects {P = Old} {A = Ahead None} {Q = Old} g current new f (ahead None)
      (told_none current.psu (reason_of current.psu new f))

  news : (g : Registration) (current : Option AvailableConsumer) (new : AvailableConsumer) (f : DisconnectFlags) → From Old (connect_new_consumer g current new f) Old
  unfolding connect_new_consumer
  news g None new f = connect g new
  news g (Some current) new f = unlesses (same_available current new) (then (disconnect g current new f) (connect g new))

  -- no consumer is left: told of first, changed then

  abbrev Behind : Held → Type 0
  Behind h = set_consumer (display_of h.state) None ≡ applied_all h.notices d

  behind : (p : ℕ) (f : DisconnectFlags) → TellsTo (Event.ConsumerDisconnected p f) Old Behind
  behind p f h q =
      ap (λ (x : Display). set_consumer x None) q ∙ sym (applied_last h.notices (Event.ConsumerDisconnected p f) d)

  bests : (g : Registration) (best current : Option AvailableConsumer) (f : DisconnectFlags) →
      From (λ h. Old h × (h.state.current_consumer_state ≡ current)) (connect_best g best current f) Old
  unfolding connect_best
  bests g (Some new) current f = record { goes = λ C h r k p q. (news g current new f).goes C h r k p.0 q }
  bests g None None f =
      sets (with_consumer None)
      (λ h p. ap (λ (c : Option AvailableConsumer). display_of (with_consumer c h.state)) (sym p.1) ∙ p.0)
  bests g None (Some current) f = record {
    goes = λ C h r k p q.
        (then (chargers_left {P = Old} g)
        (then (notifies (Event.ConsumerDisconnected current.psu f) (behind current.psu f))
        (sets {P = Behind} {Q = Old} (with_consumer None) (λ h' z. z)))).goes C h r k p.0 q;
  }

  -- the unconstrained figures

  figure : (g : Registration) → From Old (update_unconstrained_state g) Old
  figure g =
      figures {P = Old} {A = λ u h. display_of h.state ≡ set_unconstrained (applied_all h.notices d) u} g
      (λ u h p. ap (λ (x : Display). set_unconstrained x u) p)
      (λ u h p. p ∙ sym (applied_last h.notices (Event.Unconstrained u) d))

  best_from : (g : Registration) (f : DisconnectFlags) (s : InternalState) (r : Records) →
      From (λ h. Old h × (h.state ≡ s)) (connect_best g (find_best_consumer g s r) s.current_consumer_state f) Old
  best_from g f s r = record {
    goes = λ C h r' k p q.
        (bests g (find_best_consumer g s r) s.current_consumer_state f).goes C h r' k (p.0, ap (λ (x : InternalState). x.current_consumer_state) p.1) q;
  }

  -- the update, whatever came before it
  pub updates : (g : Registration) (f : DisconnectFlags) → From Old (update_current_consumer g f) Old
  unfolding update_current_consumer
  updates g f =
      reads (λ s r. connect_best g (find_best_consumer g s r) s.current_consumer_state f >> update_unconstrained_state g) (λ h r k. refl)
      (λ s r. then (best_from g f s r) (figure g))

  -- providers

  provided : (p : ℕ) (c : ProviderPowerCapability) → From Old (post_provider_connected p c) Old
  unfolding post_provider_connected
  provided p c =
      reads (λ s r. set (with_providers (insert_of s.connected_providers p).providers) >> notify (Event.ProviderConnected p c)) (λ h r k. refl)
      (λ s r. then
      (sets {P = λ h. Old h × (h.state ≡ s)} {Q = λ h. display_of h.state ≡ applied_to (applied_all h.notices d) (Event.ProviderConnected p c)}
      (with_providers (insert_of s.connected_providers p).providers)
      (λ h z.
      ap (λ (x : InternalState). display_of (with_providers (insert_of x.connected_providers p).providers h.state)) (sym z.1)
      ∙ ap (λ (x : Display). set_providers x (insert_of x.providers p).providers) z.0))
      (notifies (Event.ProviderConnected p c) (λ h z. z ∙ sym (applied_last h.notices (Event.ProviderConnected p c) d))))

  provides : (g : Registration) (p : ℕ) (q : Option ProviderPowerCapability) → From Old (provide g p q) Old
  unfolding provide
  provides g p None = skips
  provides g p (Some q) =
      reads
      (λ s r.
      let w = power_state_of g.config (total_with p q r.psus (min 16 g.ports)) in
      set (with_power_state w)
      >> (ok (can_connect_provider_of (psu_of r p))
      >> (psu (Order.ConnectProvider p (grant_of g.config w q)) >> post_provider_connected p (grant_of g.config w q))))
      (λ h r k. refl)
      (λ s r.
      let w = power_state_of g.config (total_with p q r.psus (min 16 g.ports)) in
      forget s
      (then (sets {P = Old} {Q = Old} (with_power_state w) (λ h z. z))
      (then (oks (can_connect_provider_of (psu_of r p)))
      (then (asks_psu (Order.ConnectProvider p (grant_of g.config w q))) (provided p (grant_of g.config w q))))))

  removes : (g : Registration) (p : ℕ) (ps : Providers) →
      From (λ h. Old h × (h.state.connected_providers ≡ ps)) (remove_provider g p (remove_of ps p)) Old
  unfolding remove_provider
  removes g p ps = go (remove_of ps p).found
    where
      w : Records → PowerState
      w r = power_state_of g.config (total_of r.psus (min 16 g.ports))

      body : From (λ h. Old h × (h.state.connected_providers ≡ ps))
          (records >>= (λ r. set (with_providers (remove_of ps p).providers) >> (set (with_power_state (w r)) >> notify (Event.ProviderDisconnected p)))) Old
      body =
          reads (λ s r. set (with_providers (remove_of ps p).providers) >> (set (with_power_state (w r)) >> notify (Event.ProviderDisconnected p))) (λ h r k. refl)
          (λ s r. forget s
          (then
          (sets {P = λ h. Old h × (h.state.connected_providers ≡ ps)} {Q = λ h. display_of h.state ≡ applied_to (applied_all h.notices d) (Event.ProviderDisconnected p)}
          (with_providers (remove_of ps p).providers)
          (λ h z.
          ap (λ (x : Providers). display_of (with_providers (remove_of x p).providers h.state)) (sym z.1)
          ∙ ap (λ (x : Display). set_providers x (remove_of x.providers p).providers) z.0))
          (then (sets (with_power_state (w r)) (λ h z. z))
          (notifies (Event.ProviderDisconnected p) (λ h z. z ∙ sym (applied_last h.notices (Event.ProviderDisconnected p) d))))))

      go : (b : Bool) → From (λ h. Old h × (h.state.connected_providers ≡ ps))
          (when b (records >>= (λ r. set (with_providers (remove_of ps p).providers) >> (set (with_power_state (w r)) >> notify (Event.ProviderDisconnected p))))) Old
      go true = body
      go false = record { goes = λ C h r k z q. q h r z.0 }

  departs : (g : Registration) (p : ℕ) → From Old (post_provider_removed g p) Old
  unfolding post_provider_removed
  departs g p =
      reads (λ s r. remove_provider g p (remove_of s.connected_providers p)) (λ h r k. refl)
      (λ s r. record {
        goes = λ C h r' k z q. (removes g p s.connected_providers).goes C h r' k (z.0, ap (λ (x : InternalState). x.connected_providers) z.1) q;
      })

  events : (g : Registration) (p : ℕ) (e : EventData) → From Old (process_psu_event g p e) Old
  unfolding process_psu_event connect_provider
  events g p EventData.Attached = skips
  events g p EventData.UpdatedConsumerCapability = updates g no_reason
  events g p EventData.RequestedProviderCapability =
      reads (λ s r. provide g p (psu_of r p).requested_provider_capability) (λ h r k. refl)
      (λ s r. forget s (provides g p (psu_of r p).requested_provider_capability))
  events g p (EventData.Disconnected f) = then (departs g p) (updates g f)
  events g p EventData.Detached = then (departs g p) (updates g detached_reason)

-- whatever is answered, an event that closes without error has told of every change
pub event_carries : (g : Registration) (p : ℕ) (e : EventData) (s : InternalState) (r : Records) → Carries (display_of s) (event g p e s r)
event_carries g p e s r = (events (display_of s) g p e).goes (Leads (display_of s)) (record { state = s; notices = [] }) r close refl (λ h r' z. z)
