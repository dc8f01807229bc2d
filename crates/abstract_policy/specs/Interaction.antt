-- The event (DEM-2b), transcribed from consumer.rs, provider.rs and service/mod.rs, to be laid beside them. The names are theirs; a part of one of their
-- functions that has a name of its own here (attach_charger, detach_charger, disconnect_current, connect_consumer, connect_best, provide, remove_provider, and what
-- is computed or tested: unconstrained_of, is_connected_consumer, same_available, reason_of) stands just before the function.
use Rattle.std.specs.Prelude.{ℕ, zero, suc, min, Bool, true, false, cond, ◌&&◌, [], eqb, None, Ok, Option, Some}
use Rattle.power_policy_interface.specs.Limits.{max_ports}
use Rattle.power_policy_interface.specs.Psu.{can_connect_consumer_of, can_connect_provider_of}
use Rattle.power_policy_interface.specs.Service.{same_unconstrained}
use Rattle.power_policy_interface.specs.Capability.{same_consumer}
use Rattle.power_policy_interface.specs.declared.capability.DisconnectFlags.{DisconnectFlags}
use Rattle.power_policy_interface.specs.declared.capability.ConsumerPowerCapability.{ConsumerPowerCapability}
use Rattle.power_policy_interface.specs.declared.capability.ProviderPowerCapability.{ProviderPowerCapability}
use Rattle.power_policy_interface.specs.declared.psu.event.EventData.{EventData}
use Rattle.power_policy_interface.specs.declared.service.event.Event.{Event}
use Rattle.power_policy_interface.specs.declared.capability.DisconnectReason.{DisconnectReason}
use Rattle.power_policy_interface.specs.declared.psu.PsuState.{PsuState}
use Rattle.power_policy_interface.specs.declared.psu.State.{State}
use Rattle.power_policy_interface.specs.declared.service.UnconstrainedState.{UnconstrainedState}
use Rattle.interface_display.specs.Providers.{insert_of, remove_of, Removed}
use Rattle.interface_display.specs.declared.AvailableConsumer.{AvailableConsumer}
use Rattle.power_policy_service.specs.Consumer.{best_of}
use Rattle.power_policy_service.specs.Provider.{total_of, total_with, power_state_of, grant_of}
use Rattle.abstract_policy.specs.State.{with_consumer, with_unconstrained, with_providers, with_power_state, psu_of, charger_unpowered}
use Rattle.abstract_policy.specs.Action.{Held, Interaction, done, Action, ◌>>=◌, ◌>>◌, skip, state, records, set, notify, await, ok, psu, charger, when, unless, each}
use Rattle.abstract_policy.specs.declared.state.InternalState.{InternalState}
use Rattle.abstract_policy.specs.declared.state.Records.{Records}
use Rattle.abstract_policy.specs.declared.state.Registration.{Registration}
use Rattle.abstract_policy.specs.declared.order.Order.{Order}

-- consumer.rs: UPD

abbrev pub unconstrained_flag : Option ConsumerPowerCapability → Bool
unconstrained_flag None = false
unconstrained_flag (Some c) = c.flags.unconstrained_power

abbrev pub offers_unconstrained : State → Bool
offers_unconstrained s = unconstrained_flag s.consumer_capability

abbrev pub counted : Bool → ℕ → ℕ
counted true n = suc n
counted false n = n

-- UPD-12: ports whose consumer capability has unconstrained_power, under the minimum or not
abbrev pub available_of : Records → ℕ → ℕ
available_of r zero = 0
available_of r (suc n) = counted (offers_unconstrained (psu_of r n)) (available_of r n)

abbrev pub consumer_flag : Option AvailableConsumer → Bool
consumer_flag None = false
consumer_flag (Some c) = c.consumer_power_capability.flags.unconstrained_power

abbrev pub unconstrained_of : Registration → InternalState → Records → UnconstrainedState
unconstrained_of g s r = record { unconstrained = consumer_flag s.current_consumer_state; available = available_of r g.ports }

-- UPD-13: told where one of the two figures differs
unfoldable pub update_unconstrained_state : Registration → Action (Unit {0})
update_unconstrained_state g = do
  s ← state
  r ← records
  unless (same_unconstrained (unconstrained_of g s r) s.unconstrained) (do
    set (with_unconstrained (unconstrained_of g s r))
    notify (Event.Unconstrained (unconstrained_of g s r)))

-- UPD-10: the body of the loop over the chargers
unfoldable pub attach_charger : AvailableConsumer → ℕ → Action (Unit {0})
attach_charger new i = do
  r ← records
  when (charger_unpowered r i) (do
    charger (Order.IsReady i)
    charger (Order.InitCharger i))
  charger (Order.Attach i new.consumer_power_capability)

-- UPD-9 to UPD-11; a wait does not fail (EVT-7)
unfoldable pub post_consumer_connected : Registration → AvailableConsumer → Action (Unit {0})
post_consumer_connected g new = do
  set (with_consumer (Some new))
  await Order.Wait
  each g.chargers 0 (attach_charger new)
  notify (Event.ConsumerConnected new.psu new.consumer_power_capability)

unfoldable pub detach_charger : ℕ → Action (Unit {0})
detach_charger i = do
  r ← records
  unless (charger_unpowered r i) (charger (Order.Detach i))

unfoldable pub disconnect_chargers : Registration → Action (Unit {0})
disconnect_chargers g = each g.chargers 0 detach_charger

abbrev pub is_connected_consumer : PsuState → Bool
is_connected_consumer PsuState.Idle = false
is_connected_consumer (PsuState.ConnectedProvider c) = false
is_connected_consumer (PsuState.ConnectedConsumer c) = true
is_connected_consumer PsuState.Detached = false

abbrev pub same_available : AvailableConsumer → AvailableConsumer → Bool
same_available a b = eqb a.psu b.psu && same_consumer b.consumer_power_capability a.consumer_power_capability

abbrev pub or_switching : Option DisconnectReason → DisconnectReason
or_switching None = DisconnectReason.Switching
or_switching (Some r) = r

-- UPD-8: AutoRenegotiation if the port is the same, else the event's reason, else Switching
abbrev pub reason_of : ℕ → AvailableConsumer → DisconnectFlags → DisconnectFlags
reason_of old new f =
    record {
      reason = Some (cond (eqb old new.psu) DisconnectReason.AutoRenegotiation (or_switching f.reason));
    }

-- connect_new_consumer (UPD-6), and before it its two parts: the current consumer gives way (UPD-7); the new one is connected (UPD-9)

unfoldable pub disconnect_current : Registration → AvailableConsumer → AvailableConsumer → DisconnectFlags → Action (Unit {0})
disconnect_current g current new flags = do
  set (with_consumer None)
  r ← records
  when (is_connected_consumer (psu_of r current.psu).psu_state) (psu (Order.Disconnect current.psu))
  disconnect_chargers g
  notify (Event.ConsumerDisconnected current.psu (reason_of current.psu new flags))

unfoldable pub connect_consumer : Registration → AvailableConsumer → Action (Unit {0})
connect_consumer g new = do
  r ← records
  ok (can_connect_consumer_of (psu_of r new.psu))
  psu (Order.ConnectConsumer new.psu new.consumer_power_capability)
  post_consumer_connected g new

unfoldable pub connect_new_consumer :
    Registration → Option AvailableConsumer → AvailableConsumer → DisconnectFlags → Action (Unit {0})
connect_new_consumer g None new flags = connect_consumer g new
connect_new_consumer g (Some current) new flags =
    unless (same_available current new) (do
      disconnect_current g current new flags
      connect_consumer g new)

-- UPD-4, UPD-5: the best consumer, and the current one
unfoldable pub connect_best :
    Registration → Option AvailableConsumer → Option AvailableConsumer → DisconnectFlags → Action (Unit {0})
connect_best g (Some best) current flags = connect_new_consumer g current best flags
connect_best g None None flags = set (with_consumer None)
connect_best g None (Some current) flags = do
  disconnect_chargers g
  notify (Event.ConsumerDisconnected current.psu flags)
  set (with_consumer None)

abbrev pub find_best_consumer : Registration → InternalState → Records → Option AvailableConsumer
find_best_consumer g s r =
    best_of g.config.min_consumer_threshold_mw s.current_consumer_state r.psus (min max_ports g.ports)

unfoldable pub update_current_consumer : Registration → DisconnectFlags → Action (Unit {0})
update_current_consumer g flags = do
  s ← state
  r ← records
  connect_best g (find_best_consumer g s r) s.current_consumer_state flags
  update_unconstrained_state g

-- provider.rs: PRV

-- PRV-7: tracked if there or fewer than four are; PRV-8: told anyway
unfoldable pub post_provider_connected : ℕ → ProviderPowerCapability → Action (Unit {0})
post_provider_connected requester target = do
  s ← state
  set (with_providers (insert_of s.connected_providers requester).providers)
  notify (Event.ProviderConnected requester target)

-- PRV-1: no request, no error. PRV-2 to PRV-6: else the power state is set, and what it grants is ordered
unfoldable pub provide : Registration → ℕ → Option ProviderPowerCapability → Action (Unit {0})
provide g requester None = skip
provide g requester (Some requested) = do
  r ← records
  let power = power_state_of g.config (total_with requester requested r.psus (min max_ports g.ports))
  let target = grant_of g.config power requested
  set (with_power_state power)
  ok (can_connect_provider_of (psu_of r requester))
  psu (Order.ConnectProvider requester target)
  post_provider_connected requester target

unfoldable pub connect_provider : Registration → ℕ → Action (Unit {0})
connect_provider g requester = do
  r ← records
  provide g requester (psu_of r requester).requested_provider_capability

-- EVT-9: the power state by what is left, and the notice; EVT-10: nothing for a port that was not tracked
unfoldable pub remove_provider : Registration → ℕ → Removed → Action (Unit {0})
remove_provider g port removed =
    when removed.found (do
      r ← records
      set (with_providers removed.providers)
      set (with_power_state (power_state_of g.config (total_of r.psus (min max_ports g.ports))))
      notify (Event.ProviderDisconnected port))

-- EVT-8: the port is taken out of the tracked providers
unfoldable pub post_provider_removed : Registration → ℕ → Action (Unit {0})
post_provider_removed g port = do
  s ← state
  remove_provider g port (remove_of s.connected_providers port)

-- service/mod.rs: EVT

abbrev pub no_reason : DisconnectFlags
no_reason = record { reason = None }

abbrev pub detached_reason : DisconnectFlags
detached_reason = record { reason = Some DisconnectReason.Detached }

-- EVT-11 to EVT-16: what each kind of event does
unfoldable pub process_psu_event : Registration → ℕ → EventData → Action (Unit {0})
process_psu_event g device EventData.Attached = skip
process_psu_event g device EventData.UpdatedConsumerCapability = update_current_consumer g no_reason
process_psu_event g device EventData.RequestedProviderCapability = connect_provider g device
process_psu_event g device (EventData.Disconnected flags) = do
  post_provider_removed g device
  update_current_consumer g flags
process_psu_event g device EventData.Detached = do
  post_provider_removed g device
  update_current_consumer g detached_reason

-- `Ok(())`
abbrev pub close : Unit {0} → Held → Records → Interaction
close u h r = done (Ok tt) h

-- EVT-3: an event opened with this state and these records; no notice yet
abbrev pub event : Registration → ℕ → EventData → InternalState → Records → Interaction
event g device e s r = process_psu_event g device e (record { state = s; notices = [] }) r close
