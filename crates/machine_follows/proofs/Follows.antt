-- The machine follows the event: opened, it stands for the event, and after each answer for the rest of it. The cases are those of
-- the phases; what each step stands for is in Steps.antt.
use Rattle.std.specs.Prelude.{Err, None, Ok, Option, Result, Some}
use mathlib.Core.Path.{◌≡◌, refl, ◌∙◌}
use mathlib.Core.Bool.{Bool, true, false, cond}
use mathlib.Core.List.{[]}
use Prim.Native.Nat.{ℕ, suc, ◌-◌, ◌<◌, ◌≤◌, min}
use native.Mathlib.Omega.{arith}
use borrow.Author.Tests.{lt-ltb}
use Rattle.power_policy_interface.specs.Psu.{can_connect_provider_of}
use Rattle.power_policy_interface.specs.declared.capability.DisconnectFlags.{DisconnectFlags}
use Rattle.power_policy_interface.specs.declared.psu.Error.{Error}
use Rattle.power_policy_interface.specs.declared.capability.ProviderPowerCapability.{ProviderPowerCapability}
use Rattle.power_policy_interface.specs.declared.psu.event.EventData.{EventData}
use Rattle.power_policy_interface.specs.declared.service.event.Event.{Event}
use Rattle.interface_display.specs.Providers.{remove_of, Removed}
use Rattle.interface_display.specs.declared.AvailableConsumer.{AvailableConsumer}
use Rattle.power_policy_service.specs.Provider.{total_of, total_with, power_state_of, grant_of}
use Rattle.power_policy_service.specs.declared.provider.PowerState.{PowerState}
use Rattle.abstract_policy.specs.State.{psu_of, with_power_state, with_providers}
use Rattle.abstract_policy.specs.Action.{Held, Interaction, ◌>>=◌, ◌>>◌, records, set, notify, ok, psu, when}
use Rattle.abstract_policy.specs.Interaction.{post_consumer_connected, update_current_consumer, post_provider_connected, provide, connect_provider, remove_provider, post_provider_removed, process_psu_event, close, event}
use Rattle.abstract_policy.specs.declared.state.InternalState.{InternalState}
use Rattle.abstract_policy.specs.declared.state.Records.{Records}
use Rattle.abstract_policy.specs.declared.state.Registration.{Registration}
use Rattle.abstract_policy.specs.declared.order.Order.{Order}
use Rattle.machine_state.specs.Memory.{tell_provider, no_notices}
use Rattle.machine_state.specs.Phase.{switch_order, connect_order}
use Rattle.machine_state.specs.declared.memory.Memory.{Memory}
use Rattle.machine_state.specs.declared.memory.ProviderNotice.{ProviderNotice}
use Rattle.machine_state.specs.declared.phase.Leaver.{Leaver}
use Rattle.machine_state.specs.declared.phase.Phase.{Phase}
use Rattle.machine_state.specs.declared.phase.Stage.{Stage}
use Rattle.machine_update.specs.Update.{remember}
use Rattle.machine_process.specs.Process.{provide_if, provide_for, after_removal, remove_provider_of, depart_of, process_of, following, answered_of}
use Rattle.machine_follows.specs.Machine.{held_of, rest, stands_for, NotConnected, NotUpdated, StageFits, LeaverFits}
use Rattle.machine_follows.proofs.Steps.{update_follows, switch_from, leave_from, charge_from}

pub nothing_told_lem : NotUpdated no_notices
nothing_told_lem = record { disconnected = refl; later = record { connected = refl; unconstrained = refl } }

-- providers

pub request_follows : (g : Registration) (m : Memory) (p : ℕ) (r : Records) (q : Option ProviderPowerCapability) →
    stands_for g (provide_for q g m p r) ≡ provide g p q (held_of m) r close
unfolding provide
request_follows g m p r None = refl
request_follows g m p r (Some q) = go (can_connect_provider_of (psu_of r p))
  where
    s : PowerState
    s = power_state_of g.config (total_with p q r.psus (min 16 g.ports))

    set_to : Memory
    set_to = remember (with_power_state s m.state) m.notices

    go : (a : Result (Unit {0}) Error) → stands_for g (provide_if a set_to p (grant_of g.config s q))
        ≡ (ok a >> (psu (Order.ConnectProvider p (grant_of g.config s q)) >> post_provider_connected p (grant_of g.config s q))) (held_of set_to) r close
    go (Ok tt) = refl
    go (Err e) = refl

-- an untracked port changes nothing
pub removed_follows : (g : Registration) (s : InternalState) (p : ℕ) (r : Records) (d : Removed) (k : Unit {0} → Held → Records → Interaction) →
    k tt (held_of (after_removal d g (remember s no_notices) p r)) r ≡ remove_provider g p d (record { state = s; notices = [] }) r k
unfolding remove_provider
removed_follows g s p r d k = go d.found
  where
    go : (b : Bool) →
        k tt
        (held_of
        (cond b
        (remember
        (with_power_state (power_state_of g.config (total_of r.psus (min 16 g.ports))) (with_providers d.providers s))
        (tell_provider (ProviderNotice.Disconnected p) no_notices))
        (remember s no_notices)))
        r
        ≡ when b
        (records
        >>= (λ r'. set (with_providers d.providers)
        >> (set (with_power_state (power_state_of g.config (total_of r'.psus (min 16 g.ports)))) >> notify (Event.ProviderDisconnected p))))
        (record { state = s; notices = [] })
        r
        k
    go true = refl
    go false = refl

pub removed_tells : (g : Registration) (s : InternalState) (p : ℕ) (r : Records) (d : Removed) → NotUpdated (after_removal d g (remember s no_notices) p r).notices
removed_tells g s p r d = go d.found
  where
    go : (b : Bool) → NotUpdated (cond b
        (remember
        (with_power_state (power_state_of g.config (total_of r.psus (min 16 g.ports))) (with_providers d.providers s))
        (tell_provider (ProviderNotice.Disconnected p) no_notices))
        (remember s no_notices)).notices
    go true = record { disconnected = refl; later = record { connected = refl; unconstrained = refl } }
    go false = nothing_told_lem

depart_follows : (g : Registration) (s : InternalState) (p : ℕ) (f : DisconnectFlags) (r : Records) →
    stands_for g (depart_of g (remember s no_notices) p f r)
    ≡ (post_provider_removed g p >> update_current_consumer g f) (record { state = s; notices = [] }) r close
unfolding post_provider_removed
depart_follows g s p f r =
    update_follows g (remove_provider_of g (remember s no_notices) p r) f r (removed_tells g s p r (remove_of s.connected_providers p))
    ∙ removed_follows g s p r (remove_of s.connected_providers p) (λ u h r'. update_current_consumer g f h r' close)

-- opened, the machine stands for the event
pub opened : (g : Registration) (s : InternalState) (p : ℕ) (e : EventData) (r : Records) →
    stands_for g (process_of g (remember s no_notices) p e r) ≡ event g p e s r
unfolding process_psu_event connect_provider
opened g s p EventData.Attached r = refl
opened g s p EventData.UpdatedConsumerCapability r = update_follows g (remember s no_notices) _ r nothing_told_lem
opened g s p EventData.RequestedProviderCapability r =
    request_follows g (remember s no_notices) p r (psu_of r p).requested_provider_capability
opened g s p (EventData.Disconnected f) r = depart_follows g s p f r
opened g s p EventData.Detached r = depart_follows g s p _ r

-- answered, it stands for the rest

abbrev AnswersAt : Registration → Phase → Order → Memory → Type 0
AnswersAt g p o m = (a : Result (Unit {0}) Error) (r : Records) → stands_for g (answered_of g p o m a r) ≡ rest g p a (held_of m) r close

follow : (i chargers : ℕ) → i < chargers → chargers ≤ 8 → following i ≡ suc i
follow i chargers h le = rw (lt-ltb i 255 (omega arith))

pub leaving_answered : (g : Registration) (i p : ℕ) (f : DisconnectFlags) (m : Memory) → g.chargers ≤ 8 → (i < g.chargers) × NotUpdated m.notices →
    AnswersAt g (Phase.Leaving i p f) (Order.Detach i) m
leaving_answered g i p f m le h (Ok tt) r =
    rw (follow i g.chargers h.0 le) (leave_from g m (g.chargers - suc i) (suc i) p f r (omega arith) h.1)
leaving_answered g i p f m le h (Err e) r = refl

pub switching_answered : (g : Registration) (l : Leaver) (old : ℕ) (f : DisconnectFlags) (new : AvailableConsumer) (m : Memory) → g.chargers ≤ 8 →
    LeaverFits g.chargers l × NotUpdated m.notices → AnswersAt g (Phase.Switching l old f new) (switch_order l old) m
switching_answered g Leaver.Psu old f new m le h (Ok tt) r = switch_from g m g.chargers 0 old f new r (omega arith) h.1
switching_answered g Leaver.Psu old f new m le h (Err e) r = refl
switching_answered g (Leaver.Charger i) old f new m le h (Ok tt) r =
    rw (follow i g.chargers h.0 le) (switch_from g m (g.chargers - suc i) (suc i) old f new r (omega arith) h.1)
switching_answered g (Leaver.Charger i) old f new m le h (Err e) r = refl

pub connecting_answered : (g : Registration) (s : Stage) (new : AvailableConsumer) (m : Memory) → g.chargers ≤ 8 →
    StageFits g.chargers s × NotConnected m.notices → AnswersAt g (Phase.Connecting s new) (connect_order s new) m
unfolding post_consumer_connected
connecting_answered g Stage.Psu new m le h (Ok tt) r = refl
connecting_answered g Stage.Psu new m le h (Err e) r = refl
connecting_answered g Stage.Settling new m le h (Ok tt) r = charge_from g m g.chargers 0 new r (omega arith) h.1
connecting_answered g Stage.Settling new m le h (Err e) r = charge_from g m g.chargers 0 new r (omega arith) h.1
connecting_answered g (Stage.Readying i) new m le h (Ok tt) r = refl
connecting_answered g (Stage.Readying i) new m le h (Err e) r = refl
connecting_answered g (Stage.Initializing i) new m le h (Ok tt) r = refl
connecting_answered g (Stage.Initializing i) new m le h (Err e) r = refl
connecting_answered g (Stage.Attaching i) new m le h (Ok tt) r =
    rw (follow i g.chargers h.0 le) (charge_from g m (g.chargers - suc i) (suc i) new r (omega arith) h.1)
connecting_answered g (Stage.Attaching i) new m le h (Err e) r = refl

pub providing_answered : (g : Registration) (p : ℕ) (c : ProviderPowerCapability) (m : Memory) → m.notices ≡ no_notices →
    AnswersAt g (Phase.Providing p c) (Order.ConnectProvider p c) m
unfolding post_provider_connected
providing_answered g p c m h (Ok tt) r = rw h
providing_answered g p c m h (Err e) r = refl
