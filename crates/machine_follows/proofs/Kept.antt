-- What an open event has not told yet stays untold until its step, and its charger is a registered one: the next charger is below the
-- count wherever one is asked.
use Rattle.std.specs.Prelude.{Err, None, Ok, Option, Result, Some}
use mathlib.Core.Path.{◌≡◌, refl}
use mathlib.Core.Bool.{Bool, true, false, cond}
use Prim.Native.Nat.{ℕ, ◌-◌, ◌<◌}
use lib.Dec.{ltb}
use borrow.Author.Tests.{ltb-true}
use Rattle.power_policy_interface.specs.Psu.{can_connect_consumer_of, can_connect_provider_of}
use Rattle.power_policy_interface.specs.declared.capability.DisconnectFlags.{DisconnectFlags}
use Rattle.power_policy_interface.specs.declared.psu.Error.{Error}
use Rattle.power_policy_interface.specs.declared.capability.ProviderPowerCapability.{ProviderPowerCapability}
use Rattle.power_policy_interface.specs.declared.psu.event.EventData.{EventData}
use Rattle.interface_display.specs.Providers.{remove_of}
use Rattle.interface_display.specs.declared.AvailableConsumer.{AvailableConsumer}
use Rattle.abstract_policy.specs.State.{psu_of, charger_unpowered}
use Rattle.abstract_policy.specs.Interaction.{is_connected_consumer, same_available, find_best_consumer}
use Rattle.abstract_policy.specs.declared.state.InternalState.{InternalState}
use Rattle.abstract_policy.specs.declared.state.Records.{Records}
use Rattle.abstract_policy.specs.declared.state.Registration.{Registration}
use Rattle.machine_state.specs.Memory.{no_notices, next_powered}
use Rattle.machine_state.specs.declared.memory.Memory.{Memory}
use Rattle.machine_state.specs.declared.phase.Leaver.{Leaver}
use Rattle.machine_state.specs.declared.phase.Phase.{Phase}
use Rattle.machine_state.specs.declared.phase.Stage.{Stage}
use Rattle.machine_state.specs.declared.phase.Turn.{Turn}
use Rattle.machine_update.specs.Update.{at, remember, finish_update_of, connect_if, connect_psu_of, told_switch, switch_of, cleared, disconnect_of, connect_from, left_of, leave_of, charge_stage, told_connected, charge_of, update_none, update_to, update_of}
use Rattle.machine_process.specs.Process.{provide_if, provide_for, remove_provider_of, process_of, following, next_from, after_stage, after_order, answered_to}
use Rattle.machine_follows.specs.Machine.{NotConnected, NotUpdated, Fits, StageFits}
use Rattle.machine_follows.proofs.Follows.{nothing_told_lem, removed_tells}

abbrev pub FitsTurn : Registration → Turn → Type 0
FitsTurn g t = Fits g.chargers t.phase t.memory.notices

connect_fits : (g : Registration) (m : Memory) (new : AvailableConsumer) (a : Result (Unit {0}) Error) → NotConnected m.notices → FitsTurn g (connect_if a m new)
connect_fits g m new (Ok tt) h = (tt, h)
connect_fits g m new (Err e) h = tt

switch_fits : (g : Registration) (m : Memory) (i old : ℕ) (f : DisconnectFlags) (new : AvailableConsumer) (r : Records) → NotUpdated m.notices → FitsTurn g (switch_of g m i old f new r)
switch_fits g m i old f new r h = go (ltb j g.chargers) refl
  where
    j : ℕ
    j = next_powered r (g.chargers - i) i

    go : (b : Bool) → ltb j g.chargers ≡ b → FitsTurn g (cond b (at (Phase.Switching (Leaver.Charger j) old f new) m) (connect_psu_of (told_switch m old f new) new r))
    go true e = (ltb-true j g.chargers e, h)
    go false e =
        connect_fits g (told_switch m old f new) new (can_connect_consumer_of (psu_of r new.psu))
        (record { connected = h.later.connected; unconstrained = h.later.unconstrained })

leave_fits : (g : Registration) (m : Memory) (i p : ℕ) (f : DisconnectFlags) (r : Records) → NotUpdated m.notices → FitsTurn g (leave_of g m i p f r)
leave_fits g m i p f r h = go (ltb j g.chargers) refl
  where
    j : ℕ
    j = next_powered r (g.chargers - i) i

    go : (b : Bool) → ltb j g.chargers ≡ b → FitsTurn g (cond b (at (Phase.Leaving j p f) m) (finish_update_of g (left_of m p f) r))
    go true e = (ltb-true j g.chargers e, h)
    go false e = tt

stage_fits_lem : (chargers i : ℕ) (b : Bool) → i < chargers → StageFits chargers (charge_stage b i)
stage_fits_lem chargers i true h = h
stage_fits_lem chargers i false h = h

charge_fits : (g : Registration) (m : Memory) (i : ℕ) (new : AvailableConsumer) (r : Records) → NotConnected m.notices → FitsTurn g (charge_of g m i new r)
charge_fits g m i new r h = go (ltb i g.chargers) refl
  where
    go : (b : Bool) → ltb i g.chargers ≡ b → FitsTurn g (cond b (at (Phase.Connecting (charge_stage (charger_unpowered r i) i) new) m) (finish_update_of g (told_connected m new) r))
    go true e = (stage_fits_lem g.chargers i (charger_unpowered r i) (ltb-true i g.chargers e), h)
    go false e = tt

disconnect_fits : (g : Registration) (m : Memory) (old : ℕ) (f : DisconnectFlags) (new : AvailableConsumer) (r : Records) (b : Bool) → NotUpdated m.notices →
    FitsTurn g (cond b (at (Phase.Switching Leaver.Psu old f new) (cleared m)) (switch_of g (cleared m) 0 old f new r))
disconnect_fits g m old f new r true h = (tt, h)
disconnect_fits g m old f new r false h = switch_fits g (cleared m) 0 old f new r h

same_fits : (g : Registration) (m : Memory) (old : ℕ) (f : DisconnectFlags) (new : AvailableConsumer) (r : Records) (b : Bool) → NotUpdated m.notices →
    FitsTurn g (cond b (finish_update_of g m r) (disconnect_of g m old f new r))
same_fits g m old f new r true h = tt
same_fits g m old f new r false h = disconnect_fits g m old f new r (is_connected_consumer (psu_of r old).psu_state) h

from_fits : (g : Registration) (m : Memory) (current : Option AvailableConsumer) (new : AvailableConsumer) (f : DisconnectFlags) (r : Records) → NotUpdated m.notices → FitsTurn g (connect_from current g m new f r)
from_fits g m None new f r h = connect_fits g m new (can_connect_consumer_of (psu_of r new.psu)) h.later
from_fits g m (Some c) new f r h = same_fits g m c.psu f new r (same_available c new) h

none_fits : (g : Registration) (m : Memory) (current : Option AvailableConsumer) (f : DisconnectFlags) (r : Records) → NotUpdated m.notices → FitsTurn g (update_none current g m f r)
none_fits g m None f r h = tt
none_fits g m (Some c) f r h = leave_fits g m 0 c.psu f r h

to_fits : (g : Registration) (m : Memory) (best : Option AvailableConsumer) (f : DisconnectFlags) (r : Records) → NotUpdated m.notices → FitsTurn g (update_to best g m f r)
to_fits g m None f r h = none_fits g m m.state.current_consumer_state f r h
to_fits g m (Some new) f r h = from_fits g m m.state.current_consumer_state new f r h

update_fits : (g : Registration) (m : Memory) (f : DisconnectFlags) (r : Records) → NotUpdated m.notices → FitsTurn g (update_of g m f r)
update_fits g m f r h = to_fits g m (find_best_consumer g m.state r) f r h

if_fits : (g : Registration) (m : Memory) (a : Result (Unit {0}) Error) (p : ℕ) (c : ProviderPowerCapability) → m.notices ≡ no_notices → FitsTurn g (provide_if a m p c)
if_fits g m (Ok tt) p c h = h
if_fits g m (Err e) p c h = tt

provide_fits : (g : Registration) (s : InternalState) (p : ℕ) (r : Records) (q : Option ProviderPowerCapability) → FitsTurn g (provide_for q g (remember s no_notices) p r)
provide_fits g s p r None = tt
provide_fits g s p r (Some q) = if_fits g _ (can_connect_provider_of (psu_of r p)) p _ refl

pub opened_fits : (g : Registration) (s : InternalState) (p : ℕ) (e : EventData) (r : Records) → FitsTurn g (process_of g (remember s no_notices) p e r)
opened_fits g s p EventData.Attached r = tt
opened_fits g s p EventData.UpdatedConsumerCapability r = update_fits g (remember s no_notices) _ r nothing_told_lem
opened_fits g s p EventData.RequestedProviderCapability r = provide_fits g s p r (psu_of r p).requested_provider_capability
opened_fits g s p (EventData.Disconnected f) r =
    update_fits g (remove_provider_of g (remember s no_notices) p r) f r (removed_tells g s p r (remove_of s.connected_providers p))
opened_fits g s p EventData.Detached r =
    update_fits g (remove_provider_of g (remember s no_notices) p r) _ r (removed_tells g s p r (remove_of s.connected_providers p))

after_stage_fits : (g : Registration) (m : Memory) (s : Stage) (new : AvailableConsumer) (r : Records) → StageFits g.chargers s → NotConnected m.notices → FitsTurn g (after_stage g m s new r)
after_stage_fits g m Stage.Psu new r i h = (tt, h)
after_stage_fits g m Stage.Settling new r i h = charge_fits g m 0 new r h
after_stage_fits g m (Stage.Readying j) new r i h = (i, h)
after_stage_fits g m (Stage.Initializing j) new r i h = (i, h)
after_stage_fits g m (Stage.Attaching j) new r i h = charge_fits g m (following j) new r h

after_fits : (g : Registration) (p : Phase) (m : Memory) (r : Records) → Fits g.chargers p m.notices → FitsTurn g (after_order g p m r)
after_fits g (Phase.Closed a) m r h = tt
after_fits g (Phase.Leaving i p f) m r h = leave_fits g m (following i) p f r h.1
after_fits g (Phase.Switching l old f new) m r h = switch_fits g m (next_from l) old f new r h.1
after_fits g (Phase.Connecting s new) m r h = after_stage_fits g m s new r h.0 h.1
after_fits g (Phase.Providing p c) m r h = tt

pub answered_fits : (g : Registration) (p : Phase) (m : Memory) (a : Result (Unit {0}) Error) (r : Records) → Fits g.chargers p m.notices → FitsTurn g (answered_to a g p m r)
answered_fits g p m (Ok tt) r h = after_fits g p m r h
answered_fits g p m (Err e) r h = tt
