-- What an event does and what an answer leads to, from one order to the next. That it follows the event as
-- transcribed from the Rust is shown in `machine_follows`.
use Rattle.std.specs.Prelude.{ℕ, suc, min, cond, ltb, Err, None, Ok, Option, Result, Some}
use Rattle.power_policy_interface.specs.Limits.{max_ports}
use Rattle.power_policy_interface.specs.Psu.{can_connect_provider_of}
use Rattle.power_policy_interface.specs.declared.capability.DisconnectFlags.{DisconnectFlags}
use Rattle.power_policy_interface.specs.declared.psu.Error.{Error}
use Rattle.power_policy_interface.specs.declared.capability.ProviderPowerCapability.{ProviderPowerCapability}
use Rattle.power_policy_interface.specs.declared.psu.event.EventData.{EventData}
use Rattle.interface_display.specs.Providers.{insert_of, remove_of, Removed}
use Rattle.interface_display.specs.declared.AvailableConsumer.{AvailableConsumer}
use Rattle.power_policy_service.specs.Provider.{total_of, total_with, power_state_of, grant_of}
use Rattle.abstract_policy.specs.State.{with_consumer, with_providers, with_power_state, psu_of}
use Rattle.abstract_policy.specs.Interaction.{no_reason, detached_reason}
use Rattle.abstract_policy.specs.declared.state.Records.{Records}
use Rattle.abstract_policy.specs.declared.state.Registration.{Registration}
use Rattle.abstract_policy.specs.declared.order.Order.{Order}
use Rattle.machine_state.specs.Memory.{tell_provider}
use Rattle.machine_state.specs.Phase.{outcome_of}
use Rattle.machine_state.specs.declared.memory.Memory.{Memory}
use Rattle.machine_state.specs.declared.memory.ProviderNotice.{ProviderNotice}
use Rattle.machine_state.specs.declared.phase.Leaver.{Leaver}
use Rattle.machine_state.specs.declared.phase.Phase.{Phase}
use Rattle.machine_state.specs.declared.phase.Stage.{Stage}
use Rattle.machine_state.specs.declared.phase.Turn.{Turn}
use Rattle.machine_update.specs.Update.{at, remember, closed, switch_of, leave_of, charge_of, update_of}

-- providers

abbrev pub provide_if : Result (Unit {0}) Error → Memory → ℕ → ProviderPowerCapability → Turn
provide_if (Ok tt) m p c = at (Phase.Providing p c) m
provide_if (Err e) m p c = closed (Err e) m

abbrev pub request_of : Registration → Memory → ℕ → ProviderPowerCapability → Records → Turn
request_of g m p q r =
    let s = power_state_of g.config (total_with p q r.psus (min max_ports g.ports)) in
    provide_if (can_connect_provider_of (psu_of r p)) (remember (with_power_state s m.state) m.notices) p (grant_of g.config s q)

abbrev pub provide_for : Option ProviderPowerCapability → Registration → Memory → ℕ → Records → Turn
provide_for None g m p r = closed (Ok tt) m
provide_for (Some q) g m p r = request_of g m p q r

abbrev pub connect_provider_of : Registration → Memory → ℕ → Records → Turn
connect_provider_of g m p r = provide_for (psu_of r p).requested_provider_capability g m p r

-- tracked if there or fewer than four are; the notice comes anyway
abbrev pub post_provider_of : Memory → ℕ → ProviderPowerCapability → Memory
post_provider_of m p c =
    remember (with_providers (insert_of m.state.connected_providers p).providers m.state)
    (tell_provider (ProviderNotice.Connected p c) m.notices)

abbrev pub after_removal : Removed → Registration → Memory → ℕ → Records → Memory
after_removal d g m p r =
    cond d.found
    (remember
    (with_power_state (power_state_of g.config (total_of r.psus (min max_ports g.ports))) (with_providers d.providers m.state))
    (tell_provider (ProviderNotice.Disconnected p) m.notices))
    m

abbrev pub remove_provider_of : Registration → Memory → ℕ → Records → Memory
remove_provider_of g m p r = after_removal (remove_of m.state.connected_providers p) g m p r

-- the event

abbrev pub depart_of : Registration → Memory → ℕ → DisconnectFlags → Records → Turn
depart_of g m p f r = update_of g (remove_provider_of g m p r) f r

abbrev pub process_of : Registration → Memory → ℕ → EventData → Records → Turn
process_of g m p EventData.Attached r = closed (Ok tt) m
process_of g m p EventData.UpdatedConsumerCapability r = update_of g m no_reason r
process_of g m p EventData.RequestedProviderCapability r = connect_provider_of g m p r
process_of g m p (EventData.Disconnected f) r = depart_of g m p f r
process_of g m p EventData.Detached r = depart_of g m p detached_reason r

-- the answer to an order

abbrev pub following : ℕ → ℕ
following i = cond (ltb i 255) (suc i) i

abbrev pub next_from : Leaver → ℕ
next_from Leaver.Psu = 0
next_from (Leaver.Charger i) = following i

-- the new consumer's PSU is connected: it is the consumer, and the supply settles
abbrev pub settle_of : Memory → AvailableConsumer → Turn
settle_of m new =
    at (Phase.Connecting Stage.Settling new) (remember (with_consumer (Some new) m.state) m.notices)

abbrev pub after_stage : Registration → Memory → Stage → AvailableConsumer → Records → Turn
after_stage g m Stage.Psu new r = settle_of m new
after_stage g m Stage.Settling new r = charge_of g m 0 new r
after_stage g m (Stage.Readying i) new r = at (Phase.Connecting (Stage.Initializing i) new) m
after_stage g m (Stage.Initializing i) new r = at (Phase.Connecting (Stage.Attaching i) new) m
after_stage g m (Stage.Attaching i) new r = charge_of g m (following i) new r

abbrev pub after_order : Registration → Phase → Memory → Records → Turn
after_order g (Phase.Closed a) m r = closed a m
after_order g (Phase.Leaving i p f) m r = leave_of g m (following i) p f r
after_order g (Phase.Switching l old f new) m r = switch_of g m (next_from l) old f new r
after_order g (Phase.Connecting s new) m r = after_stage g m s new r
after_order g (Phase.Providing p c) m r = closed (Ok tt) (post_provider_of m p c)

-- an error ends the event where it arises
abbrev pub answered_to : Result (Unit {0}) Error → Registration → Phase → Memory → Records → Turn
answered_to (Ok tt) g p m r = after_order g p m r
answered_to (Err e) g p m r = closed (Err e) m

abbrev pub answered_of : Registration → Phase → Order → Memory → Result (Unit {0}) Error → Records → Turn
answered_of g p o m a r = answered_to (outcome_of o a) g p m r
