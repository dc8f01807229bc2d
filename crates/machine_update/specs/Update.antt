-- The update of the consumer, from one order to the next. That it follows
-- the update as transcribed from the Rust is shown in `machine_follows`.
use Rattle.std.specs.Prelude.{ℕ, ◌-◌, Bool, cond, ltb, Err, None, Ok, Option, Result, Some}
use Rattle.power_policy_interface.specs.Psu.{can_connect_consumer_of}
use Rattle.power_policy_interface.specs.Service.{same_unconstrained}
use Rattle.power_policy_interface.specs.declared.capability.DisconnectFlags.{DisconnectFlags}
use Rattle.power_policy_interface.specs.declared.psu.Error.{Error}
use Rattle.power_policy_interface.specs.declared.service.UnconstrainedState.{UnconstrainedState}
use Rattle.interface_display.specs.declared.AvailableConsumer.{AvailableConsumer}
use Rattle.abstract_policy.specs.State.{with_consumer, with_unconstrained, psu_of, charger_unpowered}
use Rattle.abstract_policy.specs.Interaction.{unconstrained_of, reason_of, is_connected_consumer, same_available, find_best_consumer}
use Rattle.abstract_policy.specs.declared.state.InternalState.{InternalState}
use Rattle.abstract_policy.specs.declared.state.Records.{Records}
use Rattle.abstract_policy.specs.declared.state.Registration.{Registration}
use Rattle.machine_state.specs.Memory.{tell_disconnected, tell_connected, tell_unconstrained, next_powered}
use Rattle.machine_state.specs.declared.memory.Memory.{Memory}
use Rattle.machine_state.specs.declared.memory.Notices.{Notices}
use Rattle.machine_state.specs.declared.phase.Leaver.{Leaver}
use Rattle.machine_state.specs.declared.phase.Phase.{Phase}
use Rattle.machine_state.specs.declared.phase.Stage.{Stage}
use Rattle.machine_state.specs.declared.phase.Turn.{Turn}

abbrev pub at : Phase → Memory → Turn
at p m = record { phase = p; memory = m }

abbrev pub remember : InternalState → Notices → Memory
remember s n = record { state = s; notices = n }

abbrev pub closed : Result (Unit {0}) Error → Memory → Turn
closed a m = at (Phase.Closed a) m

abbrev pub connecting_phase : Stage → AvailableConsumer → Phase
connecting_phase s new = Phase.Connecting s new

abbrev pub switching : Leaver → ℕ → DisconnectFlags → AvailableConsumer → Phase
switching l old f new = Phase.Switching l old f new

-- the last step of an update: both unconstrained figures

abbrev pub updated_to : UnconstrainedState → Memory → Memory
updated_to u m =
    cond (same_unconstrained u m.state.unconstrained) m
    (remember (with_unconstrained u m.state) (tell_unconstrained u m.notices))

abbrev pub finish_update_of : Registration → Memory → Records → Turn
finish_update_of g m r = closed (Ok tt) (updated_to (unconstrained_of g m.state r) m)

-- connecting a new consumer

abbrev pub connect_if : Result (Unit {0}) Error → Memory → AvailableConsumer → Turn
connect_if (Ok tt) m new = at (Phase.Connecting Stage.Psu new) m
connect_if (Err e) m new = closed (Err e) m

abbrev pub connect_psu_of : Memory → AvailableConsumer → Records → Turn
connect_psu_of m new r = connect_if (can_connect_consumer_of (psu_of r new.psu)) m new

abbrev pub told_switch : Memory → ℕ → DisconnectFlags → AvailableConsumer → Memory
told_switch m old f new = remember m.state (tell_disconnected old (reason_of old new f) m.notices)

-- detach the powered chargers from i on, then connect the new one
abbrev pub switch_of : Registration → Memory → ℕ → ℕ → DisconnectFlags → AvailableConsumer → Records → Turn
switch_of g m i old f new r =
    let j : ℕ = next_powered r (g.chargers - i) i in
    cond (ltb j g.chargers) (at (Phase.Switching (Leaver.Charger j) old f new) m) (connect_psu_of (told_switch m old f new) new r)

abbrev pub cleared : Memory → Memory
cleared m = remember (with_consumer None m.state) m.notices

abbrev pub disconnect_of : Registration → Memory → ℕ → DisconnectFlags → AvailableConsumer → Records → Turn
disconnect_of g m old f new r =
    cond (is_connected_consumer (psu_of r old).psu_state) (at (Phase.Switching Leaver.Psu old f new) (cleared m))
    (switch_of g (cleared m) 0 old f new r)

abbrev pub connect_from : Option AvailableConsumer → Registration → Memory → AvailableConsumer → DisconnectFlags → Records → Turn
connect_from None g m new f r = connect_psu_of m new r
connect_from (Some c) g m new f r =
    cond (same_available c new) (finish_update_of g m r) (disconnect_of g m c.psu f new r)

abbrev pub connect_new_of : Registration → Memory → AvailableConsumer → DisconnectFlags → Records → Turn
connect_new_of g m new f r = connect_from m.state.current_consumer_state g m new f r

-- no consumer is left

abbrev pub left_of : Memory → ℕ → DisconnectFlags → Memory
left_of m p f = remember (with_consumer None m.state) (tell_disconnected p f m.notices)

-- detach the powered chargers from i on, then none is left
abbrev pub leave_of : Registration → Memory → ℕ → ℕ → DisconnectFlags → Records → Turn
leave_of g m i p f r =
    let j : ℕ = next_powered r (g.chargers - i) i in
    cond (ltb j g.chargers) (at (Phase.Leaving j p f) m) (finish_update_of g (left_of m p f) r)

-- the consumer is connected: each charger from i on
abbrev pub charge_stage : Bool → ℕ → Stage
charge_stage unpowered i = cond unpowered (Stage.Readying i) (Stage.Attaching i)

abbrev pub told_connected : Memory → AvailableConsumer → Memory
told_connected m new = remember m.state (tell_connected new m.notices)

abbrev pub charge_of : Registration → Memory → ℕ → AvailableConsumer → Records → Turn
charge_of g m i new r =
    cond (ltb i g.chargers) (at (Phase.Connecting (charge_stage (charger_unpowered r i) i) new) m)
    (finish_update_of g (told_connected m new) r)

-- the update

abbrev pub update_none : Option AvailableConsumer → Registration → Memory → DisconnectFlags → Records → Turn
update_none None g m f r = finish_update_of g m r
update_none (Some c) g m f r = leave_of g m 0 c.psu f r

abbrev pub update_to : Option AvailableConsumer → Registration → Memory → DisconnectFlags → Records → Turn
update_to None g m f r = update_none m.state.current_consumer_state g m f r
update_to (Some new) g m f r = connect_new_of g m new f r

abbrev pub update_of : Registration → Memory → DisconnectFlags → Records → Turn
update_of g m f r = update_to (find_best_consumer g m.state r) g m f r
