-- The notices of an event so far, and which charger is next.
use Rattle.std.specs.Prelude.{ℕ, zero, suc, cond, ltb, None, Option, Some}
use Rattle.power_policy_interface.specs.declared.capability.DisconnectFlags.{DisconnectFlags}
use Rattle.power_policy_interface.specs.declared.service.UnconstrainedState.{UnconstrainedState}
use Rattle.interface_display.specs.declared.AvailableConsumer.{AvailableConsumer}
use Rattle.abstract_policy.specs.State.{charger_unpowered}
use Rattle.abstract_policy.specs.declared.state.Records.{Records}
use Rattle.machine_state.specs.declared.memory.Disconnected.{Disconnected}
use Rattle.machine_state.specs.declared.memory.Notices.{Notices}
use Rattle.machine_state.specs.declared.memory.ProviderNotice.{ProviderNotice}

-- the notices

abbrev pub notices_with : Option ProviderNotice → Option Disconnected → Option AvailableConsumer → Option UnconstrainedState → Notices
notices_with p d c u = record { provider = p; disconnected = d; connected = c; unconstrained = u }

abbrev pub no_notices : Notices
no_notices = notices_with None None None None

abbrev pub tell_provider : ProviderNotice → Notices → Notices
tell_provider p n = notices_with (Some p) n.disconnected n.connected n.unconstrained

abbrev pub tell_disconnected : ℕ → DisconnectFlags → Notices → Notices
tell_disconnected p f n = notices_with n.provider (Some (record { port = p; flags = f })) n.connected n.unconstrained

abbrev pub tell_connected : AvailableConsumer → Notices → Notices
tell_connected c n = notices_with n.provider n.disconnected (Some c) n.unconstrained

abbrev pub tell_unconstrained : UnconstrainedState → Notices → Notices
tell_unconstrained u n = notices_with n.provider n.disconnected n.connected (Some u)

-- the first powered charger among the n from i on, else the one after them
abbrev pub next_powered : Records → ℕ → ℕ → ℕ
next_powered r zero i = i
next_powered r (suc n) i = cond (charger_unpowered r i) (next_powered r n (suc i)) i

-- a place below the count; none for one past it
abbrev pub if_below : ℕ → ℕ → Option ℕ
if_below count i = cond (ltb i count) (Some i) None
