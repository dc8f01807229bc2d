-- What an event reads, the records, and what it changes, the state of the service.
use Rattle.std.specs.Prelude.{ℕ, Bool, true, false, cond, ltb, None, Option}
use Rattle.power_policy_interface.specs.Limits.{max_ports, max_chargers}
use Rattle.power_policy_interface.specs.Charger.{is_unpowered}
use Rattle.power_policy_interface.specs.declared.psu.State.{State}
use Rattle.power_policy_interface.specs.declared.service.UnconstrainedState.{UnconstrainedState}
use Rattle.interface_display.specs.Providers.{none}
use Rattle.interface_display.specs.declared.Display.{Display}
use Rattle.interface_display.specs.declared.AvailableConsumer.{AvailableConsumer}
use Rattle.interface_display.specs.declared.providers.Providers.{Providers}
use Rattle.power_policy_service.specs.Rows.{no_psu, psu_at, charger_at}
use Rattle.power_policy_service.specs.declared.provider.PowerState.{PowerState}
use Rattle.abstract_policy.specs.declared.state.InternalState.{InternalState}
use Rattle.abstract_policy.specs.declared.state.Records.{Records}

abbrev pub state_with : Option AvailableConsumer → PowerState → UnconstrainedState → Providers → InternalState
state_with c s u p =
    record { current_consumer_state = c; current_provider_state = s; unconstrained = u; connected_providers = p }

abbrev pub fresh_state : InternalState
fresh_state = state_with None PowerState.Unlimited (record { unconstrained = false; available = 0 }) none

abbrev pub with_consumer : Option AvailableConsumer → InternalState → InternalState
with_consumer c s = state_with c s.current_provider_state s.unconstrained s.connected_providers

abbrev pub with_power_state : PowerState → InternalState → InternalState
with_power_state w s = state_with s.current_consumer_state w s.unconstrained s.connected_providers

abbrev pub with_unconstrained : UnconstrainedState → InternalState → InternalState
with_unconstrained u s = state_with s.current_consumer_state s.current_provider_state u s.connected_providers

abbrev pub with_providers : Providers → InternalState → InternalState
with_providers p s = state_with s.current_consumer_state s.current_provider_state s.unconstrained p

-- what the desk follows: consumer, unconstrained figures and tracked providers; the power state is the service's own
abbrev pub display_of : InternalState → Display
display_of s =
    record { consumer = s.current_consumer_state; unconstrained = s.unconstrained; providers = s.connected_providers }

-- the records: no port is past the sixteen, and no charger past the eight, since a start registers no more

abbrev pub psu_of : Records → ℕ → State
psu_of r p = cond (ltb p max_ports) (psu_at r.psus p) no_psu

abbrev pub charger_unpowered : Records → ℕ → Bool
charger_unpowered r i = cond (ltb i max_chargers) (is_unpowered (charger_at r.chargers i).state) true
