-- Every number within its type, as each value of the program is: mV and mA of 16 bits, milliwatts and event numbers of 32.
use Rattle.std.specs.Prelude.{◌≤◌, true, ◌≡◌, None, Option, Some}
use Rattle.power_policy_interface.specs.Limits.{largest}
use Rattle.power_policy_interface.specs.Capability.{capability_fits}
use Rattle.interface_display.specs.declared.AvailableConsumer.{AvailableConsumer}
use Rattle.power_policy_service.specs.Config.{ConfigFits}
use Rattle.machine_state.specs.declared.memory.ProviderNotice.{ProviderNotice}
use Rattle.machine_state.specs.declared.phase.Phase.{Phase}
use Rattle.machine_service.specs.declared.Service.{Service}

abbrev pub ConsumerTyped : Option AvailableConsumer → Type 0
ConsumerTyped None = Unit {0}
ConsumerTyped (Some c) = capability_fits c.consumer_power_capability.capability ≡ true

abbrev pub ProviderTyped : Option ProviderNotice → Type 0
ProviderTyped None = Unit {0}
ProviderTyped (Some (ProviderNotice.Disconnected p)) = Unit {0}
ProviderTyped (Some (ProviderNotice.Connected p c)) = capability_fits c.capability ≡ true

abbrev pub PhaseTyped : Phase → Type 0
PhaseTyped (Phase.Closed a) = Unit {0}
PhaseTyped (Phase.Leaving i p f) = Unit {0}
PhaseTyped (Phase.Switching l old f new) = capability_fits new.consumer_power_capability.capability ≡ true
PhaseTyped (Phase.Connecting s new) = capability_fits new.consumer_power_capability.capability ≡ true
PhaseTyped (Phase.Providing p c) = capability_fits c.capability ≡ true

pub record Typed (s : Service) : Type 0 where
  pub config : ConfigFits s.registration.config
  pub number : s.number ≤ largest
  pub consumer : ConsumerTyped s.memory.state.current_consumer_state
  pub phase : PhaseTyped s.phase
  pub provider : ProviderTyped s.memory.notices.provider
  pub connected : ConsumerTyped s.memory.notices.connected
