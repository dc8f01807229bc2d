-- What the types of records and of a start's figures can hold: the demands are of calls with such records, and a start accepts no other configuration.
use Rattle.std.specs.Prelude.{ℕ, ◌<◌, ◌≤◌, true, ◌≡◌, None, Option, Some}
use Rattle.power_policy_interface.specs.Limits.{max_ports, max_chargers}
use Rattle.power_policy_interface.specs.Capability.{capability_fits}
use Rattle.power_policy_interface.specs.declared.capability.ConsumerPowerCapability.{ConsumerPowerCapability}
use Rattle.power_policy_interface.specs.declared.capability.ProviderPowerCapability.{ProviderPowerCapability}
use Rattle.power_policy_interface.specs.declared.psu.State.{State}
use Rattle.power_policy_service.specs.Rows.{psu_at}
use Rattle.power_policy_service.specs.Config.{ConfigFits}
use Rattle.power_policy_service.specs.declared.config.Config.{Config}
use Rattle.abstract_policy.specs.declared.state.Records.{Records}
use Rattle.machine_service.specs.Service.{fresh_service}
use Rattle.machine_service.specs.declared.Service.{Service}

-- 16 bits for mV and mA
abbrev pub OfferFits : Option ConsumerPowerCapability → Type 0
OfferFits None = Unit {0}
OfferFits (Some c) = capability_fits c.capability ≡ true

abbrev pub RequestFits : Option ProviderPowerCapability → Type 0
RequestFits None = Unit {0}
RequestFits (Some c) = capability_fits c.capability ≡ true

abbrev pub PsuFits : State → Type 0
PsuFits s = OfferFits s.consumer_capability × RequestFits s.requested_provider_capability

abbrev pub RecordsFit : Records → Type 0
RecordsFit r = (p : ℕ) → p < max_ports → PsuFits (psu_at r.psus p)

-- what a start has accepted: the service is fresh, and all figures are within their types
pub record StartFits (ports chargers : ℕ) (s : Service) : Type 0 where
  pub config : Config
  pub fresh : s ≡ fresh_service config ports chargers
  pub few_ports : ports ≤ max_ports
  pub few_chargers : chargers ≤ max_chargers
  pub figures : ConfigFits config
