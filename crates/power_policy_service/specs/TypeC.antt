-- DEM-2a: the USB Type-C specification's source currents at 5 V, and what
-- the default configurations grant beside them. Proved in proofs/TypeC.antt.
use Rattle.std.specs.Prelude.{ℕ, ◌⊎◌, ◌≡◌}
use Rattle.power_policy_interface.specs.Capability.{max_power_mw}
use Rattle.power_policy_interface.specs.declared.capability.PowerCapability.{PowerCapability}
use Rattle.power_policy_interface.specs.declared.capability.ProviderFlags.{ProviderFlags}
use Rattle.power_policy_interface.specs.declared.capability.ProviderPowerCapability.{ProviderPowerCapability}
use Rattle.power_policy_service.specs.Provider.{grant_of}
use Rattle.power_policy_service.specs.declared.config.Config.{Config}
use Rattle.power_policy_service.specs.declared.provider.PowerState.{PowerState}

abbrev pub capability : ℕ → ℕ → PowerCapability
capability v a = record { voltage_mv = v; current_ma = a }

-- a source advertises at 5 V the default USB current, which is 500 mA (USB 2.0) or 900 mA (USB 3.x), or 1,500 mA, or 3,000 mA
pub record Advertised (c : PowerCapability) : Type 0 where
  pub voltage : c.voltage_mv ≡ 5000
  pub current : (c.current_ma ≡ 500) ⊎ ((c.current_ma ≡ 900) ⊎ ((c.current_ma ≡ 1500) ⊎ (c.current_ma ≡ 3000)))

pub record TypeC (c : Config) : Type 0 where
  pub unlimited : Advertised c.provider_unlimited
  pub limited : Advertised c.provider_limited
  -- the threshold is the mW of 5 V at 3 A
  pub threshold : c.limited_power_threshold_mw ≡ max_power_mw (capability 5000 3000)
  -- Limited grants 5 V at 1,500 mA, whatever is requested
  pub limited_grant : (r : ProviderPowerCapability) → grant_of c PowerState.Limited r ≡ record { capability = capability 5000 1500; flags = r.flags }
  -- a request that can be advertised is granted what can be advertised
  pub kept : (s : PowerState) (r : ProviderPowerCapability) → Advertised r.capability → Advertised (grant_of c s r).capability
  -- and another may be granted as it is: Unlimited, 9,000 mV at 1,000 mA, which are 9,000 mW
  pub passed : (f : ProviderFlags) → grant_of c PowerState.Unlimited (record { capability = capability 9000 1000; flags = f }) ≡ record { capability = capability 9000 1000; flags = f }
  pub not_advertised : Advertised (capability 9000 1000) → ⊥
