-- LEA-5: the default configuration: USB Type-C's 5 V at 3,000 mA and at 1,500 mA, 15,000 mW, no minimum.
use Rattle.std.specs.Prelude.{ℕ, ◌≤◌, true, cond, ◌&&◌, ◌≡◌, leb, eqb, None, Option, Some}
use Rattle.power_policy_interface.specs.Capability.{capability_fits}
use Rattle.power_policy_interface.specs.Limits.{largest}
use Rattle.power_policy_interface.specs.declared.capability.PowerCapability.{PowerCapability}
use Rattle.power_policy_service.specs.declared.config.Config.{Config}

-- USB Type-C: at 5 V a source advertises 3 A, 1.5 A or the default USB current; these are the two above the default
abbrev pub type_c3_a : PowerCapability
type_c3_a = record { voltage_mv = 5000; current_ma = 3000 }

abbrev pub type_c1_a5 : PowerCapability
type_c1_a5 = record { voltage_mv = 5000; current_ma = 1500 }

abbrev pub rust_default : Config
rust_default =
    record {
      limited_power_threshold_mw = 15000;
      provider_unlimited = type_c3_a;
      provider_limited = type_c1_a5;
      min_consumer_threshold_mw = None;
    }

abbrev pub default_config : Config
default_config = rust_default

-- presence 0: no minimum, whatever the figure; 1: the figure, which fits 32 bits; above 1 is refused
abbrev pub minimum_from : ℕ → ℕ → Option (Option ℕ)
minimum_from presence minimum =
    cond (eqb presence 0) (Some None)
    (cond (leb presence 1)
    (cond (leb minimum 0xffff_ffff) (Some (Some minimum)) None)
    None)

abbrev pub config_with : ℕ → PowerCapability → PowerCapability → Option (Option ℕ) → Option Config
config_with t u l None = None
config_with t u l (Some m) =
    Some
    (record {
      limited_power_threshold_mw = t;
      provider_unlimited = u;
      provider_limited = l;
      min_consumer_threshold_mw = m;
    })

-- REF-20: every figure fits its Rust type
abbrev pub config_from : ℕ → ℕ → ℕ → ℕ → ℕ → ℕ → ℕ → Option Config
config_from t uv ua lv la presence minimum =
    cond (leb t 0xffff_ffff && (leb uv 0xffff && (leb ua 0xffff && (leb lv 0xffff && leb la 0xffff))))
    (config_with t (record { voltage_mv = uv; current_ma = ua }) (record { voltage_mv = lv; current_ma = la })
    (minimum_from presence minimum))
    None

-- the figures of a configuration within their types: 32 bits for mW, 16 for mV and mA

abbrev pub MinimumFits : Option ℕ → Type 0
MinimumFits None = Unit {0}
MinimumFits (Some n) = n ≤ largest

pub record ConfigFits (c : Config) : Type 0 where
  pub threshold : c.limited_power_threshold_mw ≤ largest
  pub unlimited : capability_fits c.provider_unlimited ≡ true
  pub limited : capability_fits c.provider_limited ≡ true
  pub minimum : MinimumFits c.min_consumer_threshold_mw
