-- The figures of the default are those of the table, and a grant is one of them or the request.
-- Assumes nothing.
use mathlib.Core.Path.{refl}
use mathlib.Core.Logic.{inl, inr}
use Rattle.std.proofs.Common.{arith}
use Rattle.std.proofs.lemmas.Grind.{common_steps}
use Rattle.power_policy_interface.specs.declared.capability.ProviderPowerCapability.{ProviderPowerCapability}
use Rattle.power_policy_service.specs.Config.{rust_default, default_config, type_c3_a, type_c1_a5}
use Rattle.power_policy_service.specs.Provider.{grant_of}
use Rattle.power_policy_service.specs.TypeC.{capability, Advertised, TypeC}
use Rattle.power_policy_service.specs.declared.provider.PowerState.{PowerState}

three_amperes : Advertised type_c3_a
three_amperes = record { voltage = refl; current = inr (inr (inr refl)) }

one_and_a_half : Advertised type_c1_a5
one_and_a_half = record { voltage = refl; current = inr (inr (inl refl)) }

not_nine : Advertised (capability 9000 1000) → ⊥
not_nine h = omega (arith, h.voltage)

grants : (s : PowerState) (r : ProviderPowerCapability) → Advertised r.capability → Advertised (grant_of rust_default s r).capability
grants s r h = grind (arith, common_steps, three_amperes, one_and_a_half)

pub rust_type_c : TypeC rust_default
rust_type_c =
    record {
      unlimited = three_amperes;
      limited = one_and_a_half;
      threshold = refl;
      limited_grant = λ r. refl;
      kept = grants;
      passed = λ f. refl;
      not_advertised = not_nine;
    }

pub default_type_c : TypeC default_config
default_type_c = rust_type_c
