-- The tests of equality are true exactly at equal values: a record is its fields, and a flag byte is read back to its flags.
-- Assumes nothing.
use Rattle.std.specs.Prelude.{◌≡◌, T, Option}
use Rattle.std.proofs.Common.{arith}
use Rattle.std.proofs.lemmas.Grind.{common_steps}
use Rattle.power_policy_interface.specs.Capability.{same_capability, same_consumer, same_provider, same_option_provider}
use Rattle.power_policy_interface.specs.Service.{same_unconstrained}
use Rattle.power_policy_interface.specs.declared.capability.PowerCapability.{PowerCapability}
use Rattle.power_policy_interface.specs.declared.capability.ConsumerPowerCapability.{ConsumerPowerCapability}
use Rattle.power_policy_interface.specs.declared.capability.ProviderPowerCapability.{ProviderPowerCapability}
use Rattle.power_policy_interface.specs.declared.service.UnconstrainedState.{UnconstrainedState}
use Rattle.power_policy_interface.proofs.OneByte.{consumer_injective, provider_injective}

pub capability_eq : (a b : PowerCapability) → T (same_capability a b) → a ≡ b
capability_eq a b t = grind (arith, common_steps)

pub capability_refl : (a : PowerCapability) → T (same_capability a a)
capability_refl a = grind (arith, common_steps)

pub consumer_eq : (a b : ConsumerPowerCapability) → T (same_consumer a b) → a ≡ b
consumer_eq a b t = grind (arith, common_steps, consumer_injective a.flags b.flags)

pub consumer_refl : (a : ConsumerPowerCapability) → T (same_consumer a a)
consumer_refl a = grind (arith, common_steps)

pub provider_eq : (a b : ProviderPowerCapability) → T (same_provider a b) → a ≡ b
provider_eq a b t = grind (arith, common_steps, provider_injective a.flags b.flags)

pub provider_refl : (a : ProviderPowerCapability) → T (same_provider a a)
provider_refl a = grind (arith, common_steps)

pub option_provider_eq : (a b : Option ProviderPowerCapability) → T (same_option_provider a b) → a ≡ b
option_provider_eq a b t = grind (arith, common_steps, provider_eq)

pub option_provider_refl : (a : Option ProviderPowerCapability) → T (same_option_provider a a)
option_provider_refl a = grind (arith, common_steps, provider_refl)

pub unconstrained_eq : (a b : UnconstrainedState) → T (same_unconstrained a b) → a ≡ b
unconstrained_eq a b t = grind (arith, common_steps)

pub unconstrained_refl : (a : UnconstrainedState) → T (same_unconstrained a a)
unconstrained_refl a = grind (arith, common_steps)
