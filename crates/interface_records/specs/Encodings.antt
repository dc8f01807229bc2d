-- A capability with the flags of its side has one encoding, since its flags have.
-- Assumes nothing.
use Rattle.std.specs.Prelude.{None, Option, Some}
use mathlib.Core.Path.{◌≡◌, refl, ap, ◌∙◌}
use Prim.Native.Nat.{ℕ}
use Rattle.power_policy_interface.proofs.OneByte.{consumer_read_write, consumer_write_read, provider_read_write, provider_write_read}
use Rattle.power_policy_interface.specs.Capability.{consumer_flags_from, provider_flags_from, consumer_flags_byte, provider_flags_byte}
use Rattle.power_policy_interface.specs.declared.capability.PowerCapability.{PowerCapability}
use Rattle.power_policy_interface.specs.declared.capability.ConsumerPowerCapability.{ConsumerPowerCapability}
use Rattle.power_policy_interface.specs.declared.capability.ProviderPowerCapability.{ProviderPowerCapability}
use Rattle.power_policy_interface.specs.declared.capability.ConsumerFlags.{ConsumerFlags}
use Rattle.power_policy_interface.specs.declared.capability.ProviderFlags.{ProviderFlags}
use Rattle.interface_records.specs.Group.{OneEncoding, consumer_with, provider_with}

consumer_forth : (p : PowerCapability) (b : ℕ) (c : ConsumerPowerCapability) (o : Option ConsumerFlags) → consumer_flags_from b ≡ o
    → consumer_with p o ≡ Some c → (p ≡ c.capability) × (b ≡ consumer_flags_byte c.flags)
consumer_forth p b c None e q = absurd (cc)
consumer_forth p b c (Some f) e q =
    let k : record { capability = p; flags = f } ≡ c = cc in (
      ap (λ (x : ConsumerPowerCapability). x.capability) k,
      consumer_write_read b f e ∙ ap (λ (x : ConsumerPowerCapability). consumer_flags_byte x.flags) k,
    )

pub consumer_encoding : OneEncoding {A = ConsumerPowerCapability} (λ c. c.capability) (λ c. consumer_flags_byte c.flags) (λ p b. consumer_with p (consumer_flags_from b))
consumer_encoding = record {
  back = λ c. ap (consumer_with c.capability) (consumer_read_write c.flags);
  forth = λ p b c q. consumer_forth p b c (consumer_flags_from b) refl q;
}

provider_forth : (p : PowerCapability) (b : ℕ) (c : ProviderPowerCapability) (o : Option ProviderFlags) → provider_flags_from b ≡ o
    → provider_with p o ≡ Some c → (p ≡ c.capability) × (b ≡ provider_flags_byte c.flags)
provider_forth p b c None e q = absurd (cc)
provider_forth p b c (Some f) e q =
    let k : record { capability = p; flags = f } ≡ c = cc in (
      ap (λ (x : ProviderPowerCapability). x.capability) k,
      provider_write_read b f e ∙ ap (λ (x : ProviderPowerCapability). provider_flags_byte x.flags) k,
    )

pub provider_encoding : OneEncoding {A = ProviderPowerCapability} (λ c. c.capability) (λ c. provider_flags_byte c.flags) (λ p b. provider_with p (provider_flags_from b))
provider_encoding = record {
  back = λ c. ap (provider_with c.capability) (provider_read_write c.flags);
  forth = λ p b c q. provider_forth p b c (provider_flags_from b) refl q;
}
