-- A group has one encoding: mV and mA are their two base-256 digits, and the flag byte is read back to its flags.
-- Assumes nothing.
use Rattle.std.specs.Prelude.{None, Option, Some}
use mathlib.Core.Path.{◌≡◌, refl, ap, ◌∙◌}
use mathlib.Core.Bool.{Bool, true, false, cond}
use Prim.Native.Nat.{ℕ, zero, suc, ◌+◌, ◌*◌, ◌/◌, ◌%◌, ◌<◌}
use native.Mathlib.Omega.{arith}
use lib.ListN.{get_or}
use borrow.Author.Tests.{eqb-true}
use Rattle.power_policy_interface.specs.Capability.{consumer_flags_from, provider_flags_from, consumer_flags_byte, provider_flags_byte}
use Rattle.power_policy_interface.specs.declared.capability.PowerCapability.{PowerCapability}
use Rattle.power_policy_interface.specs.declared.capability.ConsumerPowerCapability.{ConsumerPowerCapability}
use Rattle.power_policy_interface.specs.declared.capability.ProviderPowerCapability.{ProviderPowerCapability}
use Rattle.interface_records.specs.Group.{OneEncoding, empty_group, capability_group, consumer_group, provider_group, option_group, option_consumer_group, option_provider_group, capability_from, all_zero, consumer_with, consumer_from, provider_with, provider_from, present, option_cases, option_from, option_consumer_from, option_provider_from}
use Rattle.interface_records.specs.declared.group.Group.{Group}
use Rattle.interface_records.specs.Encodings.{consumer_encoding, provider_encoding}

-- the bytes of mV and mA are bytes
pub record Bytes (g : Group) : Type 0 where
  pub v0 : g.v0 < 256
  pub v1 : g.v1 < 256
  pub c0 : g.c0 < 256
  pub c1 : g.c1 < 256

-- reading what was written

pub digits : (n : ℕ) (c : PowerCapability) (f : ℕ) → capability_from (capability_group n c f) ≡ c
digits n c f =
    let v : c.voltage_mv % 256 + c.voltage_mv / 256 * 256 ≡ c.voltage_mv = omega arith in
    let a : c.current_ma % 256 + c.current_ma / 256 * 256 ≡ c.current_ma = omega arith in
    λ i. record { voltage_mv = v i; current_ma = a i }

-- what was read was written so

pub zeros : (g : Group) → all_zero g ≡ true → g ≡ empty_group g.number
zeros g e =
    let z = eqb-true (g.v0 + g.v1 + g.c0 + g.c1 + g.flags) 0 e in
    let a : g.v0 ≡ 0 = omega arith in
    let b : g.v1 ≡ 0 = omega arith in
    let c : g.c0 ≡ 0 = omega arith in
    let d : g.c1 ≡ 0 = omega arith in
    let f : g.flags ≡ 0 = omega arith in
    λ i. record { number = g.number; v0 = a i; v1 = b i; c0 = c i; c1 = d i; flags = f i }

pub undigits : (g : Group) → Bytes g → g ≡ capability_group g.number (capability_from g) g.flags
undigits g h =
    let a : g.v0 ≡ (g.v0 + g.v1 * 256) % 256 = omega arith in
    let b : g.v1 ≡ (g.v0 + g.v1 * 256) / 256 = omega arith in
    let c : g.c0 ≡ (g.c0 + g.c1 * 256) % 256 = omega arith in
    let d : g.c1 ≡ (g.c0 + g.c1 * 256) / 256 = omega arith in
    λ i. record { number = g.number; v0 = a i; v1 = b i; c0 = c i; c1 = d i; flags = g.flags }

-- both, for every capability with flags that has one encoding

module _ {A : Type 0} (capability : A → PowerCapability) (flags : A → ℕ) (parts : PowerCapability → ℕ → Option A) (one : OneEncoding capability flags parts) where
  abbrev read : Group → Option A
  read g = parts (capability_from g) g.flags

  abbrev write : ℕ → A → Group
  write n c = capability_group n (capability c) (flags c)

  pub back : (n : ℕ) (c : A) → read (write n c) ≡ Some c
  back n c = ap (λ (p : PowerCapability). parts p (flags c)) (digits n (capability c) (flags c)) ∙ one.back c

  pub option_back : (c : Option A) → option_from read (option_group write c) ≡ Some c
  option_back None = refl
  option_back (Some c) = ap present (back 1 c)

  pub told : (g : Group) (c : A) → Bytes g → read g ≡ Some c → g ≡ write g.number c
  told g c h q =
      let e = one.forth (capability_from g) g.flags c q in
      undigits g h ∙ (λ i. capability_group g.number (e.0 i) (e.1 i))

  -- a presence byte decides: zeros, or a capability

  absent : (g : Group) (c : Option A) (t : Bool) → all_zero g ≡ t → g.number ≡ 0 → cond t (Some None) None ≡ Some c
      → g ≡ option_group write c
  absent g c true p e q =
      let k : None ≡ c = cc in
      zeros g p ∙ (ap empty_group e ∙ ap (option_group write) k)
  absent g c false p e q = absurd (cc)

  there : (g : Group) (c : Option A) (o : Option A) → read g ≡ o → g.number ≡ 1 → Bytes g → present o ≡ Some c
      → g ≡ option_group write c
  there g c None p e h q = absurd (cc)
  there g c (Some d) p e h q =
      let k : Some d ≡ c = cc in
      told g d h p ∙ (ap (λ (n : ℕ). write n d) e ∙ ap (option_group write) k)

  option_at : (n : ℕ) (g : Group) (c : Option A) → g.number ≡ n → Bytes g → get_or (option_cases read g) n None ≡ Some c
      → g ≡ option_group write c
  option_at zero g c e h q = absent g c (all_zero g) refl e q
  option_at (suc zero) g c e h q = there g c (read g) refl e h q
  option_at (suc (suc n)) g c e h q = absurd (cc)

  pub option_told : (g : Group) (c : Option A) → Bytes g → option_from read g ≡ Some c → g ≡ option_group write c
  option_told g c h q = option_at g.number g c refl h q

-- the consumer's and the provider's

pub consumer_back : (n : ℕ) (c : ConsumerPowerCapability) → consumer_from (consumer_group n c) ≡ Some c
consumer_back = back (λ (c : ConsumerPowerCapability). c.capability) (λ (c : ConsumerPowerCapability). consumer_flags_byte c.flags) (λ (q : PowerCapability) (b : ℕ). consumer_with q (consumer_flags_from b)) consumer_encoding

pub consumer_written : (g : Group) (c : ConsumerPowerCapability) → Bytes g → consumer_from g ≡ Some c → g ≡ consumer_group g.number c
consumer_written = told (λ (c : ConsumerPowerCapability). c.capability) (λ (c : ConsumerPowerCapability). consumer_flags_byte c.flags) (λ (q : PowerCapability) (b : ℕ). consumer_with q (consumer_flags_from b)) consumer_encoding

pub option_consumer_back : (c : Option ConsumerPowerCapability) → option_consumer_from (option_consumer_group c) ≡ Some c
option_consumer_back = option_back (λ (c : ConsumerPowerCapability). c.capability) (λ (c : ConsumerPowerCapability). consumer_flags_byte c.flags) (λ (q : PowerCapability) (b : ℕ). consumer_with q (consumer_flags_from b)) consumer_encoding

pub option_consumer_written : (g : Group) (c : Option ConsumerPowerCapability) → Bytes g → option_consumer_from g ≡ Some c
    → g ≡ option_consumer_group c
option_consumer_written = option_told (λ (c : ConsumerPowerCapability). c.capability) (λ (c : ConsumerPowerCapability). consumer_flags_byte c.flags) (λ (q : PowerCapability) (b : ℕ). consumer_with q (consumer_flags_from b)) consumer_encoding

pub provider_back : (n : ℕ) (c : ProviderPowerCapability) → provider_from (provider_group n c) ≡ Some c
provider_back = back (λ (c : ProviderPowerCapability). c.capability) (λ (c : ProviderPowerCapability). provider_flags_byte c.flags) (λ (q : PowerCapability) (b : ℕ). provider_with q (provider_flags_from b)) provider_encoding

pub provider_written : (g : Group) (c : ProviderPowerCapability) → Bytes g → provider_from g ≡ Some c → g ≡ provider_group g.number c
provider_written = told (λ (c : ProviderPowerCapability). c.capability) (λ (c : ProviderPowerCapability). provider_flags_byte c.flags) (λ (q : PowerCapability) (b : ℕ). provider_with q (provider_flags_from b)) provider_encoding

pub option_provider_back : (c : Option ProviderPowerCapability) → option_provider_from (option_provider_group c) ≡ Some c
option_provider_back = option_back (λ (c : ProviderPowerCapability). c.capability) (λ (c : ProviderPowerCapability). provider_flags_byte c.flags) (λ (q : PowerCapability) (b : ℕ). provider_with q (provider_flags_from b)) provider_encoding

pub option_provider_written : (g : Group) (c : Option ProviderPowerCapability) → Bytes g → option_provider_from g ≡ Some c
    → g ≡ option_provider_group c
option_provider_written = option_told (λ (c : ProviderPowerCapability). c.capability) (λ (c : ProviderPowerCapability). provider_flags_byte c.flags) (λ (q : PowerCapability) (b : ℕ). provider_with q (provider_flags_from b)) provider_encoding
