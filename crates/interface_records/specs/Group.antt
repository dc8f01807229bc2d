-- SHP-9: a group of six bytes: a number, and a capability as
-- mV and mA low byte first and the flag byte. Absent is zeros.
use Rattle.std.specs.Prelude.{◌≡◌, ℕ, ◌+◌, ◌*◌, ◌/◌, ◌%◌, Bool, cond, List, [], ◌∷◌, eqb, get_or, None, Option, Some}
use Rattle.power_policy_interface.specs.Capability.{consumer_flags_byte, provider_flags_byte, consumer_flags_from, provider_flags_from}
use Rattle.power_policy_interface.specs.declared.capability.PowerCapability.{PowerCapability}
use Rattle.power_policy_interface.specs.declared.capability.ConsumerPowerCapability.{ConsumerPowerCapability}
use Rattle.power_policy_interface.specs.declared.capability.ProviderPowerCapability.{ProviderPowerCapability}
use Rattle.power_policy_interface.specs.declared.capability.ConsumerFlags.{ConsumerFlags}
use Rattle.power_policy_interface.specs.declared.capability.ProviderFlags.{ProviderFlags}
use Rattle.interface_records.specs.declared.group.Group.{Group}

-- the six bytes from a position on
abbrev pub group_at : List ℕ → ℕ → Group
group_at s at =
    record {
      number = get_or s (at + 0) 0;
      v0 = get_or s (at + 1) 0;
      v1 = get_or s (at + 2) 0;
      c0 = get_or s (at + 3) 0;
      c1 = get_or s (at + 4) 0;
      flags = get_or s (at + 5) 0;
    }

abbrev pub group_bytes : Group → List ℕ
group_bytes g = g.number ∷ g.v0 ∷ g.v1 ∷ g.c0 ∷ g.c1 ∷ g.flags ∷ []

-- writing

abbrev pub empty_group : ℕ → Group
empty_group n = record { number = n; v0 = 0; v1 = 0; c0 = 0; c1 = 0; flags = 0 }

-- a number, a byte and four zeros
abbrev pub pair_group : ℕ → ℕ → Group
pair_group a b = record { number = a; v0 = b; v1 = 0; c0 = 0; c1 = 0; flags = 0 }

-- mV and mA as four bytes, the low bytes first
abbrev pub power_bytes : PowerCapability → List ℕ
power_bytes c = c.voltage_mv % 256 ∷ c.voltage_mv / 256 ∷ c.current_ma % 256 ∷ c.current_ma / 256 ∷ []

abbrev pub capability_group : ℕ → PowerCapability → ℕ → Group
capability_group n c f =
    record {
      number = n;
      v0 = c.voltage_mv % 256;
      v1 = c.voltage_mv / 256;
      c0 = c.current_ma % 256;
      c1 = c.current_ma / 256;
      flags = f;
    }

abbrev pub consumer_group : ℕ → ConsumerPowerCapability → Group
consumer_group n c = capability_group n c.capability (consumer_flags_byte c.flags)

abbrev pub provider_group : ℕ → ProviderPowerCapability → Group
provider_group n c = capability_group n c.capability (provider_flags_byte c.flags)

-- presence 0 and zeros if absent, presence 1 and a capability
abbrev pub option_group : {A : Type 0} → (ℕ → A → Group) → Option A → Group
option_group write None = empty_group 0
option_group write (Some c) = write 1 c

abbrev pub option_consumer_group : Option ConsumerPowerCapability → Group
option_consumer_group c = option_group consumer_group c

abbrev pub option_provider_group : Option ProviderPowerCapability → Group
option_provider_group c = option_group provider_group c

-- reading

-- mV and mA of four bytes
abbrev pub power_of : List ℕ → PowerCapability
power_of b = record { voltage_mv = get_or b 0 0 + get_or b 1 0 * 256; current_ma = get_or b 2 0 + get_or b 3 0 * 256 }

abbrev pub capability_from : Group → PowerCapability
capability_from g = record { voltage_mv = g.v0 + g.v1 * 256; current_ma = g.c0 + g.c1 * 256 }

-- the capability's bytes are zeros: so is their sum
abbrev pub all_zero : Group → Bool
all_zero g = eqb (g.v0 + g.v1 + g.c0 + g.c1 + g.flags) 0

abbrev pub consumer_with : PowerCapability → Option ConsumerFlags → Option ConsumerPowerCapability
consumer_with c None = None
consumer_with c (Some f) = Some (record { capability = c; flags = f })

abbrev pub consumer_from : Group → Option ConsumerPowerCapability
consumer_from g = consumer_with (capability_from g) (consumer_flags_from g.flags)

abbrev pub provider_with : PowerCapability → Option ProviderFlags → Option ProviderPowerCapability
provider_with c None = None
provider_with c (Some f) = Some (record { capability = c; flags = f })

abbrev pub provider_from : Group → Option ProviderPowerCapability
provider_from g = provider_with (capability_from g) (provider_flags_from g.flags)

module _ {A : Type 0} where
  abbrev pub present : Option A → Option (Option A)
  present None = None
  present (Some c) = Some (Some c)

  -- presence 0: nothing, where only zeros follow; presence 1: a value; a presence above 1 is refused
  abbrev pub presence_from : ℕ → Bool → Option A → Option (Option A)
  presence_from n empty value = get_or (cond empty (Some None) None ∷ present value ∷ []) n None

  -- presence 0: zeros; presence 1: a capability
  abbrev pub option_cases : (Group → Option A) → Group → List (Option (Option A))
  option_cases read g = cond (all_zero g) (Some None) None ∷ present (read g) ∷ []

  -- REF-22: a presence above 1 is refused
  abbrev pub option_from : (Group → Option A) → Group → Option (Option A)
  option_from read g = get_or (option_cases read g) g.number None

abbrev pub option_consumer_from : Group → Option (Option ConsumerPowerCapability)
option_consumer_from g = option_from consumer_from g

abbrev pub option_provider_from : Group → Option (Option ProviderPowerCapability)
option_provider_from g = option_from provider_from g

-- what was written as mV and mA and a flag byte is read back, and what is read was written so
pub record OneEncoding {A : Type 0} (capability : A → PowerCapability) (flags : A → ℕ) (parts : PowerCapability → ℕ → Option A) : Type 0 where
  pub back : (c : A) → parts (capability c) (flags c) ≡ Some c
  pub forth : (p : PowerCapability) (b : ℕ) (c : A) → parts p b ≡ Some c → (p ≡ capability c) × (b ≡ flags c)
