-- The optional consumer has one encoding, by the laws of its contract (records).
-- Assumes nothing.
use Rattle.std.specs.Prelude.{None, Option, Some}
use mathlib.Core.Path.{◌≡◌, refl, ap, subst, ◌∙◌}
use mathlib.Core.Bool.{Bool, true, false, cond}
use mathlib.Core.List.{List}
use Prim.Native.Nat.{ℕ, zero, suc, ◌+◌, ◌/◌, ◌<◌}
use native.Mathlib.Omega.{arith}
use lib.Dec.{eqb}
use lib.ListN.{get_or}
use borrow.Author.Tests.{eqb-true}
use Rattle.power_policy_interface.specs.Capability.{bit, consumer_flags_byte, provider_flags_byte}
use Rattle.power_policy_interface.specs.declared.capability.ConsumerPowerCapability.{ConsumerPowerCapability}
use Rattle.power_policy_interface.specs.declared.capability.ProviderPowerCapability.{ProviderPowerCapability}
use Rattle.power_policy_interface.specs.declared.capability.PowerCapability.{PowerCapability}
use Rattle.power_policy_interface.proofs.Bits.{number_lt}
use Rattle.std.proofs.lemmas.Bool.{and_parts}
use Rattle.interface_records.specs.Group.{group_bytes, empty_group, capability_group, consumer_group, provider_group, consumer_from, provider_from, all_zero}
use Rattle.interface_records.specs.Row.{AllBytes}
use Rattle.interface_records.specs.declared.group.Group.{Group}
use Rattle.interface_records.proofs.Groups.{Bytes, zeros, consumer_back, consumer_written, provider_written}
use Rattle.interface_display.specs.declared.AvailableConsumer.{AvailableConsumer}
use Rattle.bytes_groups.specs.Tagged.{tagged_at, tagged_bytes, no_group, consumer_tagged, contract_of, consumer_cases, optional_from}
use Rattle.bytes_groups.specs.declared.tagged.Tagged.{Tagged}
use Rattle.bytes_groups.proofs.Places.{Below, none, one}
use Rattle.bytes_groups.proofs.Quads.{Within}

-- groups of bytes

pub record GroupBytes (g : Group) : Type 0 where
  pub number : g.number < 256
  pub digit : Bytes g
  pub flags : g.flags < 256

pub record TaggedBytes (t : Tagged) : Type 0 where
  pub tag : t.tag < 256
  pub group : GroupBytes t.group

pub tagged_at_lem : (s : List ℕ) (at : ℕ) → AllBytes s → TaggedBytes (tagged_at s at)
tagged_at_lem s at h = record {
  tag = h (at + 0);
  group = record {
    number = h (at + 1);
    digit = record { v0 = h (at + 2); v1 = h (at + 3); c0 = h (at + 4); c1 = h (at + 5) };
    flags = h (at + 6);
  };
}

pub group_bytes_lem : (g : Group) → GroupBytes g → Below (group_bytes g)
group_bytes_lem g h =
    one h.number
    (one h.digit.v0 (one h.digit.v1 (one h.digit.c0 (one h.digit.c1 (one h.flags none)))))

pub tagged_bytes_lem : (t : Tagged) → TaggedBytes t → Below (tagged_bytes t)
tagged_bytes_lem t h = one h.tag (group_bytes_lem t.group h.group)

pub empty_bytes : (n : ℕ) → n < 256 → GroupBytes (empty_group n)
empty_bytes n h = record {
  number = h;
  digit = record { v0 = omega arith; v1 = omega arith; c0 = omega arith; c1 = omega arith };
  flags = omega arith;
}

capability_bytes_lem : (n : ℕ) (c : PowerCapability) (f : ℕ) → n < 256 → Within c → f < 256 → GroupBytes (capability_group n c f)
capability_bytes_lem n c f h w k = record {
  number = h;
  digit = record { v0 = omega arith; v1 = omega arith; c0 = omega arith; c1 = omega arith };
  flags = k;
}

bit_lt : (u : Bool) → bit u < 2
bit_lt true = omega arith
bit_lt false = omega arith

pub consumer_bytes_lem : (n : ℕ) (c : ConsumerPowerCapability) → n < 256 → Within c.capability → GroupBytes (consumer_group n c)
consumer_bytes_lem n c h w =
    capability_bytes_lem n c.capability (consumer_flags_byte c.flags) h w
    (omega (arith, bit_lt c.flags.unconstrained_power, number_lt c.flags.psu_type))

pub provider_bytes : (n : ℕ) (c : ProviderPowerCapability) → n < 256 → Within c.capability → GroupBytes (provider_group n c)
provider_bytes n c h w =
    capability_bytes_lem n c.capability (provider_flags_byte c.flags) h w (omega (arith, number_lt c.flags.psu_type))

-- what a group is read as has mV and mA of 16 bits

two_digits : (v0 v1 v : ℕ) → v0 < 256 → v1 < 256 → v1 ≡ v / 256 → v < 65536
two_digits v0 v1 v a b e = omega arith

pub consumer_within : (g : Group) (c : ConsumerPowerCapability) → Bytes g → consumer_from g ≡ Some c
    → Within c.capability
consumer_within g c h e =
    let w = consumer_written g c h e in
    record {
      mv = two_digits g.v0 g.v1 c.capability.voltage_mv h.v0 h.v1 (ap (λ (k : Group). k.v1) w);
      ma = two_digits g.c0 g.c1 c.capability.current_ma h.c0 h.c1 (ap (λ (k : Group). k.c1) w);
    }

pub provider_within : (g : Group) (c : ProviderPowerCapability) → Bytes g → provider_from g ≡ Some c
    → Within c.capability
provider_within g c h e =
    let w = provider_written g c h e in
    record {
      mv = two_digits g.v0 g.v1 c.capability.voltage_mv h.v0 h.v1 (ap (λ (k : Group). k.v1) w);
      ma = two_digits g.c0 g.c1 c.capability.current_ma h.c0 h.c1 (ap (λ (k : Group). k.c1) w);
    }

-- six zeros

pub no_group_lem : (g : Group) → no_group g ≡ true → g ≡ empty_group 0
no_group_lem g e =
    zeros g (and_parts (eqb g.number 0) (all_zero g) e).1
    ∙ ap empty_group (eqb-true g.number 0 (and_parts (eqb g.number 0) (all_zero g) e).0)

-- the optional consumer

pub optional_back : (c : Option AvailableConsumer) → optional_from (consumer_tagged c) ≡ Some c
optional_back None = refl
optional_back (Some c) = ap (contract_of c.psu) (consumer_back c.psu c.consumer_power_capability)

-- the number of a consumer's port and its figures are within their types
abbrev pub ConsumerWithin : Option AvailableConsumer → Type 0
ConsumerWithin None = Unit {0}
ConsumerWithin (Some c) = (c.psu < 256) × Within c.consumer_power_capability.capability

pub optional_bytes : (c : Option AvailableConsumer) → ConsumerWithin c → TaggedBytes (consumer_tagged c)
optional_bytes None h = record { tag = omega arith; group = empty_bytes 0 (omega arith) }
optional_bytes (Some c) h =
    record { tag = omega arith; group = consumer_bytes_lem c.psu c.consumer_power_capability h.0 h.1 }

-- what was read was written so, and is within its types
pub record Optional (t : Tagged) (c : Option AvailableConsumer) : Type 0 where
  pub written : t ≡ consumer_tagged c
  pub typed : ConsumerWithin c

no_consumer_lem : (g : Group) (c : Option AvailableConsumer) (b : Bool) → no_group g ≡ b
    → cond b (Some None) None ≡ Some c
    → Optional (record { tag = 0; group = g }) c
no_consumer_lem g None true p q = record { written = ap (λ (k : Group). record { tag = 0; group = k }) (no_group_lem g p); typed = tt }
no_consumer_lem g (Some c) true p q = absurd (cc)
no_consumer_lem g c false p q = absurd (cc)

a_consumer : (g : Group) (c : Option AvailableConsumer) (o : Option ConsumerPowerCapability) → consumer_from g ≡ o → GroupBytes g
    → contract_of g.number o ≡ Some c → Optional (record { tag = 1; group = g }) c
a_consumer g c None p h q = absurd (cc)
a_consumer g None (Some d) p h q =
    absurd (cc)
a_consumer g (Some c) (Some d) p h q =
    let k : record { psu = g.number; consumer_power_capability = d } ≡ c = cc in
    record {
      written = ap (λ (j : Group). record { tag = 1; group = j }) (consumer_written g d h.digit p)
          ∙ ap (λ (a : AvailableConsumer). consumer_tagged (Some a)) k;
      typed = subst (λ (a : AvailableConsumer). ConsumerWithin (Some a)) k (h.number, consumer_within g d h.digit p);
    }

optional_at : (n : ℕ) (g : Group) (c : Option AvailableConsumer) → GroupBytes g
    → get_or (consumer_cases g) n None ≡ Some c → Optional (record { tag = n; group = g }) c
optional_at zero g c h q = no_consumer_lem g c (no_group g) refl q
optional_at (suc zero) g c h q = a_consumer g c (consumer_from g) refl h q
optional_at (suc (suc n)) g c h q = absurd (cc)

pub optional_read : (t : Tagged) (c : Option AvailableConsumer) → TaggedBytes t → optional_from t ≡ Some c → Optional t c
optional_read t c h q = optional_at t.tag t.group c h.group q
