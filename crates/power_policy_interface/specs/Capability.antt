-- What the functions of capability.rt compute. A flag byte (PKT-15) has unconstrained_power at bit 0 and the PSU type's
-- number at bits 1 to 3; the rest are 0.
use Rattle.std.specs.Prelude.{ℕ, ◌+◌, ◌*◌, ◌/◌, ◌%◌, Bool, true, false, cond, ◌&&◌, List, [], ◌∷◌, ◌==◌, nat_le, slice_index_or, None, Option, Some}
use Rattle.power_policy_interface.specs.Order.{cmp_nat}
use Rattle.power_policy_interface.specs.declared.capability.PowerCapability.{PowerCapability}
use Rattle.power_policy_interface.specs.declared.capability.ConsumerPowerCapability.{ConsumerPowerCapability}
use Rattle.power_policy_interface.specs.declared.capability.ProviderPowerCapability.{ProviderPowerCapability}
use Rattle.std.specs.declared.cmp.Ordering.{Ordering}
use Rattle.power_policy_interface.specs.declared.capability.PsuType.{PsuType}
use Rattle.power_policy_interface.specs.declared.capability.ConsumerFlags.{ConsumerFlags}
use Rattle.power_policy_interface.specs.declared.capability.ProviderFlags.{ProviderFlags}
use Rattle.power_policy_interface.specs.declared.capability.DisconnectReason.{DisconnectReason}
use Rattle.power_policy_interface.specs.declared.capability.DisconnectFlags.{DisconnectFlags}

-- LEA-1: mW = mV × mA / 1000, rounded down
abbrev pub max_power_mw : PowerCapability → ℕ
max_power_mw c = c.voltage_mv * c.current_ma / 1000

-- mV and mA of 16 bits, as every capability of the program has them
abbrev pub capability_fits : PowerCapability → Bool
capability_fits c = nat_le c.voltage_mv 65535 && nat_le c.current_ma 65535

abbrev pub cmp_capability : PowerCapability → PowerCapability → Ordering
cmp_capability a b = cmp_nat (max_power_mw a) (max_power_mw b)

-- PKT-15: 0 none, 1 TypeC, 2 DcJack, 3 to 6 Custom0 to Custom3
abbrev pub psu_type_number : Option PsuType → ℕ
psu_type_number None = 0
psu_type_number (Some PsuType.TypeC) = 1
psu_type_number (Some PsuType.DcJack) = 2
psu_type_number (Some PsuType.Custom0) = 3
psu_type_number (Some PsuType.Custom1) = 4
psu_type_number (Some PsuType.Custom2) = 5
psu_type_number (Some PsuType.Custom3) = 6

abbrev pub psu_types : List (Option PsuType)
psu_types =
    None
    ∷ Some PsuType.TypeC
    ∷ Some PsuType.DcJack
    ∷ Some PsuType.Custom0
    ∷ Some PsuType.Custom1
    ∷ Some PsuType.Custom2
    ∷ Some PsuType.Custom3
    ∷ []

abbrev pub psu_type_from : ℕ → Option PsuType
psu_type_from n = slice_index_or psu_types n None

abbrev pub bit : Bool → ℕ
bit false = 0
bit true = 1

abbrev pub consumer_flags_byte : ConsumerFlags → ℕ
consumer_flags_byte f = bit f.unconstrained_power + psu_type_number f.psu_type * 2

abbrev pub provider_flags_byte : ProviderFlags → ℕ
provider_flags_byte f = psu_type_number f.psu_type * 2

-- bits 1 to 7 hold a type's number, 0 to 6: type 7 and bits 4 to 7 are refused
abbrev pub consumer_flags_from : ℕ → Option ConsumerFlags
consumer_flags_from b =
    cond (nat_le (b / 2) 6)
    (Some (record { unconstrained_power = (b % 2 == 1); psu_type = psu_type_from (b / 2) }))
    None

-- the same with bit 0 clear
abbrev pub provider_flags_from : ℕ → Option ProviderFlags
provider_flags_from b =
    cond (b % 2 == 1) None
    (cond (nat_le (b / 2) 6) (Some (record { psu_type = psu_type_from (b / 2) })) None)

-- equality, field by field (proofs/Same.antt: true exactly at equal values)
abbrev pub same_capability : PowerCapability → PowerCapability → Bool
same_capability a b = a.voltage_mv == b.voltage_mv && a.current_ma == b.current_ma

abbrev pub same_consumer : ConsumerPowerCapability → ConsumerPowerCapability → Bool
same_consumer a b =
    same_capability a.capability b.capability && consumer_flags_byte a.flags == consumer_flags_byte b.flags

abbrev pub same_provider : ProviderPowerCapability → ProviderPowerCapability → Bool
same_provider a b =
    same_capability a.capability b.capability && provider_flags_byte a.flags == provider_flags_byte b.flags

abbrev pub same_option_provider : Option ProviderPowerCapability → Option ProviderPowerCapability → Bool
same_option_provider None None = true
same_option_provider None (Some b) = false
same_option_provider (Some a) None = false
same_option_provider (Some a) (Some b) = same_provider a b

abbrev pub is_renegotiation : DisconnectReason → Bool
is_renegotiation DisconnectReason.Detached = false
is_renegotiation DisconnectReason.Switching = false
is_renegotiation DisconnectReason.AutoRenegotiation = true
is_renegotiation DisconnectReason.ManualRenegotiation = true
is_renegotiation DisconnectReason.RoleSwap = false
is_renegotiation DisconnectReason.Reset = false

-- PKT-10: 0 none, 1 Detached, then as written, to 6 Reset
abbrev pub reason_byte : Option DisconnectReason → ℕ
reason_byte None = 0
reason_byte (Some DisconnectReason.Detached) = 1
reason_byte (Some DisconnectReason.Switching) = 2
reason_byte (Some DisconnectReason.AutoRenegotiation) = 3
reason_byte (Some DisconnectReason.ManualRenegotiation) = 4
reason_byte (Some DisconnectReason.RoleSwap) = 5
reason_byte (Some DisconnectReason.Reset) = 6

abbrev pub disconnect_byte : DisconnectFlags → ℕ
disconnect_byte f = reason_byte f.reason

abbrev pub given : Option DisconnectReason → Option DisconnectFlags
given r = Some (record { reason = r })

abbrev pub reasons : List (Option DisconnectFlags)
reasons =
    given None
    ∷ given (Some DisconnectReason.Detached)
    ∷ given (Some DisconnectReason.Switching)
    ∷ given (Some DisconnectReason.AutoRenegotiation)
    ∷ given (Some DisconnectReason.ManualRenegotiation)
    ∷ given (Some DisconnectReason.RoleSwap)
    ∷ given (Some DisconnectReason.Reset)
    ∷ []

-- 0 and above 6 are no reason's
abbrev pub reason_from : ℕ → Option DisconnectReason
reason_from b =
    slice_index_or (
    None
    ∷ Some DisconnectReason.Detached
    ∷ Some DisconnectReason.Switching
    ∷ Some DisconnectReason.AutoRenegotiation
    ∷ Some DisconnectReason.ManualRenegotiation
    ∷ Some DisconnectReason.RoleSwap
    ∷ Some DisconnectReason.Reset
    ∷ []
    ) b None

-- above 6 is refused (REF-24, REF-32)
abbrev pub disconnect_from : ℕ → Option DisconnectFlags
disconnect_from b = slice_index_or reasons b None
