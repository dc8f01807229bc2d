-- The choice as DEM-2c says it: none if no port is eligible; else an eligible port such that no eligible port has more milliwatts, and of
-- equals the current one, else the earliest. That this is what the order of pairs gives is in proofs/Choice.antt.
use Rattle.std.specs.Prelude.{ℕ, ◌<◌, ◌≤◌, true, false, List, ◌⊎◌, ◌≡◌, None, Option, Some}
use Rattle.power_policy_interface.specs.Capability.{max_power_mw}
use Rattle.power_policy_interface.specs.declared.capability.ConsumerPowerCapability.{ConsumerPowerCapability}
use Rattle.power_policy_interface.specs.declared.psu.State.{State}
use Rattle.interface_display.specs.declared.AvailableConsumer.{AvailableConsumer}
use Rattle.power_policy_service.specs.Consumer.{eligible, is_current}
use Rattle.power_policy_service.specs.Rows.{psu_at}

abbrev pub mw : ConsumerPowerCapability → ℕ
mw c = max_power_mw c.capability

module _ (minimum : Option ℕ) (current : Option AvailableConsumer) (psus : List State) (ports : ℕ) where
  -- port p is registered and eligible with this capability
  pub record Eligible (p : ℕ) (d : ConsumerPowerCapability) : Type 0 where
    pub registered : p < ports
    pub offered : eligible minimum (psu_at psus p) ≡ Some d

  pub record Best (c : AvailableConsumer) : Type 0 where
    pub offer : Eligible c.psu c.consumer_power_capability
    -- no eligible port has more milliwatts
    pub most : (p : ℕ) (d : ConsumerPowerCapability) → Eligible p d → mw d ≤ mw c.consumer_power_capability
    -- of those with as many it is the current one, or none of them is and it is the earliest
    pub first :
        (p : ℕ) (d : ConsumerPowerCapability) → Eligible p d → mw d ≡ mw c.consumer_power_capability →
        (is_current current c.psu ≡ true) ⊎ ((is_current current p ≡ false) × (c.psu ≤ p))

  abbrev pub Chosen : Option AvailableConsumer → Type 0
  Chosen None =
      (p : ℕ) → p < ports → eligible minimum (psu_at psus p) ≡ None
  Chosen (Some c) = Best c
