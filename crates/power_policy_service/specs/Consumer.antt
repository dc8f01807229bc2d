-- UPD-2: the choice of the consumer: the greatest pair (mW, is
-- current) by Rust's order of pairs, the earliest port among equals.
use Rattle.std.specs.Prelude.{ℕ, zero, suc, Bool, true, false, cond, List, leb, eqb, None, Option, Some}
use Rattle.power_policy_interface.specs.Order.{cmp_bool, then_with}
use Rattle.power_policy_interface.specs.Capability.{max_power_mw, cmp_capability}
use Rattle.power_policy_interface.specs.declared.capability.ConsumerPowerCapability.{ConsumerPowerCapability}
use Rattle.interface_display.specs.declared.AvailableConsumer.{AvailableConsumer}
use Rattle.std.specs.declared.cmp.Ordering.{Ordering}
use Rattle.power_policy_interface.specs.declared.psu.State.{State}
use Rattle.power_policy_service.specs.Rows.{psu_at}

-- (capability, is current): pairs in lexicographic order, capabilities by their mW, false below true
abbrev pub cmp_consumer : ConsumerPowerCapability → Bool → ConsumerPowerCapability → Bool → Ordering
cmp_consumer a p b q = then_with (cmp_capability a.capability b.capability) (cmp_bool p q)

abbrev pub meets : Option ℕ → ConsumerPowerCapability → Bool
meets None c = true
meets (Some m) c = leb m (max_power_mw c.capability)

abbrev pub offered : Option ℕ → Option ConsumerPowerCapability → Option ConsumerPowerCapability
offered m None = None
offered m (Some c) =
    cond (meets m c) (Some c) None

-- UPD-1, UPD-3: a port is eligible if its record has a consumer
-- capability and no minimum is set or its mW is at least the minimum
abbrev pub eligible : Option ℕ → State → Option ConsumerPowerCapability
eligible m s = offered m s.consumer_capability

abbrev pub is_current : Option AvailableConsumer → ℕ → Bool
is_current None p = false
is_current (Some c) p = eqb c.psu p

abbrev pub available : ℕ → ConsumerPowerCapability → Option AvailableConsumer
available p c = Some (record { psu = p; consumer_power_capability = c })

abbrev pub replaced : Ordering → Option AvailableConsumer → Option AvailableConsumer → Option AvailableConsumer
replaced Ordering.Less new best = best
replaced Ordering.Equal new best = best
replaced Ordering.Greater new best = new

-- what a port offers replaces the best so far only if it is greater (MIS-5)
abbrev pub better_of : Option AvailableConsumer → Option AvailableConsumer → ℕ → Option ConsumerPowerCapability → Option AvailableConsumer
better_of current best p None = best
better_of current None p (Some c) = available p c
better_of current (Some b) p (Some c) =
    replaced (cmp_consumer c (is_current current p) b.consumer_power_capability (is_current current b.psu)) (available p c)
    (Some b)

-- the best of the first n ports
abbrev pub best_of : Option ℕ → Option AvailableConsumer → List State → ℕ → Option AvailableConsumer
best_of m current psus zero = None
best_of m current psus (suc n) = better_of current (best_of m current psus n) n (eligible m (psu_at psus n))
