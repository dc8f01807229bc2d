-- DEM-2a: what Rust's documentation says of the order of numbers, of bool and of
-- pairs, and that the choice compares by it. Proved in proofs/PairOrder.antt.
use Rattle.std.specs.Prelude.{ℕ, ◌<◌, Bool, true, false, ◌↔◌, ◌⊎◌, ◌≡◌}
use Rattle.power_policy_interface.specs.Order.{cmp_nat, cmp_bool, then_with}
use Rattle.power_policy_interface.specs.declared.capability.ConsumerPowerCapability.{ConsumerPowerCapability}
use Rattle.std.specs.declared.cmp.Ordering.{Ordering}
use Rattle.power_policy_service.specs.Choice.{mw}
use Rattle.power_policy_service.specs.Consumer.{cmp_consumer}

-- each of the three exactly if this holds
pub record Exactly (o : Ordering) (Less Equal Greater : Type 0) : Type 0 where
  pub less : (o ≡ Ordering.Less) ↔ Less
  pub equal : (o ≡ Ordering.Equal) ↔ Equal
  pub greater : (o ≡ Ordering.Greater) ↔ Greater

pub record PairOrder : Type 0 where
  pub numbers : (a b : ℕ) → Exactly (cmp_nat a b) (a < b) (a ≡ b) (b < a)
  -- false before true
  pub bools : (p q : Bool) → Exactly (cmp_bool p q) ((p ≡ false) × (q ≡ true)) (p ≡ q) ((p ≡ true) × (q ≡ false))
  -- a pair by its first part, and where these are equal by its second: x compares the first parts, y the second
  pub pairs : (x y : Ordering) → Exactly (then_with x y)
      ((x ≡ Ordering.Less) ⊎ ((x ≡ Ordering.Equal) × (y ≡ Ordering.Less)))
      ((x ≡ Ordering.Equal) × (y ≡ Ordering.Equal))
      ((x ≡ Ordering.Greater) ⊎ ((x ≡ Ordering.Equal) × (y ≡ Ordering.Greater)))
  -- the pairs (mW, is current) of the choice
  pub consumers : (a : ConsumerPowerCapability) (p : Bool) (b : ConsumerPowerCapability) (q : Bool) → Exactly (cmp_consumer a p b q)
      ((mw a < mw b) ⊎ ((mw a ≡ mw b) × ((p ≡ false) × (q ≡ true))))
      ((mw a ≡ mw b) × (p ≡ q))
      ((mw b < mw a) ⊎ ((mw a ≡ mw b) × ((p ≡ true) × (q ≡ false))))
