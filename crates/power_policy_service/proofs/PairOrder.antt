-- One of the three cases always holds, and each gives its own value of the comparison, so that each value comes from its own case alone.
-- Assumes nothing.
use Rattle.std.specs.Prelude.{◌≡◌, ℕ, ◌<◌, Bool, true, false, ◌⊎◌}
use Rattle.std.proofs.Common.{arith}
use Rattle.std.proofs.lemmas.Grind.{common_steps}
use Rattle.power_policy_interface.specs.Order.{cmp_nat, cmp_bool, then_with}
use Rattle.std.specs.declared.cmp.Ordering.{Ordering}
use Rattle.power_policy_interface.proofs.Order.{cmp_less, cmp_greater, cmp_equal}
use Rattle.power_policy_service.specs.Choice.{mw}
use Rattle.power_policy_service.specs.PairOrder.{Exactly, PairOrder}

numbers : (a b : ℕ) → Exactly (cmp_nat a b) (a < b) (a ≡ b) (b < a)
numbers a b = grind (arith, common_steps, cmp_less a b, cmp_equal a b, cmp_greater a b)

bools : (p q : Bool) → Exactly (cmp_bool p q) ((p ≡ false) × (q ≡ true)) (p ≡ q) ((p ≡ true) × (q ≡ false))
bools p q = grind (arith, common_steps)

pairs : (x y : Ordering) → Exactly (then_with x y)
    ((x ≡ Ordering.Less) ⊎ ((x ≡ Ordering.Equal) × (y ≡ Ordering.Less)))
    ((x ≡ Ordering.Equal) × (y ≡ Ordering.Equal))
    ((x ≡ Ordering.Greater) ⊎ ((x ≡ Ordering.Equal) × (y ≡ Ordering.Greater)))
pairs x y = grind (arith, common_steps)

both : (x y : Ordering) {L E G L' E' G' : Type 0} → Exactly x L E G → Exactly y L' E' G' →
    Exactly (then_with x y) (L ⊎ (E × L')) (E × E') (G ⊎ (E × G'))
both x y h k = grind (arith, common_steps, h, k)

pub pair_order : PairOrder
pair_order =
    record {
      numbers = numbers;
      bools = bools;
      pairs = pairs;
      consumers = λ a p b q. both (cmp_nat (mw a) (mw b)) (cmp_bool p q) (numbers (mw a) (mw b)) (bools p q);
    }
