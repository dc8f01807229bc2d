-- `cmp_nat` is the order of numbers: by induction on both, since the native comparison takes one off each side.
-- Assumes nothing.
use Rattle.std.specs.Prelude.{◌≡◌, ℕ, zero, suc, ◌<◌}
use mathlib.Core.Path.{ap, ◌∙◌}
use Prim.Native.Nat.compare
use Prim.Native.Nat.{compare}
use native.Mathlib.Nat.{le_of_suc-le-suc, not-suc-le-zero}
use Rattle.power_policy_interface.specs.Order.{cmp_nat, ordering_of}
use Rattle.std.specs.declared.cmp.Ordering.{Ordering}

compare_lt : (a b : ℕ) → a < b → compare a b ≡ Prim.Native.Nat.Ordering.lt
compare_lt a zero h = absurd (not-suc-le-zero h)
compare_lt zero (suc b) h = compare.zero-suc b
compare_lt (suc a) (suc b) h = compare.suc-suc a b ∙ compare_lt a b (le_of_suc-le-suc h)

compare_gt : (a b : ℕ) → b < a → compare a b ≡ Prim.Native.Nat.Ordering.gt
compare_gt zero b h = absurd (not-suc-le-zero h)
compare_gt (suc a) zero h = compare.suc-zero a
compare_gt (suc a) (suc b) h = compare.suc-suc a b ∙ compare_gt a b (le_of_suc-le-suc h)

compare_same : (a : ℕ) → compare a a ≡ Prim.Native.Nat.Ordering.eq
compare_same zero = compare.zero-zero
compare_same (suc a) = compare.suc-suc a a ∙ compare_same a

pub cmp_less : (a b : ℕ) → a < b → cmp_nat a b ≡ Ordering.Less
cmp_less a b h = ap ordering_of (compare_lt a b h)

pub cmp_greater : (a b : ℕ) → b < a → cmp_nat a b ≡ Ordering.Greater
cmp_greater a b h = ap ordering_of (compare_gt a b h)

pub cmp_equal : (a b : ℕ) → a ≡ b → cmp_nat a b ≡ Ordering.Equal
cmp_equal a b e = rw e (ap ordering_of (compare_same b))
