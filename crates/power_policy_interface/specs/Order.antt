-- DEM-2a: Rust's total orders, as its documentation gives them: `Ordering` has three values, numbers have their own order,
-- false is less than true, and pairs are ordered lexicographically.
use Rattle.std.specs.Prelude.{ℕ, Bool, true, false}
use Prim.Native.Nat.{compare}
use Prim.Native.Nat as Native
use Rattle.std.specs.declared.cmp.Ordering.{Ordering}

abbrev pub ordering_of : Native.Ordering → Ordering
ordering_of Prim.Native.Nat.Ordering.lt = Ordering.Less
ordering_of Prim.Native.Nat.Ordering.eq = Ordering.Equal
ordering_of Prim.Native.Nat.Ordering.gt = Ordering.Greater

abbrev pub cmp_nat : ℕ → ℕ → Ordering
cmp_nat a b = ordering_of (compare a b)

abbrev pub cmp_bool : Bool → Bool → Ordering
cmp_bool false false = Ordering.Equal
cmp_bool false true = Ordering.Less
cmp_bool true false = Ordering.Greater
cmp_bool true true = Ordering.Equal

-- the first that is not Equal decides: a pair's order from its parts'
abbrev pub then_with : Ordering → Ordering → Ordering
then_with Ordering.Less o = Ordering.Less
then_with Ordering.Equal o = o
then_with Ordering.Greater o = Ordering.Greater
