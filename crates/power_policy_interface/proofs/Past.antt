-- What the last arm of a `match` on a number knows: the number is none of 0 to k − 1, so it is at least k.
-- Assumes nothing.
use Rattle.std.specs.Prelude.{◌≡◌, ℕ, zero, suc, ◌≤◌}
use mathlib.Core.Path.{sym}
use Prim.Native.Nat.{zero-le}
use lib.Arith.{lt_of_le-ne}

-- n is none of 0 to k − 1, as the arms 0 to k − 1 leave it
abbrev pub Rest : ℕ → ℕ → Type 0
Rest n zero = Unit {0}
Rest n (suc k) = Rest n k × (n ≡ k → ⊥)

pub past : (n k : ℕ) → Rest n k → k ≤ n
past n zero r = zero-le
past n (suc k) r = lt_of_le-ne (past n k r.0) (λ e. r.1 (sym e))
