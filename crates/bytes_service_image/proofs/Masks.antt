-- A set of ports below the power of two of their number has 16 bits.
-- Assumes nothing.
use Prim.Native.Nat.{ℕ, ◌^◌, ◌≤◌, ◌<◌}
use native.Mathlib.Nat.{lt_of_lt_of_le}
use lib.Pow.{pow_mono}

pub mask_lt : (ports m : ℕ) → ports ≤ 16 → m < 2 ^ ports → m < 65536
mask_lt ports m h k = lt_of_lt_of_le k (pow_mono h)
