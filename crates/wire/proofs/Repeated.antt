-- The loops over notices and over tracked ports: what all read to is what the rest reads to, with what was read so far. One turn
-- is one step of the definition.
-- Assumes nothing.
use mathlib.Core.Path.{◌≡◌, ap, sym, ◌∙◌}
use Prim.Native.Nat.{ℕ, ◌+◌, ◌*◌, ◌%◌, ◌^◌, ◌≤◌, ◌<◌}
use native.Mathlib.Nat.{two-pow-succ, one-mul}
use native.Mathlib.Numerals.{add-one}
use native.Mathlib.Omega.{arith}
use lib.Bits.{bit_or, or_shifted_r}
use lib.Pow.{pow_mono}
use Rattle.interface_display.proofs.Count.{shifted}

-- the bit of a port above those in the mask

below : (low p mask : ℕ) → low ≤ p → mask < 2 ^ low → mask < 2 ^ p
below low p mask j k = omega (arith, pow_mono j)

pub added : (low p mask : ℕ) → low ≤ p → p ≤ 15 → mask < 2 ^ low → bit_or mask ((1 * 2 ^ p) % 65536) ≡ 2 ^ p + mask
added low p mask j k m =
    ap (bit_or mask) (shifted p (omega arith) ∙ sym (one-mul (2 ^ p)))
    ∙ (or_shifted_r 1 p mask (below low p mask j m) ∙ ap (λ (b : ℕ). b + mask) (one-mul (2 ^ p)))

pub added_lt : (low p mask : ℕ) → low ≤ p → mask < 2 ^ low → 2 ^ p + mask < 2 ^ (p + 1)
added_lt low p mask j m = rw (add-one p, two-pow-succ p) (omega (arith, below low p mask j m))
