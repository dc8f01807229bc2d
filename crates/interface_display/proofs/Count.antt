-- A bit is 0 or 1; so many bits are at most their number, and the library counts them alike; and 1 shifted left by a port's number,
-- below 16, is not cut.
-- Assumes nothing.
use mathlib.Core.Path.{◌≡◌, refl, ap, sym, ◌∙◌}
use Prim.Native.Nat.{ℕ, zero, suc, ◌+◌, ◌*◌, ◌/◌, ◌%◌, ◌^◌, ◌≤◌, ◌<◌, zero-le}
use native.Mathlib.Nat.{mod-lt, mod-eq_of_lt, mod-one}
use native.Mathlib.Numerals.{add-one}
use native.Mathlib.Omega.{arith}
use lib.Bits.{bit_and, and_mask}
use lib.Count.{ones_cat, ones_step}
use Rattle.std.specs.Prelude.{count_ones}
use Rattle.std.proofs.lemmas.Nat.Bits.{bit_at-lt}
use Rattle.std.proofs.lemmas.Nat.{one_shl, ones_le_self, mod-pow-add, pow_pos}
use Rattle.interface_display.specs.Providers.{bit_at, ones}

pub bit_le : (m p : ℕ) → bit_at m p ≤ 1
bit_le m p = omega (arith, bit_at-lt m p)

pub ones_le : (m n : ℕ) → ones m n ≤ n
ones_le m zero = zero-le
ones_le m (suc n) = omega (arith, ones_le m n, bit_le m n)

-- bit 0 of a shift to the right is the bit
pub tested : (m p : ℕ) → bit_and (m / 2 ^ p) 1 ≡ bit_at m p
tested m p = and_mask (m / 2 ^ p) 1

pub ones_next : (m i : ℕ) → ones m (i + 1) ≡ ones m i + bit_at m i
ones_next m i = rw add-one refl

pub shifted : (p : ℕ) → p < 16 → (1 * 2 ^ p) % 65536 ≡ 2 ^ p
shifted p h = one_shl p 16 h

-- the library's count of the bits that are set is that of the first 16

one_bit : (b : ℕ) → b < 2 → count_ones b ≡ b
one_bit zero h = omega (arith, ones_le_self 0)
one_bit (suc zero) h = omega (arith, ones_step 1, ones_le_self 0)
one_bit (suc (suc b)) h = absurd (omega (arith, h))

low_ones : (m n : ℕ) → count_ones (m % 2 ^ n) ≡ ones m n
low_ones m zero = ap count_ones (mod-one m) ∙ omega (arith, ones_le_self 0)
low_ones m (suc n) =
    let e : m % 2 ^ (1 + n) ≡ bit_at m n * 2 ^ n + m % 2 ^ n = mod-pow-add m 1 n in
    let c : count_ones (bit_at m n * 2 ^ n + m % 2 ^ n) ≡ count_ones (bit_at m n) + count_ones (m % 2 ^ n) =
    ones_cat n (bit_at m n) (m % 2 ^ n) (mod-lt m (pow_pos n)) in
    let s : suc n ≡ 1 + n = omega arith in
    ap count_ones (ap (λ (k : ℕ). m % 2 ^ k) s ∙ e) ∙ (c ∙ omega (arith, one_bit (bit_at m n) (bit_at-lt m n), low_ones m n))

pub ones_counted : (m : ℕ) → m < 2 ^ 16 → count_ones m ≡ ones m 16
ones_counted m h = ap count_ones (sym (mod-eq_of_lt h)) ∙ low_ones m 16
