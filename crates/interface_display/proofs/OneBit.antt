-- Setting or clearing one bit leaves the others, so the count changes by that bit.
-- Assumes nothing.
use mathlib.Core.Path.{◌≡◌, refl, ap}
use mathlib.Core.Bool.{Bool, true, false}
use Prim.Native.Nat.{ℕ, zero, suc, ◌+◌, ◌^◌, ◌<◌, ◌≤◌}
use native.Mathlib.Omega.{arith}
use lib.Bits.{bit_or, bit_xor}
use lib.Dec.{eqb}
use borrow.Author.Tests.{eqb-true, eqb-false}
use Rattle.std.proofs.lemmas.Nat.Bits.{bit_at_or, bit_at_xor, bit_at-lt, bit_at-pow_same, bit_at-pow_other}
use Rattle.interface_display.specs.Providers.{bit_at, ones}

-- a bit set, and a bit that was set cleared

pub set_bit : (m p : ℕ) → bit_at (bit_or m (2 ^ p)) p ≡ 1
set_bit m p = omega (arith, bit_at_or m (2 ^ p) p, bit_at-pow_same p, bit_at-lt m p)

pub set_others : (m p i : ℕ) → (i ≡ p → ⊥) → bit_at (bit_or m (2 ^ p)) i ≡ bit_at m i
set_others m p i h = omega (arith, bit_at_or m (2 ^ p) i, bit_at-pow_other p i h)

pub cleared_bit : (m p : ℕ) → bit_at m p ≡ 1 → bit_at (bit_xor m (2 ^ p)) p ≡ 0
cleared_bit m p e = omega (arith, bit_at_xor m (2 ^ p) p, bit_at-pow_same p, e)

pub cleared_others : (m p i : ℕ) → (i ≡ p → ⊥) → bit_at (bit_xor m (2 ^ p)) i ≡ bit_at m i
cleared_others m p i h = omega (arith, bit_at_xor m (2 ^ p) i, bit_at-pow_other p i h, bit_at-lt m i)

-- the counts of two numbers that agree but for bit p

ones_below : (a b p n : ℕ) → ((i : ℕ) → (i ≡ p → ⊥) → bit_at a i ≡ bit_at b i) → n ≤ p → ones a n ≡ ones b n
ones_below a b p zero h l = refl
ones_below a b p (suc n) h l = omega (arith, ones_below a b p n h (omega (arith, l)), h n (λ e. omega (arith, l, e)))

pub ones_but : (a b p n : ℕ) → ((i : ℕ) → (i ≡ p → ⊥) → bit_at a i ≡ bit_at b i) → p < n → ones a n + bit_at b p ≡ ones b n + bit_at a p
ones_but a b p zero h l = absurd (omega (arith, l))
ones_but a b p (suc n) h l = go (eqb n p) refl (ones_but a b p n h)
  where
    go : (t : Bool) → eqb n p ≡ t → (p < n → ones a n + bit_at b p ≡ ones b n + bit_at a p) → ones a n + bit_at a n + bit_at b p ≡ ones b n + bit_at b n + bit_at a p
    go true e ih =
        let q : n ≡ p = eqb-true n p e in
        let x : bit_at a n ≡ bit_at a p = ap (bit_at a) q in
        let y : bit_at b n ≡ bit_at b p = ap (bit_at b) q in
        omega (arith, x, y, ones_below a b p n h (omega (arith, q)))
    go false e ih = omega (arith, h n (eqb-false n p e), ih (omega (arith, l, eqb-false n p e)))
