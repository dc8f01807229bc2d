-- A set of ports is below the power of two of their number: the shift by that number leaves 0.
-- Assumes nothing.
use mathlib.Core.Path.{◌≡◌, refl}
use mathlib.Core.Bool.{Bool, true, false}
use Prim.Native.Nat.{ℕ, ◌*◌, ◌/◌, ◌^◌, ◌≤◌, ◌<◌}
use native.Mathlib.Nat.{lt_of_lt_of_le, div-lt_iff_lt-mul}
use native.Mathlib.Omega.{arith}
use lib.Dec.{ltb, eqb}
use lib.Pow.{pow_pos, pow_mono}
use borrow.Author.Tests.{lt-ltb, le-ltb, eqb-true, eqb-false}

-- every port may be tracked
pub mask_all : (ports m : ℕ) → 16 ≤ ports → m < 65536 → ltb m (2 ^ ports) ≡ true
mask_all ports m h k = lt-ltb m (2 ^ ports) (lt_of_lt_of_le k (pow_mono h))

pub mask_in : (ports m : ℕ) → m / 2 ^ ports ≡ 0 → ltb m (2 ^ ports) ≡ true
mask_in ports m e =
    let k : m / 2 ^ ports < 1 = omega arith in
    lt-ltb m (2 ^ ports) (omega (arith, (div-lt_iff_lt-mul {y = 1} (pow_pos ports)).0 k))

pub mask_out : (ports m : ℕ) → (m / 2 ^ ports ≡ 0 → ⊥) → ltb m (2 ^ ports) ≡ false
mask_out ports m e = le-ltb m (2 ^ ports) (absurd-lt (2 ^ ports) m (λ h. e (div-zero h)))
  where
    div-zero : m < 2 ^ ports → m / 2 ^ ports ≡ 0
    div-zero h =
        let k : m < 1 * 2 ^ ports = omega arith in
        omega (arith, (div-lt_iff_lt-mul {y = 1} (pow_pos ports)).1 k)

    absurd-lt : (a b : ℕ) → (b < a → ⊥) → a ≤ b
    absurd-lt a b f = omega (arith, f)

pub mask_tested : (ports m : ℕ) → ltb m (2 ^ ports) ≡ eqb (m / 2 ^ ports) 0
mask_tested ports m = go (eqb (m / 2 ^ ports) 0) refl
  where
    go : (t : Bool) → eqb (m / 2 ^ ports) 0 ≡ t → ltb m (2 ^ ports) ≡ t
    go true e = mask_in ports m (eqb-true (m / 2 ^ ports) 0 e)
    go false e = mask_out ports m (eqb-false (m / 2 ^ ports) 0 e)
