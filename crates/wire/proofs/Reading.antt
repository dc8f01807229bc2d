-- A number that is read is within its limit, and its bytes are there.
-- Assumes nothing.
use Rattle.std.specs.Prelude.{Result, Ok, Err}
use mathlib.Core.Path.{◌≡◌, refl}
use mathlib.Core.Bool.{Bool, true, false, cond}
use mathlib.Core.List.{List, [], ◌∷◌}
use Prim.Native.Nat.{ℕ, zero, suc, ◌+◌, ◌-◌, ◌*◌, ◌≤◌}
use native.Mathlib.Omega.{arith}
use lib.Dec.{eqb, leb, ltb}
use lib.ListN.{length}
use borrow.Author.Tests.{leb-true}
use Rattle.wire.specs.Number.{digits_read, digit_before, within, read_number}
use Rattle.wire.proofs.Leb128.{same_number}

abbrev Used : List ℕ → Result (ℕ × ℕ) ℕ → Type 0
Used s (Err n) = Unit {0}
Used s (Ok (v, u)) = u ≤ length s

used_before : (d b : ℕ) (s : List ℕ) (r : Result (ℕ × ℕ) ℕ) → Used s r → Used (b ∷ s) (digit_before d r)
used_before d b s (Err n) h = tt
used_before d b s (Ok (v, u)) h = tested (eqb v 0)
  where
    tested : (t : Bool) → Used (b ∷ s) (cond {A = Result (ℕ × ℕ) ℕ} t (Err 31) (Ok (d + v * 128, suc u)))
    tested true = tt
    tested false = omega arith

used_digits : (k : ℕ) (s : List ℕ) → Used s (digits_read k s)
used_digits k [] = tt
used_digits zero (b ∷ s) = tested (ltb b 128)
  where
    tested : (t : Bool) → Used (b ∷ s) (cond {A = Result (ℕ × ℕ) ℕ} t (Ok (b, 1)) (Err 31))
    tested true = omega arith
    tested false = tt
used_digits (suc k) (b ∷ s) = tested (ltb b 128) (used_before (b - 128) b s (digits_read k s) (used_digits k s))
  where
    tested : (t : Bool) → Used (b ∷ s) (digit_before (b - 128) (digits_read k s))
        → Used (b ∷ s) (cond {A = Result (ℕ × ℕ) ℕ} t (Ok (b, 1)) (digit_before (b - 128) (digits_read k s)))
    tested true h = omega arith
    tested false h = h

number_told : (l : ℕ) (s : List ℕ) (v u : ℕ) (r : Result (ℕ × ℕ) ℕ) → Used s r → within l r ≡ Ok (v, u) → (v ≤ l) × (u ≤ length s)
number_told l s v u (Err n) h e = absurd (cc)
number_told l s v u (Ok (w, x)) h e = tested (leb w l) refl e
  where
    tested : (t : Bool) → leb w l ≡ t → cond {A = Result (ℕ × ℕ) ℕ} t (Ok (w, x)) (Err 31) ≡ Ok (v, u)
        → (v ≤ l) × (u ≤ length s)
    tested true p q =
        let k = same_number w x v u q in
        (omega (arith, leb-true w l p, k.0), omega (arith, k.1))
    tested false p q = absurd (cc)

pub number_bounds : (l : ℕ) (s : List ℕ) (v u : ℕ) → read_number l s ≡ Ok (v, u) → (v ≤ l) × (u ≤ length s)
unfolding read_number
number_bounds l s v u e = number_told l s v u (digits_read 4 s) (used_digits 4 s) e
