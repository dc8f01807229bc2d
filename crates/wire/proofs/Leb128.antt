-- What a number's bytes read to, as the loop of `read` has it: the digits so far before what the bytes from there on read to.
-- Assumes nothing.
use Rattle.std.specs.Prelude.{Result, Ok, Err}
use mathlib.Core.Path.{◌≡◌, refl, ap, ◌∙◌}
use mathlib.Core.Bool.{Bool, true, false, cond, ◌&&◌}
use mathlib.Core.List.{List, ◌∷◌}
use Prim.Native.Nat.{ℕ, zero, suc, ◌+◌, ◌-◌, ◌*◌, ◌%◌, ◌≤◌, ◌<◌}
use native.Mathlib.Nat.{mul-le-mul_left}
use native.Mathlib.Numerals.{add-one}
use native.Mathlib.Omega.{arith}
use lib.Dec.{eqb, ltb}
use lib.ListN.{length, get_or, drop, drop_of_length-le}
use lib.Seq.{drop-cons}
use borrow.Author.Tests.{lt-ltb, le-ltb, ne_eqb, eq-eqb, eqb-true, eqb-false, ltb-true}
use Rattle.wire.specs.Number.{digits_read, digit_before}

-- i digits of value v before what the rest reads to; m is the value of the next digit's 1
abbrev pub after : ℕ → ℕ → ℕ → Result (ℕ × ℕ) ℕ → Result (ℕ × ℕ) ℕ
after i v m (Err n) = Err n
after i v m (Ok (w, u)) = cond (eqb w 0 && ltb 0 i) (Err 31) (Ok (v + w * m, u + i))

-- what at most k more bytes read to
abbrev pub more : ℕ → List ℕ → Result (ℕ × ℕ) ℕ
more zero s = Err 31
more (suc k) s = digits_read k s

digit_more : (i v m d : ℕ) (r : Result (ℕ × ℕ) ℕ) → after i v m (digit_before d r) ≡ after (i + 1) (v + d * m) (m * 128) r
digit_more i v m d (Err n) = refl
digit_more i v m d (Ok (w, x)) = tested (eqb w 0) refl
  where
    tested : (t : Bool) → eqb w 0 ≡ t
        → after i v m (cond {A = Result (ℕ × ℕ) ℕ} t (Err 31) (Ok (d + w * 128, suc x)))
        ≡ cond {A = Result (ℕ × ℕ) ℕ} (t && ltb 0 (i + 1)) (Err 31) (Ok (v + d * m + w * (m * 128), x + (i + 1)))
    tested true p =
        let l : 0 < i + 1 = omega arith in
        rw (lt-ltb 0 (i + 1) l)
    tested false p =
        let n : d + w * 128 ≡ 0 → ⊥ = omega (arith, eqb-false w 0 p) in
        let a : v + (d + w * 128) * m ≡ v + d * m + w * (m * 128) = omega arith in
        let b : suc x + i ≡ x + (i + 1) = omega arith in
        rw (ne_eqb (d + w * 128) 0 n, a, b)

-- a turn of the loop: what all reads to, by the byte at place i

module _ (s : List ℕ) (i v m : ℕ) (r : Result (ℕ × ℕ) ℕ) (e : r ≡ after i v m (more (5 - i) (drop i s))) where
  -- five were read
  pub endless : 5 ≤ i → r ≡ Err 31
  endless h =
      let z : 5 - i ≡ 0 = omega arith in
      e ∙ rw z

  module _ (h : i < 5) where
    turn : r ≡ after i v m (digits_read (4 - i) (drop i s))
    turn =
        let z : 5 - i ≡ suc (4 - i) = omega arith in
        e ∙ rw z

    -- there is none
    pub cut : length s ≤ i → r ≡ Err 30
    cut g = turn ∙ rw (drop_of_length-le s g)

    module _ (g : i < length s) (b : ℕ) (f : b ≡ get_or s i 0) where
      here : drop i s ≡ b ∷ drop (i + 1) s
      here = rw (add-one i, f) (drop-cons s i 0 g)

      last : b < 128 → (n : ℕ) → digits_read n (drop i s) ≡ Ok (b, 1)
      last p zero = rw (here, lt-ltb b 128 p)
      last p (suc n) = rw (here, lt-ltb b 128 p)

      -- it is the last, 0 after others
      pub ends_in_zero : b ≡ 0 → 0 < i → r ≡ Err 31
      ends_in_zero z k =
          let p : b < 128 = omega arith in
          turn ∙ rw (last p (4 - i), eq-eqb b 0 z, lt-ltb 0 i k)

      -- it is the last
      pub ends : (d : ℕ) → b < 128 → d ≡ b % 128 → (b ≡ 0 → 0 < i → ⊥) → r ≡ Ok (v + d * m, i + 1)
      ends d p q k =
          let x : d ≡ b = omega arith in
          let z : 1 + i ≡ i + 1 = omega arith in
          turn ∙ rw (last p (4 - i), x, z) (tested (eqb b 0) (ltb 0 i) refl refl)
        where
          tested : (x y : Bool) → eqb b 0 ≡ x → ltb 0 i ≡ y
              → cond {A = Result (ℕ × ℕ) ℕ} (x && y) (Err 31) (Ok (v + b * m, i + 1)) ≡ Ok (v + b * m, i + 1)
          tested true true q r = absurd (k (eqb-true b 0 q) (ltb-true 0 i r))
          tested true false q r = refl
          tested false y q r = refl

      -- it is not the last
      pub goes_on : (d : ℕ) → 128 ≤ b → b < 256 → d ≡ b % 128 → r ≡ after (i + 1) (v + d * m) (m * 128) (more (5 - (i + 1)) (drop (i + 1) s))
      goes_on d p w q =
          let x : d ≡ b - 128 = omega arith in
          let z : 5 - (i + 1) ≡ 4 - i = omega arith in
          turn ∙ rw (x, z) (tested (4 - i))
        where
          tested : (n : ℕ) → after i v m (digits_read n (drop i s)) ≡ after (i + 1) (v + (b - 128) * m) (m * 128) (more n (drop (i + 1) s))
          tested zero = rw (here, le-ltb b 128 p)
          tested (suc n) = rw (here, le-ltb b 128 p) (digit_more i v m (b - 128) (digits_read n (drop (i + 1) s)))

-- a digit more stays below the next digit's 1
pub below_next : (v d m : ℕ) → d ≤ 127 → v < m → v + d * m < m * 128
below_next v d m h k = omega (arith, mul-le-mul_left m h)

pub same_number : (v u w x : ℕ) → ◌≡◌ {A = Result (ℕ × ℕ) ℕ} (Ok (v, u)) (Ok (w, x)) → (v ≡ w) × (u ≡ x)
same_number v u w x e =
    let p : ◌≡◌ {A = ℕ × ℕ} (v, u) (w, x) = cc in
    (ap (λ (q : ℕ × ℕ). q.0) p, ap (λ (q : ℕ × ℕ). q.1) p)
