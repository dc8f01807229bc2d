-- The digits of a number, over any number of them: what they come to when they are read, that the first is a digit, and how many there are.
-- Assumes nothing.
use mathlib.Core.Path.{◌≡◌, refl, ap, ◌∙◌}
use mathlib.Core.Bool.{Bool, true, false, cond}
use mathlib.Core.List.{List, [], ◌∷◌, ◌++◌}
use Prim.Native.Nat.{ℕ, zero, suc, ◌+◌, ◌*◌, ◌-◌, ◌/◌, ◌%◌, ◌^◌, ◌≤◌, ◌<◌}
use native.Mathlib.Nat.{pow-suc}
use native.Mathlib.Omega.{arith}
use lib.Dec.{ltb}
use lib.ListN.{length, length-append}
use lib.Seq.{append_snoc}
use borrow.Author.Tests.{ltb-true, lt-ltb, ne_eqb}
use Rattle.abstract_page.specs.Text.{comma, digits, decimal}
use Rattle.abstract_page.specs.ReadPage.{read_numbers}

-- a digit is read
digit_read : (m d : ℕ) (s : List ℕ) → read_numbers m ((48 + d) ∷ s) ≡ read_numbers (10 * m + d) s
digit_read m d s =
    let h : 48 + d ≡ comma → ⊥ = λ e. omega arith in
    let z : 48 + d - 48 ≡ d = omega arith in
    rw (ne_eqb (48 + d) comma h, z)

-- the digits of n are read as n
digits_read_lem : (k n : ℕ) (s : List ℕ) → n < 10 ^ k → read_numbers 0 (digits k n ++ s) ≡ read_numbers n s
digits_read_lem zero n s h = let z : n ≡ 0 = omega arith in rw z
digits_read_lem (suc k) n s h = tested (ltb n 10) refl (digits_read_lem k (n / 10))
  where
    tested : (t : Bool) → ltb n 10 ≡ t → ((r : List ℕ) → n / 10 < 10 ^ k → read_numbers 0 (digits k (n / 10) ++ r) ≡ read_numbers (n / 10) r)
        → read_numbers 0 (cond t [] (digits k (n / 10)) ++ ((48 + n % 10) ∷ []) ++ s) ≡ read_numbers n s
    tested true e ih =
        let z : 10 * 0 + n % 10 ≡ n = omega (arith, ltb-true n 10 e) in
        digit_read 0 (n % 10) s ∙ ap (λ (m : ℕ). read_numbers m s) z
    tested false e ih =
        let p : n / 10 < 10 ^ k = omega (arith, rw (pow-suc 10 k) at h) in
        let z : 10 * (n / 10) + n % 10 ≡ n = omega arith in
        rw (append_snoc (digits k (n / 10)) (48 + n % 10) s)
        (ih ((48 + n % 10) ∷ s) p ∙ (digit_read (n / 10) (n % 10) s ∙ ap (λ (m : ℕ). read_numbers m s) z))

pub decimal_read : (n : ℕ) (s : List ℕ) → n < 10 ^ 20 → read_numbers 0 (decimal n ++ s) ≡ read_numbers n s
unfolding decimal
decimal_read n s h = digits_read_lem 20 n s h

-- it begins with a digit
pub record Begins (s : List ℕ) : Type 0 where
  pub first : ℕ
  pub rest : List ℕ
  pub is : s ≡ first ∷ rest
  pub least : 48 ≤ first
  pub most : first ≤ 57

pub begins_more : (s t : List ℕ) → Begins s → Begins (s ++ t)
begins_more s t b = record { first = b.first; rest = b.rest ++ t; is = ap (λ (l : List ℕ). l ++ t) b.is; least = b.least; most = b.most }

digits_begin : (k n : ℕ) → Begins (digits (suc k) n)
digits_begin zero n = alone (ltb n 10)
  where
    alone : (t : Bool) → Begins (cond t [] [] ++ ((48 + n % 10) ∷ []))
    alone true = record { first = 48 + n % 10; rest = []; is = refl; least = omega arith; most = omega arith }
    alone false = record { first = 48 + n % 10; rest = []; is = refl; least = omega arith; most = omega arith }
digits_begin (suc k) n = tested (ltb n 10) (digits_begin k (n / 10))
  where
    tested : (t : Bool) → Begins (digits (suc k) (n / 10)) → Begins (cond t [] (digits (suc k) (n / 10)) ++ ((48 + n % 10) ∷ []))
    tested true b = record { first = 48 + n % 10; rest = []; is = refl; least = omega arith; most = omega arith }
    tested false b = begins_more (digits (suc k) (n / 10)) ((48 + n % 10) ∷ []) b

pub decimal_begins : (n : ℕ) → Begins (decimal n)
unfolding decimal
decimal_begins n = digits_begin 19 n

-- as many as there are at most
digits_to : (k n : ℕ) → length (digits k n) ≤ k
digits_to zero n = omega arith
digits_to (suc k) n = tested (ltb n 10) (digits_to k (n / 10))
  where
    tested : (t : Bool) → length (digits k (n / 10)) ≤ k
        → length (cond t [] (digits k (n / 10)) ++ ((48 + n % 10) ∷ [])) ≤ suc k
    tested true h = omega arith
    tested false h = omega (arith, length-append (digits k (n / 10)) ((48 + n % 10) ∷ []))

pub length_to : (n : ℕ) → length (decimal n) ≤ 20
unfolding decimal
length_to n = digits_to 20 n

-- and fewer below a power of ten
digits_short : (j k n : ℕ) → n < 10 ^ suc j → length (digits k n) ≤ suc j
digits_short j zero n h = omega arith
digits_short zero (suc k) n h =
    let p : n < 10 = omega (arith, rw (pow-suc 10 0) at h) in
    rw (lt-ltb n 10 p) (omega arith)
digits_short (suc j) (suc k) n h = tested (ltb n 10) (digits_short j k (n / 10) (omega (arith, rw (pow-suc 10 (suc j)) at h)))
  where
    tested : (t : Bool) → length (digits k (n / 10)) ≤ suc j
        → length (cond t [] (digits k (n / 10)) ++ ((48 + n % 10) ∷ [])) ≤ suc (suc j)
    tested true p = omega arith
    tested false p = omega (arith, length-append (digits k (n / 10)) ((48 + n % 10) ∷ []))

pub length_short : (j n : ℕ) → n < 10 ^ suc j → length (decimal n) ≤ suc j
unfolding decimal
length_short j n h = digits_short j 20 n h
