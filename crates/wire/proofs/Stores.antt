-- Runs of stores, one after the other, are one run; and a number takes 1 to 5 places, at most 3 below 65,536.
-- Assumes nothing.
use mathlib.Core.Path.{◌≡◌, refl, sym, ◌∙◌}
use mathlib.Core.Bool.{Bool, true, false, cond}
use mathlib.Core.List.{List, [], ◌∷◌, ◌++◌}
use Prim.Native.Nat.{ℕ, zero, suc, ◌+◌, ◌-◌, ◌/◌, ◌%◌, ◌≤◌, ◌<◌}
use native.Mathlib.Nat.{add-zero}
use native.Mathlib.Numerals.{add-one}
use native.Mathlib.Omega.{arith}
use lib.Dec.{ltb}
use lib.ListN.{length, set}
use lib.Seq.{sets}
use borrow.Author.Tests.{ltb-false, eq-eqb, ne_eqb}
use Rattle.wire.specs.Number.{digits, leb128}
use Rattle.wire.specs.Bytes.{ports_from}

-- bytes_groups has it too: neither crate lies below the other, and none below both stores bytes
pub sets_append : (vs ws l : List ℕ) (i : ℕ) → sets (sets l i vs) (i + length vs) ws ≡ sets l i (vs ++ ws)
sets_append [] ws l i = rw add-zero
sets_append (v ∷ vs) ws l i =
    let e : i + suc (length vs) ≡ suc i + length vs = omega arith in
    rw e (sets_append vs ws (set l i v) (suc i))

-- how many places a number takes

digits_from : (k n : ℕ) → 1 ≤ length (digits k n)
digits_from zero n = omega arith
digits_from (suc k) n = tested (ltb n 128)
  where
    tested : (t : Bool) → 1 ≤ length (cond t (n ∷ []) ((128 + n % 128) ∷ digits k (n / 128)))
    tested true = omega arith
    tested false = omega arith

digits_to : (k n : ℕ) → length (digits k n) ≤ suc k
digits_to zero n = omega arith
digits_to (suc k) n = tested (ltb n 128) (digits_to k (n / 128))
  where
    tested : (t : Bool) → length (digits k (n / 128)) ≤ suc k
        → length (cond t (n ∷ []) ((128 + n % 128) ∷ digits k (n / 128))) ≤ suc (suc k)
    tested true h = omega arith
    tested false h = omega arith

pub length_from : (n : ℕ) → 1 ≤ length (leb128 n)
unfolding leb128
length_from n = digits_from 4 n

pub length_to : (n : ℕ) → length (leb128 n) ≤ 5
unfolding leb128
length_to n = digits_to 4 n

one_digit : (k n : ℕ) → n < 128 → length (digits k n) ≤ 1
one_digit zero n h = omega arith
one_digit (suc k) n h = tested (ltb n 128) refl
  where
    tested : (t : Bool) → ltb n 128 ≡ t → length (cond t (n ∷ []) ((128 + n % 128) ∷ digits k (n / 128))) ≤ 1
    tested true p = omega arith
    tested false p = absurd (omega (arith, ltb-false n 128 p))

one_more : (k n m : ℕ) → length (digits k (n / 128)) ≤ m → length (digits (suc k) n) ≤ suc m
one_more k n m h = tested (ltb n 128)
  where
    tested : (t : Bool) → length (cond t (n ∷ []) ((128 + n % 128) ∷ digits k (n / 128))) ≤ suc m
    tested true = omega arith
    tested false = omega arith

pub length_short : (n : ℕ) → n < 65536 → length (leb128 n) ≤ 3
unfolding leb128
length_short n h =
    let k : n / 128 / 128 < 128 = omega arith in
    one_more 3 n 2 (one_more 2 (n / 128) 1 (one_digit 2 (n / 128 / 128) k))

-- the ports that are left, from port i on

module _ (i m : ℕ) (h : i < 16) where
  next_port : 16 - i ≡ suc (16 - (i + 1))
  next_port = omega arith

  pub port_set : m % 2 ≡ 1 → ports_from (16 - i) i m ≡ i ∷ ports_from (16 - (i + 1)) (i + 1) (m / 2)
  port_set e = rw (next_port, eq-eqb (m % 2) 1 e, add-one i)

  pub port_clear : (m % 2 ≡ 1 → ⊥) → ports_from (16 - i) i m ≡ ports_from (16 - (i + 1)) (i + 1) (m / 2)
  port_clear e = rw (next_port, ne_eqb (m % 2) 1 e, add-one i)

-- the loop over ports: what is left to store completes what was stored
pub record Left (o : List ℕ) (at : ℕ) (all out : List ℕ) (next i m : ℕ) : Type 0 where
  pub place : next + length (ports_from (16 - i) i m) ≡ at + length all
  pub bytes : sets out next (ports_from (16 - i) i m) ≡ sets o at all

module _ {o all out : List ℕ} {at next i m : ℕ} (h : i < 16) (l : Left o at all out next i m) where
  pub left_set : m % 2 ≡ 1 → Left o at all (set out next i) (next + 1) (i + 1) (m / 2)
  left_set e = record {
    place = omega (arith, rw (port_set i m h e) at l.place);
    bytes = rw (add-one next) (rw (port_set i m h e) at l.bytes);
  }

  pub left_clear : (m % 2 ≡ 1 → ⊥) → Left o at all out next (i + 1) (m / 2)
  left_clear e = record { place = rw (port_clear i m h e) at l.place; bytes = rw (port_clear i m h e) at l.bytes }

pub left_done : {o all out : List ℕ} {at next m : ℕ} → Left o at all out next 16 m → (next ≡ at + length all) × (out ≡ sets o at all)
left_done {o} {all} {out} {at} {next} {m} l = (sym (add-zero next) ∙ l.place, l.bytes)
