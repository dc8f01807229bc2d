-- A number has one encoding: its digits are read back to it, whatever follows them, and bytes that are read are its digits. By
-- induction on the number of digits: n is n % 128 and n / 128 · 128.
-- Assumes nothing.
use Rattle.std.specs.Prelude.{Result, Ok, Err}
use mathlib.Core.Path.{◌≡◌, refl, ap, sym}
use mathlib.Core.Bool.{Bool, true, false, cond}
use mathlib.Core.List.{List, [], ◌∷◌, ◌++◌}
use Prim.Native.Nat.{ℕ, zero, suc, ◌+◌, ◌-◌, ◌*◌, ◌/◌, ◌%◌, ◌≤◌, ◌<◌}
use native.Mathlib.Omega.{arith}
use lib.Dec.{eqb, leb, ltb}
use lib.ListN.{length, get_or, drop}
use lib.Seq.{drop_at}
use borrow.Author.Tests.{lt-ltb, le-ltb, le-leb, ne_eqb, ltb-false, eqb-false}
use Rattle.wire.specs.Number.{digits, leb128, digits_read, digit_before, within, read_number}
use Rattle.wire.specs.Parser.{parsed, number}
use Rattle.wire.proofs.Leb128.{same_number}
use Rattle.wire.proofs.Stores.{length_from, length_to}

-- every element is a byte
abbrev pub AllBytes : List ℕ → Type 0
AllBytes s = (k : ℕ) → get_or s k 0 < 256

pub tail_bytes : (b : ℕ) (s : List ℕ) → AllBytes (b ∷ s) → AllBytes s
tail_bytes b s h k = h (suc k)

-- n has at most k digits before the last
abbrev Few : ℕ → ℕ → Type 0
Few zero n = n < 128
Few (suc k) n = Few k (n / 128)

-- reading what was written

digits_back : (k n : ℕ) (r : List ℕ) → Few k n → digits_read k (digits k n ++ r) ≡ Ok (n, length (digits k n))
digits_back zero n r h = rw (lt-ltb n 128 h)
digits_back (suc k) n r h = tested (ltb n 128) refl (digits_back k (n / 128) r h)
  where
    tested : (t : Bool) → ltb n 128 ≡ t
        → digits_read k (digits k (n / 128) ++ r) ≡ Ok (n / 128, length (digits k (n / 128)))
        → digits_read (suc k) (cond t (n ∷ []) ((128 + n % 128) ∷ digits k (n / 128)) ++ r)
        ≡ Ok (n, length (cond t (n ∷ []) ((128 + n % 128) ∷ digits k (n / 128))))
    tested true p q = rw p
    tested false p q =
        let g : 128 ≤ n = ltb-false n 128 p in
        let a : 128 ≤ 128 + n % 128 = omega arith in
        let b : n / 128 ≡ 0 → ⊥ = omega arith in
        let e : 128 + n % 128 - 128 + n / 128 * 128 ≡ n = omega arith in
        rw (le-ltb (128 + n % 128) 128 a, q, ne_eqb (n / 128) 0 b, e)

few : (n : ℕ) → n ≤ 4294967295 → Few 4 n
few n h = omega arith

pub read_write : (limit n : ℕ) (r : List ℕ) → n ≤ limit → n ≤ 4294967295
    → read_number limit (leb128 n ++ r) ≡ Ok (n, length (leb128 n))
unfolding leb128 read_number
read_write limit n r h g = rw (digits_back 4 n r (few n g), le-leb n limit h)

pub number_back : (limit n : ℕ) (r : List ℕ) → n ≤ limit → n ≤ 4294967295 → number limit (leb128 n ++ r) ≡ parsed n r
unfolding number
number_back limit n r h g = rw (read_write limit n r h g, drop_at (leb128 n) r (length (leb128 n)) refl)

-- what was read was written so

record Before (d : ℕ) (r : Result (ℕ × ℕ) ℕ) (v u : ℕ) : Type 0 where
  value : ℕ
  used : ℕ
  read : r ≡ Ok (value, used)
  positive : value ≡ 0 → ⊥
  sum : v ≡ d + value * 128
  more : u ≡ suc used

before_told : (d : ℕ) (r : Result (ℕ × ℕ) ℕ) (v u : ℕ) → digit_before d r ≡ Ok (v, u) → Before d r v u
before_told d (Err n) v u e = absurd (cc)
before_told d (Ok (w, x)) v u e = tested (eqb w 0) refl e
  where
    tested : (t : Bool) → eqb w 0 ≡ t → cond {A = Result (ℕ × ℕ) ℕ} t (Err 31) (Ok (d + w * 128, suc x)) ≡ Ok (v, u)
        → Before d (Ok (w, x)) v u
    tested true p q = absurd (cc)
    tested false p q =
        let k = same_number v u (d + w * 128) (suc x) (sym q) in
        record { value = w; used = x; read = refl; positive = eqb-false w 0 p; sum = k.0; more = k.1 }

pub record Written (k : ℕ) (s : List ℕ) (v u : ℕ) : Type 0 where
  pub bytes : s ≡ digits k v ++ drop u s

digit_more : (k b v u w x : ℕ) (s : List ℕ) → 128 ≤ v → 128 + v % 128 ≡ b → v / 128 ≡ w → u ≡ suc x → s ≡ digits k w ++ drop x s
    → Written (suc k) (b ∷ s) v u
digit_more k b v u w x s d m n g q = record { bytes = rw (le-ltb v 128 d, m, n, g) (ap (λ (l : List ℕ). b ∷ l) q) }

digits_forth : (k : ℕ) (s : List ℕ) (v u : ℕ) → AllBytes s → digits_read k s ≡ Ok (v, u) → Written k s v u
digits_forth k [] v u h e = absurd (cc)
digits_forth zero (b ∷ s) v u h e = tested (ltb b 128) e
  where
    tested : (t : Bool) → cond {A = Result (ℕ × ℕ) ℕ} t (Ok (b, 1)) (Err 31) ≡ Ok (v, u) → Written zero (b ∷ s) v u
    tested true q =
        let k = same_number v u b 1 (sym q) in
        record { bytes = rw (k.0, k.1) }
    tested false q = absurd (cc)
digits_forth (suc k) (b ∷ s) v u h e = tested (ltb b 128) refl e (λ w x. digits_forth k s w x (tail_bytes b s h))
  where
    tested : (t : Bool) → ltb b 128 ≡ t
        → cond {A = Result (ℕ × ℕ) ℕ} t (Ok (b, 1)) (digit_before (b - 128) (digits_read k s)) ≡ Ok (v, u)
        → ((w x : ℕ) → digits_read k s ≡ Ok (w, x) → Written k s w x)
        → Written (suc k) (b ∷ s) v u
    tested true p q ih =
        let k = same_number v u b 1 (sym q) in
        record { bytes = rw (k.0, k.1, p) }
    tested false p q ih =
        let t = before_told (b - 128) (digits_read k s) v u q in
        let w = t.value in
        let a : 128 ≤ b = ltb-false b 128 p in
        let c : b < 256 = h 0 in
        let d : 128 ≤ v = omega (arith, t.sum, t.positive) in
        let m : 128 + v % 128 ≡ b = omega (arith, t.sum) in
        let n : v / 128 ≡ w = omega (arith, t.sum) in
        digit_more k b v u w t.used s d m n t.more (ih w t.used t.read).bytes

within_told : (limit : ℕ) (r : Result (ℕ × ℕ) ℕ) (v u : ℕ) → within limit r ≡ Ok (v, u) → r ≡ Ok (v, u)
within_told limit (Err n) v u e = absurd (cc)
within_told limit (Ok (w, x)) v u e = tested (leb w limit) e
  where
    tested : (t : Bool) → cond {A = Result (ℕ × ℕ) ℕ} t (Ok (w, x)) (Err 31) ≡ Ok (v, u)
        → ◌≡◌ {A = Result (ℕ × ℕ) ℕ} (Ok (w, x)) (Ok (v, u))
    tested true q = q
    tested false q = absurd (cc)

pub write_read : (limit : ℕ) (s : List ℕ) (v u : ℕ) → AllBytes s → read_number limit s ≡ Ok (v, u) → s ≡ leb128 v ++ drop u s
unfolding leb128 read_number
write_read limit s v u h e = (digits_forth 4 s v u h (within_told limit (digits_read 4 s) v u e)).bytes

-- a number takes 1 to 5 bytes
pub length_bounds : (n : ℕ) → (1 ≤ length (leb128 n)) × (length (leb128 n) ≤ 5)
length_bounds n = (length_from n, length_to n)

-- P11: 128 is 80 01, 300 is AC 02, 80 00 is refused 31

pub p11_128 : leb128 128 ≡ 0x80 ∷ 0x01 ∷ []
unfolding leb128
p11_128 = refl

pub p11_300 : leb128 300 ≡ 0xAC ∷ 0x02 ∷ []
unfolding leb128
p11_300 = refl

pub p11_refused : (limit : ℕ) (r : List ℕ) → read_number limit (0x80 ∷ 0x00 ∷ r) ≡ Err 31
unfolding read_number
p11_refused limit r = refl
