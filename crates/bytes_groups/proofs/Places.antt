-- Lists of bytes at fixed places: parts stored one after the other are stored as one, and a list of bytes below 256 is made of such.
-- Assumes nothing.
use mathlib.Core.Path.{◌≡◌, refl, ap, sym, ◌∙◌}
use mathlib.Core.Bool.{Bool, true, false}
use mathlib.Core.List.{List, [], ◌∷◌, ◌++◌, append_assoc, append-nil}
use Prim.Native.Nat.{ℕ, zero, suc, ◌+◌, ◌-◌, ◌≤◌, ◌<◌, min}
use native.Mathlib.Nat.{add-zero}
use native.Mathlib.Omega.{arith}
use lib.Dec.{leb}
use lib.ListN.{length, set, take, drop, drop_of_length-le, take-append-drop}
use lib.Seq.{sets, sets-eq, set_out, drop-length, length-take-le, length-sets, drop-drop}
use borrow.Author.Tests.{leb-true, leb-false}
use Rattle.interface_records.specs.Row.{AllBytes}
use Rattle.interface_records.proofs.OneRow.{no_bytes}

-- parts stored one after the other (wire has it too: neither crate lies below the other, and none below both stores bytes)

pub sets_append : (vs ws l : List ℕ) (i : ℕ) → sets (sets l i vs) (i + length vs) ws ≡ sets l i (vs ++ ws)
sets_append [] ws l i = rw add-zero
sets_append (v ∷ vs) ws l i =
    let e : i + suc (length vs) ≡ suc i + length vs = omega arith in
    rw e (sets_append vs ws (set l i v) (suc i))

-- a part stored after those that end at place n
pub sets_next : (vs ws l : List ℕ) (n : ℕ) → length vs ≡ n → sets (sets l 0 vs) n ws ≡ sets l 0 (vs ++ ws)
sets_next vs ws l n e =
    let h : 0 + length vs ≡ n = omega arith in
    rw h at (sets_append vs ws l 0)

-- as many as there are places replace all
pub sets_all : (vs l : List ℕ) → length vs ≡ length l → sets l 0 vs ≡ vs
sets_all vs l e =
    let h : 0 + length vs ≤ length l = omega arith in
    let k : 0 + length vs ≡ length l = omega arith in
    sets-eq vs l 0 h ∙ (ap (λ (n : ℕ). vs ++ drop n l) k ∙ (ap (λ (r : List ℕ). vs ++ r) (drop-length l) ∙ append-nil vs))

-- what lies past the end is not stored

pub sets_past : (vs l : List ℕ) (i : ℕ) → length l ≤ i → sets l i vs ≡ l
sets_past [] l i h = refl
sets_past (v ∷ vs) l i h =
    let e : set l i v ≡ l = set_out l i v h in
    let k : length l ≤ suc i = omega arith in
    rw e (sets_past vs l (suc i) k)

-- after as many as fit, nothing is left to store
pub sets_rest : (s l : List ℕ) (at n : ℕ) → min (length s) (length l - at) ≤ n → sets l (at + n) (drop n s) ≡ l
sets_rest s l at n h = by (leb (length s) n) refl
  where
    by : (b : Bool) → leb (length s) n ≡ b → sets l (at + n) (drop n s) ≡ l
    by true e = rw (drop_of_length-le s {i = n} (leb-true (length s) n e))
    by false e =
        let k : n < length s = leb-false (length s) n e in
        sets_past (drop n s) l (at + n) (omega arith)

-- a part stored over a range, as many of its bytes as there are places
pub sets_range : (s l : List ℕ) (at n : ℕ) → n ≡ min (length s) (length l - at) → at + n ≤ length l
    → take at l ++ (take n s ++ drop n (drop at l)) ≡ sets l at s
sets_range s l at n e h =
    let k : length (take n s) ≡ n = length-take-le n s (omega arith) in
    let ht : at + length (take n s) ≤ length l = omega arith in
    let one : sets l at (take n s) ≡ take at l ++ (take n s ++ drop n (drop at l)) =
    rw (drop-drop n at l, ← append_assoc (take at l) (take n s) (drop (at + n) l)) (rw k at (sets-eq (take n s) l at ht)) in
    let two : sets (sets l at (take n s)) (at + n) (drop n s) ≡ sets l at (take n s ++ drop n s) =
    rw k at (sets_append (take n s) (drop n s) l at) in
    let three : sets (sets l at (take n s)) (at + n) (drop n s) ≡ sets l at (take n s) =
    sets_rest s (sets l at (take n s)) at n (rw length-sets (omega arith)) in
    sym one ∙ (sym three ∙ (two ∙ ap (sets l at) (take-append-drop n s)))

-- bytes below 256

pub record Below (s : List ℕ) : Type 0 where
  pub bytes : AllBytes s

pub none : Below []
none = record { bytes = no_bytes }

one_bytes : (x : ℕ) (s : List ℕ) → x < 256 → AllBytes s → AllBytes (x ∷ s)
one_bytes x s h t zero = h
one_bytes x s h t (suc k) = t k

pub one : {x : ℕ} {s : List ℕ} → x < 256 → Below s → Below (x ∷ s)
one {x} {s} h t = record { bytes = one_bytes x s h t.bytes }

both_bytes : (s t : List ℕ) → Below s → Below t → Below (s ++ t)
both_bytes [] t p q = q
both_bytes (x ∷ s) t p q = one (p.bytes 0) (both_bytes s t (record { bytes = λ (k : ℕ). p.bytes (suc k) }) q)

pub both : {s t : List ℕ} → Below s → Below t → Below (s ++ t)
both {s} {t} p q = both_bytes s t p q
