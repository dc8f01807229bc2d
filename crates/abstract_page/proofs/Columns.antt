-- A text in its columns: as many bytes as columns; at the right one byte more comes before the text, and the blanks are trimmed off.
-- Assumes nothing.
use mathlib.Core.Path.{◌≡◌, refl, ap, sym, ◌∙◌}
use mathlib.Core.List.{List, ◌∷◌, ◌++◌}
use Prim.Native.Nat.{ℕ, zero, suc, ◌+◌, ◌-◌, ◌≤◌}
use native.Mathlib.Omega.{arith}
use lib.ListN.{length, drop, set, replicate, length-append, length-drop, length-replicate, replicate-append-replicate}
use lib.Seq.{length-take-le, drop_at, drop-append-le, drop-append-add}
use Rattle.abstract_page.specs.Text.{blank, left, right}
use Rattle.abstract_page.specs.ReadPage.{trim_front}

pub left_length : (k : ℕ) (s : List ℕ) → length (left k s) ≡ k
unfolding left
left_length k s = length-take-le k (s ++ replicate k blank) (omega (arith, length-append s (replicate k blank), length-replicate k blank))

pub right_length : (k : ℕ) (s : List ℕ) → length (right k s) ≡ k
unfolding right
right_length k s =
    omega (arith, length-drop (length s) (replicate k blank ++ s), length-append (replicate k blank) s, length-replicate k blank)

-- a text that its columns hold
pub right_short : (m k : ℕ) (s : List ℕ) → m + length s ≡ k → right k s ≡ replicate m blank ++ s
unfolding right
right_short m k s e =
    let z : length s + m ≡ k = omega arith in
    let l = length-append (replicate (length s) blank) (replicate m blank) in
    let p : replicate k blank ≡ replicate (length s) blank ++ replicate m blank =
    ap (λ (n : ℕ). replicate n blank) (sym z) ∙ sym (replicate-append-replicate (length s) m blank) in
    let q = length-replicate (length s) blank in
    let h : length s ≤ length (replicate (length s) blank ++ replicate m blank) = omega arith in
    rw (p, drop-append-le (length s) (replicate (length s) blank ++ replicate m blank) s h)
    (ap (λ (t : List ℕ). t ++ s) (drop_at (replicate (length s) blank) (replicate m blank) (length s) q))

-- a longer one does not change with one byte more
pub right_long : (k b : ℕ) (s : List ℕ) → k ≤ length s → right k (b ∷ s) ≡ right k s
unfolding right
right_long k b s h =
    let j = length s - k in
    let r = replicate k blank in
    let e : suc (length s) ≡ length r + suc j = omega (arith, length-replicate k blank) in
    let f : length s ≡ length r + j = omega (arith, length-replicate k blank) in
    ap (λ (n : ℕ). drop n (r ++ (b ∷ s))) e
    ∙ (drop-append-add r (b ∷ s) (suc j) ∙ (sym (drop-append-add r s j) ∙ ap (λ (n : ℕ). drop n (r ++ s)) (sym f)))

set_last : (m b : ℕ) (s : List ℕ) → set (replicate (suc m) blank ++ s) m b ≡ replicate m blank ++ (b ∷ s)
set_last zero b s = refl
set_last (suc m) b s = ap (λ (l : List ℕ). blank ∷ l) (set_last m b s)

-- one byte before a text
pub right_more : (m k b : ℕ) (s : List ℕ) → suc m + length s ≡ k → set (right k s) m b ≡ right k (b ∷ s)
right_more m k b s e =
    ap (λ (l : List ℕ). set l m b) (right_short (suc m) k s e)
    ∙ (set_last m b s ∙ sym (right_short m k (b ∷ s) (omega arith)))

pub trim_blanks : (m : ℕ) (s : List ℕ) → trim_front (replicate m blank ++ s) ≡ trim_front s
trim_blanks zero s = refl
trim_blanks (suc m) s = trim_blanks m s
