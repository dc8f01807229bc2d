-- A line of a page; and six of them stored one after the other, from the front of a buffer on.
-- Assumes nothing.
use mathlib.Core.Path.{◌≡◌, ap, sym, subst, ◌∙◌}
use mathlib.Core.List.{List, [], ◌∷◌, ◌++◌, append-nil, append_assoc}
use Prim.Native.Nat.{ℕ, ◌+◌, ◌≤◌}
use native.Mathlib.Omega.{arith}
use lib.ListN.{length, set, take, drop, length-append}
use lib.Seq.{sets, sets-eq, length-sets}
use borrow.Author.Tests.{le-leb}
use Rattle.desk_report.specs.Buffer.{stored_at}
use Rattle.wire.proofs.Stores.{sets_append}
use Rattle.abstract_page.specs.Text.{newline, left, right}
use Rattle.abstract_page.specs.Page.{Figure, text, line}

pub stored_line : (l name columns : List ℕ) (f : Figure) → l ≡ left 20 name ++ (columns ++ (newline ∷ [])) → columns ≡ right 20 (text f)
    → l ≡ line (record { name = name; figure = f })
unfolding line
stored_line l name columns f e q = e ∙ ap (λ (c : List ℕ). left 20 name ++ (c ++ (newline ∷ []))) q

pub stored_sets : (o l : List ℕ) (i : ℕ) → i + length l ≤ length o → stored_at o i l ≡ sets o i l
stored_sets o l i h = rw (le-leb _ _ h, ← append_assoc (take i o) l (drop (i + length l) o)) (sym (sets-eq l o i h))

-- what is stored right behind what was stored before
then_stored : (o l m : List ℕ) (i j : ℕ) → i + length l ≡ j → sets (sets o i l) j m ≡ sets o i (l ++ m)
then_stored o l m i j h = subst (λ (k : ℕ). sets (sets o i l) k m ≡ sets o i (l ++ m)) h (sets_append l m o i)

-- a name, its columns and a newline
pub line_at : (o name columns : List ℕ) (i : ℕ) → length name ≡ 20 → length columns ≡ 20 → i + 41 ≤ length o
    → set (stored_at (stored_at o i name) (i + 20) columns) (i + 40) newline ≡ sets o i (name ++ (columns ++ (newline ∷ [])))
line_at o name columns i p q h =
    let m = sets o i name in
    let l : length m ≡ length o = length-sets o i name in
    rw (stored_sets o name i (omega (arith, p, h)), stored_sets m columns (i + 20) (omega (arith, l, q, h)))
    (then_stored m columns (newline ∷ []) (i + 20) (i + 40) (omega (arith, q)) ∙ then_stored o name (columns ++ (newline ∷ [])) i (i + 20) (omega (arith, p)))

module _ (a b c d e f o : List ℕ) (p : length a ≡ 41) (q : length b ≡ 41) (r : length c ≡ 41) (s : length d ≡ 41) (t : length e ≡ 41) (u : length f ≡ 41) where
  pub six_length : length (a ++ (b ++ (c ++ (d ++ (e ++ (f ++ [])))))) ≡ 246
  six_length =
      omega (arith, length-append a (b ++ (c ++ (d ++ (e ++ (f ++ []))))), length-append b (c ++ (d ++ (e ++ (f ++ [])))), length-append c (d ++ (e ++ (f ++ []))), length-append d (e ++ (f ++ [])), length-append e (f ++ []), length-append f [])

  pub six_stored : sets (sets (sets (sets (sets (sets o 0 a) 41 b) 82 c) 123 d) 164 e) 205 f ≡ sets o 0 (a ++ (b ++ (c ++ (d ++ (e ++ (f ++ []))))))
  six_stored =
      let k = sets o 0 a in
      let l = sets k 41 b in
      let m = sets l 82 c in
      let n = sets m 123 d in
      ap (sets (sets n 164 e) 205) (sym (append-nil f))
      ∙ (then_stored n e (f ++ []) 164 205 (omega (arith, t))
      ∙ (then_stored m d (e ++ (f ++ [])) 123 164 (omega (arith, s))
      ∙ (then_stored l c (d ++ (e ++ (f ++ []))) 82 123 (omega (arith, r))
      ∙ (then_stored k b (c ++ (d ++ (e ++ (f ++ [])))) 41 82 (omega (arith, q))
      ∙ then_stored o a (b ++ (c ++ (d ++ (e ++ (f ++ []))))) 0 41 (omega (arith, p))))))
