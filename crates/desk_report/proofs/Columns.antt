-- A text at the right of its columns, written from its last byte on: bytes, digits, a port before others with a comma, no port at all; and the line that it
-- stands in.
-- Assumes nothing.
use mathlib.Core.Path.{◌≡◌, refl, ap, sym, ◌∙◌}
use mathlib.Core.List.{List, [], ◌∷◌, ◌++◌, append-nil}
use Prim.Native.Nat.{ℕ, zero, suc, ◌+◌, ◌-◌, ◌/◌, ◌%◌, ◌^◌, ◌≤◌, ◌<◌}
use native.Mathlib.Omega.{arith}
use lib.ListN.{length, drop, set, replicate, length-replicate, length-drop, drop_of_length-le}
use lib.Seq.{append_snoc, drop-append-add, take_at}
use lib.Dec.{leb}
use mathlib.Core.Bool.{Bool, true, false}
use borrow.Author.Tests.{lt-ltb, le-ltb, leb-true, leb-false}
use borrow.Rule.Slice.PartMut.{put_mid}
use Rattle.std.proofs.lemmas.List.{drop_at, take-replicate}
use lib.Pow.{shr-shr}
use native.Mathlib.Nat.{div-one}
use native.Mathlib.Numerals.{add-one}
use Rattle.wire.specs.Bytes.{ports_from, ports_bytes}
use Rattle.wire.proofs.Stores.{port_set, port_clear}
use Rattle.abstract_page.specs.Text.{blank, newline, comma, hyphen, digits, decimal, right}
use Rattle.abstract_page.specs.Page.{commas, text, ports}
use Rattle.abstract_page.proofs.Decimal.{length_to}
use Rattle.abstract_page.proofs.Read.{commas_some}
use Rattle.abstract_page.proofs.Columns.{right_short, right_more}
use Rattle.desk_report.specs.Page.{end_of}

-- the end of a text: all of a short one; one of the end alone is the same

pub end_short : (s : List ℕ) → length s ≤ 20 → end_of s ≡ s
end_short s h =
    let z : length s - 20 ≡ 0 = omega arith in
    rw z refl

pub end_length : (s : List ℕ) → length (end_of s) ≤ 20
end_length s = omega (arith, length-drop (length s - 20) s)

pub end_full : (b : ℕ) (s : List ℕ) → length s ≡ 20 → end_of (b ∷ s) ≡ s
end_full b s h =
    let z : suc (length s) - 20 ≡ 1 = omega arith in
    rw z refl

end_long : (b : ℕ) (s : List ℕ) → 20 ≤ length s → end_of (b ∷ s) ≡ end_of s
end_long b s h =
    let z : suc (length s) - 20 ≡ suc (length s - 20) = omega arith in
    rw z refl

pub end_cons : (b : ℕ) (s : List ℕ) → end_of (b ∷ end_of s) ≡ end_of (b ∷ s)
end_cons b s = tested (leb (length s) 20) refl
  where
    tested : (t : Bool) → leb (length s) 20 ≡ t → end_of (b ∷ end_of s) ≡ end_of (b ∷ s)
    tested true h = ap (λ (x : List ℕ). end_of (b ∷ x)) (end_short s (leb-true (length s) 20 h))
    tested false h =
        let g = leb-false (length s) 20 h in
        let k : length (end_of s) ≡ 20 = omega (arith, length-drop (length s - 20) s) in
        let l : 20 ≤ length s = omega arith in
        end_full b (end_of s) k ∙ sym (end_long b s l)

pub end_append : (x s : List ℕ) → end_of (x ++ end_of s) ≡ end_of (x ++ s)
end_append [] s = end_short (end_of s) (end_length s)
end_append (b ∷ x) s = sym (end_cons b (x ++ end_of s)) ∙ (ap (λ (y : List ℕ). end_of (b ∷ y)) (end_append x s) ∙ end_cons b (x ++ s))

pub end_end : (s : List ℕ) → end_of (end_of s) ≡ end_of s
end_end s = end_short (end_of s) (end_length s)

-- a byte before a text of which the end stands there
pub end_before : (b : ℕ) (t u s : List ℕ) → u ≡ end_of (b ∷ t) → end_of t ≡ end_of s → u ≡ end_of (b ∷ s)
end_before b t u s g h = g ∙ (sym (end_cons b t) ∙ (ap (λ (x : List ℕ). end_of (b ∷ x)) h ∙ end_cons b s))

-- the digits of a number alone
pub end_digits : (n : ℕ) (t u : List ℕ) → t ≡ [] → u ≡ end_of (decimal n ++ t) → u ≡ decimal n
end_digits n t u g h =
    h ∙ (ap (λ (x : List ℕ). end_of (decimal n ++ x)) g ∙ (ap end_of (append-nil (decimal n)) ∙ end_short (decimal n) (length_to n)))

right_long : (s : List ℕ) → length s ≡ length (replicate 20 blank) + (length s - 20) → right 20 s ≡ end_of s
unfolding right
right_long s l = ap (λ (n : ℕ). drop n (replicate 20 blank ++ s)) l ∙ drop-append-add (replicate 20 blank) s (length s - 20)

pub right_end : (s : List ℕ) → right 20 (end_of s) ≡ right 20 s
right_end s = tested (leb (length s) 20) refl
  where
    tested : (t : Bool) → leb (length s) 20 ≡ t → right 20 (end_of s) ≡ right 20 s
    tested true h = ap (right 20) (end_short s (leb-true (length s) 20 h))
    tested false h =
        let g = leb-false (length s) 20 h in
        let k : 0 + length (end_of s) ≡ 20 = omega (arith, length-drop (length s - 20) s) in
        let l : length s ≡ length (replicate 20 blank) + (length s - 20) = omega (arith, length-replicate {A = ℕ} 20 blank) in
        right_short 0 20 (end_of s) k ∙ sym (right_long s l)

-- the text behind the blanks
pub shown : (t s : List ℕ) (from : ℕ) → t ≡ right 20 s → from + length s ≡ 20 → drop from t ≡ s
shown t s from h k = rw (h, right_short from 20 s k, drop_at (replicate from blank) s from (length-replicate from blank))

-- a byte before the text: the columns and the place of it then, and the text
module _ (t : List ℕ) (from b : ℕ) (n : 0 < from) (m : from ≤ 20) (l : length t ≡ 20) (h : t ≡ right 20 (drop from t)) where
  pushed : set t (from - 1) b ≡ right 20 (b ∷ drop from t)
  pushed =
      let z : suc (from - 1) + length (drop from t) ≡ 20 = omega (arith, length-drop from t) in
      ap (λ (x : List ℕ). set x (from - 1) b) h ∙ right_more (from - 1) 20 b (drop from t) z

  pub pushed_text : drop (from - 1) (set t (from - 1) b) ≡ b ∷ drop from t
  pushed_text =
      let z : (from - 1) + length (b ∷ drop from t) ≡ 20 = omega (arith, length-drop from t) in
      shown (set t (from - 1) b) (b ∷ drop from t) (from - 1) pushed z

  pub pushed_whole : set t (from - 1) b ≡ right 20 (drop (from - 1) (set t (from - 1) b))
  pushed_whole = pushed ∙ ap (right 20) (sym pushed_text)

  pub pushed_end : drop (from - 1) (set t (from - 1) b) ≡ end_of (b ∷ drop from t)
  pushed_end =
      let z : length (b ∷ drop from t) ≤ 20 = omega (arith, length-drop from t) in
      pushed_text ∙ sym (end_short (b ∷ drop from t) z)

-- a digit stands before the text d, and those of the tenth are left
pub digit_more : (k m n : ℕ) (d : List ℕ) → k ≡ suc m → (n / 10 ≡ 0 → ⊥) → digits k n ++ d ≡ digits m (n / 10) ++ ((48 + n % 10) ∷ d)
digit_more k m n d e h =
    let g : 10 ≤ n = omega arith in
    rw (e, le-ltb n 10 g, append_snoc (digits m (n / 10)) (48 + n % 10) d)

-- or no digit is left
pub digit_last : (k m n : ℕ) (d : List ℕ) → k ≡ suc m → n / 10 ≡ 0 → digits k n ++ d ≡ (48 + n % 10) ∷ d
digit_last k m n d e h =
    let g : n < 10 = omega arith in
    rw (e, lt-ltb n 10 g) refl

-- a text that has room
pub stood : (v : List ℕ) → length v ≤ 20 → put_mid (20 - length v) (20 - (20 - length v)) (replicate 20 blank) v ≡ right 20 v
stood v l =
    let n = length v in
    let k : (20 - n) + n ≡ 20 = omega arith in
    let a : 20 - n ≤ 20 = omega arith in
    let z : drop (20 - (20 - n)) (drop (20 - n) (replicate 20 blank)) ≡ [] = drop_of_length-le (drop (20 - n) (replicate 20 blank)) (omega (arith, length-drop (20 - n) (replicate 20 blank), length-replicate {A = ℕ} 20 blank)) in
    rw (take-replicate (20 - n) 20 blank a, z, append-nil v, right_short (20 - n) 20 v k)

pub stood_whole : (v : List ℕ) → length v ≤ 20
    → put_mid (20 - length v) (20 - (20 - length v)) (replicate 20 blank) v
    ≡ right 20 (drop (20 - length v) (put_mid (20 - length v) (20 - (20 - length v)) (replicate 20 blank) v))
stood_whole v l =
    let k : (20 - length v) + length v ≡ 20 = omega arith in
    stood v l ∙ ap (right 20) (sym (shown _ v (20 - length v) (stood v l) k))

-- before other ports

pub end_some : (p : ℕ) (l : List ℕ) → length (end_of (commas (p ∷ l))) ≡ 0 → ⊥
end_some p l = omega (arith, commas_some p l, length-drop (length (commas (p ∷ l)) - 20) (commas (p ∷ l)))

pub first_port : (t u : List ℕ) (p : ℕ) (l : List ℕ) → length t ≡ 0 → u ≡ end_of (decimal p ++ t) → t ≡ end_of (commas l)
    → u ≡ end_of (commas (p ∷ l))
first_port t u p [] e g h = g ∙ ap end_of (ap (λ (x : List ℕ). decimal p ++ x) h ∙ append-nil (decimal p))
first_port t u p (m ∷ l) e g h = absurd (end_some m l (sym (ap length h) ∙ e))

pub more_ports : (t u v : List ℕ) (p : ℕ) (l : List ℕ) → (length t ≡ 0 → ⊥) → v ≡ end_of (comma ∷ t) → u ≡ end_of (decimal p ++ v) → t ≡ end_of (commas l)
    → u ≡ end_of (commas (p ∷ l))
more_ports t u v p [] n f g h = absurd (n (ap length h))
more_ports t u v p (m ∷ l) n f g h =
    g ∙ (ap (λ (x : List ℕ). end_of (decimal p ++ x)) (f ∙ (ap (λ (x : List ℕ). end_of (comma ∷ x)) h ∙ end_cons comma (commas (m ∷ l))))
    ∙ end_append (decimal p) (comma ∷ commas (m ∷ l)))

-- the ports from i on, in a set

abbrev pub ports_at : ℕ → ℕ → List ℕ
ports_at mask i = ports_from (16 - i) i (mask / 2 ^ i)

next_bits : (mask j : ℕ) → mask / 2 ^ j / 2 ≡ mask / 2 ^ (j + 1)
next_bits mask j = shr-shr mask j 1

pub port_there : (mask i : ℕ) → 0 < i → i ≤ 16 → mask / 2 ^ (i - 1) % 2 ≡ 1 → ports_at mask (i - 1) ≡ (i - 1) ∷ ports_at mask i
port_there mask zero p h e = absurd (omega arith)
port_there mask (suc j) p h e =
    let z : suc j - 1 ≡ j = omega arith in
    let k : j < 16 = omega arith in
    rw (z, port_set j (mask / 2 ^ j) k (rw z at e), next_bits mask j, add-one j)

pub port_absent : (mask i : ℕ) → 0 < i → i ≤ 16 → (mask / 2 ^ (i - 1) % 2 ≡ 1 → ⊥) → ports_at mask (i - 1) ≡ ports_at mask i
port_absent mask zero p h e = absurd (omega arith)
port_absent mask (suc j) p h e =
    let z : suc j - 1 ≡ j = omega arith in
    let k : j < 16 = omega arith in
    rw (z, port_clear j (mask / 2 ^ j) k (rw z at e), next_bits mask j, add-one j)

pub all_ports : (mask : ℕ) → ports_at mask 0 ≡ ports_bytes mask
unfolding ports_bytes
all_ports mask = ap (λ (m : ℕ). ports_from 16 0 m) (div-one mask)

-- none, or some

pub none_there : (t l : List ℕ) → t ≡ end_of (commas l) → length t ≡ 0 → hyphen ∷ [] ≡ end_of (text (ports l))
none_there t [] h e = refl
none_there t (p ∷ l) h e = absurd (end_some p l (sym (ap length h) ∙ e))

pub some_there : (t l : List ℕ) → t ≡ end_of (commas l) → (length t ≡ 0 → ⊥) → t ≡ end_of (text (ports l))
some_there t [] h n = absurd (n (ap length h))
some_there t (p ∷ l) h n = h

-- name and figure, stored one after the other at the front of a line of newlines
pub line_stored : (name figure : List ℕ) → length name ≡ 20 → length figure ≡ 20
    → put_mid 20 20 (name ++ drop 20 (replicate 41 newline)) figure ≡ name ++ (figure ++ (newline ∷ []))
line_stored name figure n f = rw (take_at name (drop 20 (replicate 41 newline)) 20 n, drop_at name (drop 20 (replicate 41 newline)) 20 n) refl
