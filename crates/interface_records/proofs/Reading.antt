-- A loop that reads a row one record after the other: what the whole row reads to is what was read so far, followed by what the
-- rest reads to. Stated over the kind of record, its reader, its width and the most there may be, so that both rows cite it.
-- Assumes nothing.
use Rattle.std.specs.Prelude.{None, Option, Some}
use mathlib.Core.Path.{◌≡◌, refl, sym, ap, ◌∙◌}
use mathlib.Core.List.{List, [], ◌∷◌, ◌++◌, append_assoc, append-nil}
use Prim.Native.Nat.{ℕ, suc, ◌+◌, ◌*◌, ◌-◌, ◌≤◌, ◌<◌}
use native.Mathlib.Nat.{suc-mul, mul-le-mul_right}
use native.Mathlib.Numerals.{add-one}
use native.Mathlib.Omega.{arith}
use lib.ListN.{length, get_or, take, drop, set, replicate, length-append, length-drop, length-set, length-replicate, take-append-drop}
use lib.Seq.{take-suc-set, drop-set-lt, drop-drop, drop-cons, take_at, drop_at, length-take-le}
use mathlib.Core.Bool.{Bool, true, false}
use lib.Dec.{leb}
use borrow.Author.Tests.{le-leb, eq-eqb, leb-true, leb-false}
use Rattle.std.specs.Option.{option_map}
use Rattle.interface_records.specs.Row.{cons_option, records, filled, filled_row}

module _ {A : Type 0} where
  -- what was read so far, followed by what the rest reads to
  abbrev pub after : List A → Option (List A) → Option (List A)
  after l None = None
  after l (Some m) = Some (l ++ m)

  after_nil : (r : Option (List A)) → after [] r ≡ r
  after_nil None = refl
  after_nil (Some m) = refl

  after_snoc : (l : List A) (a : A) (r : Option (List A)) → after l (cons_option (Some a) r) ≡ after (l ++ (a ∷ [])) r
  after_snoc l a None = refl
  after_snoc l a (Some m) = ap Some (sym (append_assoc l (a ∷ []) m))

module _ {A : Type 0} (read : List ℕ → Option A) (width n : ℕ) (s : List ℕ) where
  -- the first i places of xs are what was read of the row's n records
  abbrev pub ReadTo : List A → ℕ → Type 0
  ReadTo xs i = records read width n s ≡ after (take i xs) (records read width (n - i) (drop (i * width) s))

  start : (xs : List A) → ReadTo xs 0
  start xs =
      let e : 0 * width ≡ 0 = omega arith in
      let f : n - 0 ≡ n = omega arith in
      rw (e, f) (sym (after_nil (records read width n s)))

  rest : (i : ℕ) → i < n → records read width (n - i) (drop (i * width) s) ≡ cons_option (read (take width (drop (i * width) s))) (records read width (n - (i + 1)) (drop ((i + 1) * width) s))
  rest i h =
      let e : n - i ≡ suc (n - (i + 1)) = omega arith in
      let f : (i + 1) * width ≡ i * width + width = rw add-one (suc-mul i width) in
      rw (e, f, ← drop-drop width (i * width) s)

  next : (xs : List A) (i : ℕ) (a : A) → i < n → i < length xs → read (take width (drop (i * width) s)) ≡ Some a
      → ReadTo xs i → ReadTo (set xs i a) (i + 1)
  next xs i a h hx e q =
      let t : take (i + 1) (set xs i a) ≡ take i xs ++ (a ∷ []) = rw add-one (take-suc-set xs i a hx) in
      q
      ∙ (ap (after (take i xs)) (rest i h ∙ ap (λ (o : Option A). cons_option o (records read width (n - (i + 1)) (drop ((i + 1) * width) s))) e)
      ∙ (after_snoc (take i xs) a (records read width (n - (i + 1)) (drop ((i + 1) * width) s))
      ∙ ap (λ (l : List A). after l (records read width (n - (i + 1)) (drop ((i + 1) * width) s))) (sym t)))

  stop : (xs : List A) (i : ℕ) → i < n → read (take width (drop (i * width) s)) ≡ None → ReadTo xs i → records read width n s ≡ None
  stop xs i h e q =
      q
      ∙ ap (after (take i xs))
      (rest i h ∙ ap (λ (o : Option A). cons_option o (records read width (n - (i + 1)) (drop ((i + 1) * width) s))) e)

  end : (xs : List A) (i : ℕ) → i ≡ n → ReadTo xs i → records read width n s ≡ Some (take n xs)
  end xs i e q =
      let z : n - i ≡ 0 = omega arith in
      q ∙ (rw (z, e) (ap Some (append-nil (take n xs))))

module _ {A : Type 0} (d : A) (m : ℕ) (xs : List A) (e : length xs ≡ m) where
  tail : (a : A) (l k : List A) → a ∷ l ≡ d ∷ k → l ≡ k
  tail a l k p = cc

  -- a store at place i leaves the places after it
  left_over : (i : ℕ) (a : A) → i < m → drop i xs ≡ replicate (m - i) d → drop (i + 1) (set xs i a) ≡ replicate (m - (i + 1)) d
  left_over i a h q =
      let hx : i < length xs = omega arith in
      let k : m - i ≡ suc (m - (i + 1)) = omega arith in
      let p : drop i xs ≡ d ∷ replicate (m - (i + 1)) d = q ∙ ap (λ (n : ℕ). replicate n d) k in
      rw (add-one i, drop-set-lt (suc i) xs i a (omega arith))
      (rw (← add-one i) (tail (get_or xs i d) (drop (i + 1) xs) (replicate (m - (i + 1)) d) (sym (rw add-one (drop-cons xs i d hx)) ∙ p)))

  -- the places passed, filled up, are the array
  filled_up : (n : ℕ) → n ≤ m → drop n xs ≡ replicate (m - n) d → filled m d (take n xs) ≡ xs
  filled_up n h q =
      let hx : n ≤ length xs = omega arith in
      rw (length-take-le n xs hx, ← q) (take-append-drop n xs)

-- where the loop stands: i records of the row are in the first places, and the other places are default; r is what is left of the bytes
pub record Reached {A : Type 0} (read : List ℕ → Option A) (width most : ℕ) (d : A) (n : ℕ) (s : List ℕ) (xs : List A) (i : ℕ) (r : List ℕ) : Type 0 where
  pub passed : i ≤ n
  pub few : n ≤ most
  pub whole : length s ≡ n * width
  pub places : length xs ≡ most
  pub others : drop i xs ≡ replicate (most - i) d
  pub front : ReadTo read width n s xs i
  pub left : r ≡ drop (i * width) s

module _ {A : Type 0} (read : List ℕ → Option A) (width most : ℕ) (d : A) (n : ℕ) (s : List ℕ) (some : 0 < width) where
  pub begun : n ≤ most → length s ≡ n * width → Reached read width most d n s (replicate most d) 0 s
  begun h e =
      let k : most - 0 ≡ most = omega arith in
      let z : 0 * width ≡ 0 = omega arith in
      record {
        passed = omega arith;
        few = h;
        whole = e;
        places = length-replicate most d;
        others = rw k;
        front = start read width n s (replicate most d);
        left = rw z;
      }

  module _ (xs : List A) (i : ℕ) (r : List ℕ) (q : Reached read width most d n s xs i r) where
    left_length : length r ≡ n * width - i * width
    left_length = rw (q.left, length-drop, q.whole)

    -- where fewer bytes are left than a record has, every record is read
    pub ended : length r < width → n ≤ i
    ended h = by (leb n i) refl
      where
        by : (t : Bool) → leb n i ≡ t → n ≤ i
        by true e = leb-true n i e
        by false e =
            let k : suc i ≤ n = leb-false n i e in
            let m : i * width + width ≤ n * width = rw (← suc-mul i width) (mul-le-mul_right width k) in
            absurd (omega (arith, left_length, h, m))

    module _ (x t : List ℕ) (e : r ≡ x ++ t) (w : length x ≡ width) where
      -- where a record is left, not every one is read
      pub going : i < n
      going = by (leb n i) refl
        where
          by : (b : Bool) → leb n i ≡ b → i < n
          by false f = leb-false n i f
          by true f =
              let m : n * width ≤ i * width = mul-le-mul_right width (leb-true n i f) in
              let l : length r ≡ length x + length t = rw e (length-append x t) in
              absurd (omega (arith, left_length, l, w, m, some))

      record_read : read x ≡ read (take width (drop (i * width) s))
      record_read = rw (← q.left, e, take_at x t width w)

      pub gone_on : (a : A) → read x ≡ Some a → Reached read width most d n s (set xs i a) (i + 1) t
      gone_on a f =
          let hm : i < most = omega (arith, going, q.few) in
          let hx : i < length xs = omega (arith, hm, q.places) in
          let k : (i + 1) * width ≡ i * width + width = rw add-one (suc-mul i width) in
          record {
            passed = omega (arith, going);
            few = q.few;
            whole = q.whole;
            places = rw length-set q.places;
            others = left_over d most xs q.places i a hm q.others;
            front = next read width n s xs i a going hx (sym record_read ∙ f) q.front;
            left = sym (drop_at x t width w) ∙ (ap (drop width) (sym e ∙ q.left) ∙ rw (drop-drop width (i * width) s, k));
          }

      pub turned_back : read x ≡ None → filled_row read width most d n s ≡ None
      turned_back f =
          rw (le-leb n most q.few, eq-eqb (length s) (n * width) q.whole)
          (ap (option_map (filled most d)) (stop read width n s xs i going (sym record_read ∙ f) q.front))

    pub all_read : length r < width → filled_row read width most d n s ≡ Some xs
    all_read h =
        let e : i ≡ n = omega (arith, ended h, q.passed) in
        rw (le-leb n most q.few, eq-eqb (length s) (n * width) q.whole)
        (ap (option_map (filled most d)) (end read width n s xs i e q.front)
        ∙ ap Some (filled_up d most xs q.places n q.few (rw e at q.others)))
