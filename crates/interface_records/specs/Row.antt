-- REF-22: a row of records of one width, read one after the other; none where any is refused.
use Rattle.std.specs.Prelude.{ℕ, zero, suc, ◌*◌, ◌-◌, ◌<◌, ◌&&◌, cond, List, [], ◌∷◌, ◌++◌, eqb, leb, length, get_or, take, drop, replicate, None, Option, Some}
use Rattle.std.specs.Option.{option_map}

module _ {A : Type 0} where
  abbrev pub cons_option : Option A → Option (List A) → Option (List A)
  cons_option None l = None
  cons_option (Some a) None = None
  cons_option (Some a) (Some l) = Some (a ∷ l)

  -- n records of `width` bytes from the front on
  abbrev pub records : (List ℕ → Option A) → ℕ → ℕ → List ℕ → Option (List A)
  records read width zero s = Some []
  records read width (suc n) s = cons_option (read (take width s)) (records read width n (drop width s))

  -- at most `most` records, of exactly the bytes given
  abbrev pub row : (List ℕ → Option A) → ℕ → ℕ → ℕ → List ℕ → Option (List A)
  row read width most n s = cond (leb n most && eqb (length s) (n * width)) (records read width n s) None

  -- a list filled up to `most` places
  abbrev pub filled : ℕ → A → List A → List A
  filled most d l = l ++ replicate (most - length l) d

  -- the row filled up
  abbrev pub filled_row : (List ℕ → Option A) → ℕ → ℕ → A → ℕ → List ℕ → Option (List A)
  filled_row read width most d n s = option_map (filled most d) (row read width most n s)

-- the records of a row one after the other
abbrev pub written : {A : Type 0} → (A → List ℕ) → List A → List ℕ
written write [] = []
written write (a ∷ l) = write a ++ written write l

-- every element is a byte
abbrev pub AllBytes : List ℕ → Type 0
AllBytes s = (k : ℕ) → get_or s k 0 < 256
