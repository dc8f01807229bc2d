-- PKT-6: unsigned LEB128 in its shortest form: the base-128 digits, lowest first, with 128 added to all but the last.
use Rattle.std.specs.Prelude.{ℕ, zero, suc, ◌+◌, ◌-◌, ◌*◌, ◌/◌, ◌%◌, cond, List, [], ◌∷◌, eqb, leb, ltb, length, Result, Ok, Err}
use Rattle.std.proofs.lemmas.List.Edits.{sets}

-- at most k digits before the last
abbrev pub digits : ℕ → ℕ → List ℕ
digits zero n = n ∷ []
digits (suc k) n = cond (ltb n 128) (n ∷ []) ((128 + n % 128) ∷ digits k (n / 128))

-- a number of 32 bits has at most five digits
unfoldable pub leb128 : ℕ → List ℕ
leb128 n = digits 4 n

-- a digit before the digits of a number: that number is not 0, or the form is not the shortest
abbrev pub digit_before : ℕ → Result (ℕ × ℕ) ℕ → Result (ℕ × ℕ) ℕ
digit_before d (Err n) = Err n
digit_before d (Ok (v, used)) =
    cond (eqb v 0) (Err 31) (Ok (d + v * 128, suc used))

-- a last byte is below 128; at most k bytes stand before it (REF-5)
abbrev pub digits_read : ℕ → List ℕ → Result (ℕ × ℕ) ℕ
digits_read k [] = Err 30
digits_read zero (b ∷ s) = cond (ltb b 128) (Ok (b, 1)) (Err 31)
digits_read (suc k) (b ∷ s) = cond (ltb b 128) (Ok (b, 1)) (digit_before (b - 128) (digits_read k s))

abbrev pub within : ℕ → Result (ℕ × ℕ) ℕ → Result (ℕ × ℕ) ℕ
within limit (Err n) = Err n
within limit (Ok (v, used)) = cond (leb v limit) (Ok (v, used)) (Err 31)

-- REF-4: the limit is looked at after the last byte
unfoldable pub read_number : ℕ → List ℕ → Result (ℕ × ℕ) ℕ
read_number limit s = within limit (digits_read 4 s)

-- stored from a place on, where five places are left from there; and the place after it
abbrev pub written : List ℕ → ℕ → ℕ → List ℕ
written out at n = cond (leb (at + 5) (length out)) (sets out at (leb128 n)) out

abbrev pub next : List ℕ → ℕ → ℕ → ℕ
next out at n = cond (leb (at + 5) (length out)) (at + length (leb128 n)) at
