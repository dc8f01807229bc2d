-- Text as ASCII bytes: decimal digits, a state's word, columns.
use Rattle.std.specs.Prelude.{ℕ, zero, suc, ◌+◌, ◌/◌, ◌%◌, cond, List, [], ◌∷◌, ◌++◌, ltb, length, take, drop, replicate}
use Rattle.interface_display.specs.declared.State.{State}

abbrev pub blank : ℕ
blank = 32

abbrev pub comma : ℕ
comma = 44

abbrev pub hyphen : ℕ
hyphen = 45

abbrev pub newline : ℕ
newline = 10

-- the last digit, after those of n / 10 where n has more than one; at most k
abbrev pub digits : ℕ → ℕ → List ℕ
digits zero n = []
digits (suc k) n = cond (ltb n 10) [] (digits k (n / 10)) ++ ((48 + n % 10) ∷ [])

-- a number of 64 bits has at most twenty digits
unfoldable pub decimal : ℕ → List ℕ
decimal n = digits 20 n

-- FRM-4: lost, level, waiting
abbrev pub word : State → List ℕ
word State.Lost = 108 ∷ 111 ∷ 115 ∷ 116 ∷ []
word State.Level = 108 ∷ 101 ∷ 118 ∷ 101 ∷ 108 ∷ []
word State.Waiting = 119 ∷ 97 ∷ 105 ∷ 116 ∷ 105 ∷ 110 ∷ 103 ∷ []

-- a text in k columns: at their left, the blanks behind it, or at their right, the blanks before it; of a longer one the first k bytes, or the last

unfoldable pub left : ℕ → List ℕ → List ℕ
left k s = take k (s ++ replicate k blank)

unfoldable pub right : ℕ → List ℕ → List ℕ
right k s = drop (length s) (replicate k blank ++ s)
