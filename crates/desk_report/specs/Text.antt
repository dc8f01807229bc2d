-- Text of `follow` as ASCII bytes: a number or a dash, and its fixed words.
use Rattle.std.specs.Prelude.{ℕ, List, [], ◌∷◌, None, Option, Some}
use Rattle.abstract_page.specs.Text.{hyphen, decimal}

-- a hyphen for none
abbrev pub number : Option ℕ → List ℕ
number None = hyphen ∷ []
number (Some n) = decimal n

-- PRG-2: "take shown state port mw" and a line feed
abbrev pub header : List ℕ
header =
    116 ∷ 97 ∷ 107 ∷ 101 ∷ 32
    ∷ 115 ∷ 104 ∷ 111 ∷ 119 ∷ 110 ∷ 32
    ∷ 115 ∷ 116 ∷ 97 ∷ 116 ∷ 101 ∷ 32
    ∷ 112 ∷ 111 ∷ 114 ∷ 116 ∷ 32
    ∷ 109 ∷ 119 ∷ 10 ∷ []

-- " refused "
abbrev pub refused : List ℕ
refused = 32 ∷ 114 ∷ 101 ∷ 102 ∷ 117 ∷ 115 ∷ 101 ∷ 100 ∷ 32 ∷ []
