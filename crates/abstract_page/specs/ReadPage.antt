-- S1-7: the reading of a page. Of each line the name is the first 20 columns without the blanks at their end, the figure the next 20 without
-- those at their front. What a page says can be read back from it (proofs/Read.antt).
use Rattle.std.specs.Prelude.{ℕ, zero, suc, ◌+◌, ◌*◌, ◌-◌, Bool, true, false, cond, ◌&&◌, List, [], ◌∷◌, reverse, eqb, take, drop}
use Rattle.interface_display.specs.declared.State.{State}
use Rattle.abstract_page.specs.Text.{blank, comma, hyphen, word}
use Rattle.abstract_page.specs.Page.{Figure, absent, numbers, state, Entry}

abbrev pub trim_front : List ℕ → List ℕ
trim_front [] = []
trim_front (b ∷ s) = cond (eqb b blank) (trim_front s) (b ∷ s)

abbrev pub trim_end : List ℕ → List ℕ
trim_end s = reverse (trim_front (reverse s))

abbrev pub same : List ℕ → List ℕ → Bool
same [] [] = true
same [] (b ∷ t) = false
same (a ∷ s) [] = false
same (a ∷ s) (b ∷ t) = eqb a b && same s t

-- decimal numbers with commas between; the digits before these come to n
abbrev pub read_numbers : ℕ → List ℕ → List ℕ
read_numbers n [] = n ∷ []
read_numbers n (b ∷ s) = cond (eqb b comma) (n ∷ read_numbers 0 s) (read_numbers (10 * n + (b - 48)) s)

-- a hyphen, a state's word, or numbers
abbrev pub read_figure : List ℕ → Figure
read_figure s =
    cond (same s (hyphen ∷ [])) absent
    (cond (same s (word State.Lost)) (state State.Lost)
    (cond (same s (word State.Level)) (state State.Level)
    (cond (same s (word State.Waiting)) (state State.Waiting)
    (numbers (read_numbers 0 s)))))

-- the line at the front
abbrev pub read_line : List ℕ → Entry
read_line s = record { name = trim_end (take 20 s); figure = read_figure (trim_front (take 20 (drop 20 s))) }

-- k lines of 40 columns and a newline each
abbrev pub read_lines : ℕ → List ℕ → List Entry
read_lines zero s = []
read_lines (suc k) s = read_line s ∷ read_lines k (drop 41 s)

unfoldable pub read_page : List ℕ → List Entry
read_page s = read_lines 6 s
