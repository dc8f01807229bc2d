-- The program `sheet` (S1-10, S1-11): what it tells and writes for its input.
use Rattle.std.specs.Prelude.{ℕ, false, List, []}
use Rattle.desk_follower.specs.declared.Follower.{Follower}
use Rattle.desk_report.specs.Desk.{fresh, output_of, desk_of}
use Rattle.desk_report.specs.Page.{page_bytes, page_for}
use Rattle.desk_report.specs.Reads.{Turn, begin, reads}

-- S1-10: the lines of what is refused, on standard error
unfoldable pub sheet_told : List ℕ → List ℕ
sheet_told s = output_of (fresh false) s

-- S1-11: the follower at the end of the input, and its page, on standard output

unfoldable pub sheet_shows : List ℕ → Follower
sheet_shows s = (desk_of (fresh false) s).follower

abbrev pub sheet_page : List ℕ → List ℕ
sheet_page s = page_bytes (page_for (sheet_shows s))

-- a run over the input in pieces
unfoldable pub sheet_run : List (List ℕ) → Turn
sheet_run l = reads (begin (fresh false) []) l
