-- A run over an input in the pieces that the reads give: as crates/desk_stream does, it takes the packets that are whole and keeps the
-- bytes of one that is not, for the next read.
use Rattle.std.specs.Prelude.{ℕ, zero, suc, Bool, true, false, cond, List, [], ◌∷◌, ◌++◌, length, drop}
use Rattle.desk_report.specs.Text.{header}
use Rattle.desk_report.specs.Desk.{fresh, stepped_desk, stepped_bytes, stepped_next, end_bytes}
use Rattle.desk_report.specs.declared.desk.Desk.{Desk}
use Rattle.desk_report.specs.declared.desk.Next.{Next}

-- between reads: the desk, the bytes that are kept, whether it reads on, and what was written
pub record Turn : Type 0 where
  pub desk : Desk
  pub kept : List ℕ
  pub more : Bool
  pub written : List ℕ

abbrev pub go_on : Desk → List ℕ → Turn
go_on d s = record { desk = d; kept = s; more = true; written = [] }

abbrev pub stop : Desk → Turn
stop d = record { desk = d; kept = []; more = false; written = [] }

-- these bytes were written before
abbrev pub written_after : List ℕ → Turn → Turn
written_after w t = record { desk = t.desk; kept = t.kept; more = t.more; written = w ++ t.written }

-- the packets that are whole, at most k; a refused length stops

abbrev pub after_take : (Desk → List ℕ → Turn) → Desk → List ℕ → Next → Turn
after_take more d s (Next.Used n) = more d (drop n s)
after_take more d s Next.More = go_on d s
after_take more d s Next.Stop = stop d

abbrev pub taking : ℕ → Desk → List ℕ → Turn
taking zero d s = go_on d s
taking (suc k) d s = written_after (stepped_bytes d s) (after_take (taking k) (stepped_desk d s) s (stepped_next s))

-- each takes at least a byte
abbrev pub take_all : Desk → List ℕ → Turn
take_all d s = taking (length s) d s

-- what a read gives comes after the bytes that are kept
abbrev pub read_on : Turn → List ℕ → Turn
read_on t s = cond t.more (written_after t.written (take_all t.desk (t.kept ++ s))) t

abbrev pub reads : Turn → List (List ℕ) → Turn
reads t [] = t
reads t (s ∷ l) = reads (read_on t s) l

-- the end of the input: all that is written
abbrev pub ended : Turn → List ℕ
ended t = t.written ++ cond t.more (end_bytes t.desk t.kept) []

-- before the first read, when the bytes w are written
abbrev pub begin : Desk → List ℕ → Turn
begin d w = record { desk = d; kept = []; more = true; written = w }

-- all that a run of `follow` writes
unfoldable pub run : List (List ℕ) → List ℕ
run l = ended (reads (begin (fresh true) header) l)
