-- What the functions of a run leave, as the turns of desk_report's Reads have it.
use Rattle.std.specs.Prelude.{ℕ, ◌≤◌, ◌≡◌, true, List, [], ◌++◌, ◌⊎◌, length, drop, Option, None, Some, Result, Ok, Err}
use Rattle.desk_report.specs.Reads.{Turn, begin, go_on, stop, take_all, reads}
use Rattle.desk_report.specs.declared.desk.Desk.{Desk}
use Rattle.desk_stream.specs.declared.End.{End}
use Rattle.desk_stream.specs.declared.sink.Sink.{Sink}
use Rattle.desk_stream.specs.Ran.{Ends}

-- a turn, but for what was written
abbrev pub left : Turn → Turn
left t = record { desk = t.desk; kept = t.kept; more = t.more; written = [] }

-- from desk d the packets in s were taken: desk e and the bytes from u on are left, or a refused length stopped it at desk e, or lines
-- that are needed could not be written
abbrev pub Taken : Desk → Sink → List ℕ → Desk → Result (Option ℕ) End → Type 0
Taken d k s e (Ok (Some u)) = (u ≤ length s) × (left (take_all d s) ≡ go_on e (drop u s))
Taken d k s e (Ok None) = left (take_all d s) ≡ stop e
Taken d k s e (Err x) = (x ≡ End.Unwritten) × (k.needed ≡ true)

-- likewise, and the lines written: where they could not be, the desk is as before

abbrev pub Stopped : Desk → Sink → List ℕ → Desk → End → Type 0
Stopped d k s e End.Read = left (take_all d s) ≡ stop e
Stopped d k s e End.Unread = ⊥
Stopped d k s e End.Unwritten = (k.needed ≡ true) × (e ≡ d)

-- or desk e and the bytes `kept`, which are few, are left
abbrev pub Took : Desk → Sink → List ℕ → Desk → List ℕ → Result (Unit {0}) End → Type 0
Took d k s e kept (Ok tt) = (length kept ≤ 68) × (left (take_all d s) ≡ go_on e kept)
Took d k s e kept (Err x) = Stopped d k s e x

-- some bytes c were read after the bytes b, and the packets in both taken; or the run ended, and at most that was done
abbrev pub Read : Desk → Sink → List ℕ → Desk → List ℕ → Result (Unit {0}) End → Type 0
Read d k b e kept (Ok tt) = (length kept ≤ 68) × ((c : List ℕ) × (left (take_all d (b ++ c)) ≡ go_on e kept))
Read d k b e kept (Err x) = Ends k x × ((e ≡ d) ⊎ ((c : List ℕ) × ((take_all d (b ++ c)).desk ≡ e)))

-- from the desk d₀ on pieces l were read, and a run over them stands here
abbrev pub Stands : Desk → Desk → List ℕ → Type 0
Stands d₀ d kept = (l : List (List ℕ)) × (left (reads (begin d₀ []) l) ≡ go_on d kept)
