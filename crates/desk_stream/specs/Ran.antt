-- What a run comes to, whatever is read and written: the pieces that the reads gave are free, and so is why it ended. Known.antt says more, of a reader and a
-- writer whose bytes are known.
use Rattle.std.specs.Prelude.{◌≡◌, true, List, [], ℕ, Result, Ok, Err}
use Rattle.desk_report.specs.Reads.{begin, reads}
use Rattle.desk_report.specs.declared.desk.Desk.{Desk}
use Rattle.desk_stream.specs.declared.End.{End}
use Rattle.desk_stream.specs.declared.Ended.{Ended}
use Rattle.desk_stream.specs.declared.sink.Sink.{Sink}

-- what the system gave
pub record Seen : Type 0 where
  pub pieces : List (List ℕ)
  pub end : End

-- a run over these pieces that began at the desk d
abbrev pub ended_by : Desk → Seen → Ended
ended_by d w = record { desk = (reads (begin d []) w.pieces).desk; end = w.end }

-- a write that fails ends the run where its lines are needed alone

abbrev pub Goes : {A : Type 0} → Sink → Result A End → Type 0
Goes k (Ok a) = Unit {0}
Goes k (Err x) = (x ≡ End.Unwritten) × (k.needed ≡ true)

abbrev pub Ends : Sink → End → Type 0
Ends k End.Read = Unit {0}
Ends k End.Unread = Unit {0}
Ends k End.Unwritten = k.needed ≡ true
