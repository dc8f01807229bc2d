-- What a run did to a reader and a writer whose bytes are known, as std's KnownBytes has it: of one whose are not, nothing is said.
use Rattle.std.specs.Prelude.{ℕ, ◌≡◌, true, List, [], ◌++◌, ◌⊎◌, Option, Result, Ok, Err}
use mathlib.Core.List.{flatten}
use Rattle.std.specs.Io.KnownBytes.{Appends, Consumes, IsAtEnd}
use Rattle.desk_report.specs.Desk.{end_bytes}
use Rattle.desk_report.specs.Reads.{begin, go_on, stop, take_all, reads, ended}
use Rattle.desk_report.specs.declared.desk.Desk.{Desk}
use Rattle.desk_stream.specs.declared.End.{End}
use Rattle.desk_stream.specs.declared.Ended.{Ended}
use Rattle.desk_stream.specs.declared.sink.Sink.{Sink}
use Rattle.desk_stream.specs.Took.{left}

-- where lines are needed, the bytes b were written
abbrev pub Wrote : Sink → Option (List ℕ) → Option (List ℕ) → List ℕ → Type 0
Wrote k w w' b = k.needed ≡ true → Appends w w' b

-- of the bytes b the first were written, and c are still to be
abbrev pub Owes : Sink → Option (List ℕ) → Option (List ℕ) → List ℕ → List ℕ → Type 0
Owes k w w' b c = (x : List ℕ) × (x ++ c ≡ b) × Wrote k w w' x

-- the packets in s were taken from the desk d, and their lines written

abbrev pub TellsAt : Desk → Sink → List ℕ → Option (List ℕ) → Option (List ℕ) → End → Type 0
TellsAt d k s w w' End.Read = Wrote k w w' (take_all d s).written
TellsAt d k s w w' End.Unread = ⊥
TellsAt d k s w w' End.Unwritten = Unit {0}

abbrev pub Tells : Desk → Sink → List ℕ → Option (List ℕ) → Option (List ℕ) → Result (Unit {0}) End → Type 0
Tells d k s w w' (Ok tt) = Wrote k w w' (take_all d s).written
Tells d k s w w' (Err x) = TellsAt d k s w w' x

-- a turn, from the desk d with the bytes b kept: it reads on at the desk e; a refused length stops it there; the input has ended; or it
-- could not be read

abbrev pub PassesOn : Desk → Sink → List ℕ → Option (List ℕ) → Option (List ℕ) → Option (List ℕ) → Option (List ℕ) → Desk → List ℕ → Type 0
PassesOn d k b r r' w w' e kept =
    (c : List ℕ) × Consumes r r' c × (left (take_all d (b ++ c)) ≡ go_on e kept) × Wrote k w w' (take_all d (b ++ c)).written

abbrev pub Stops : Desk → Sink → List ℕ → Option (List ℕ) → Option (List ℕ) → Option (List ℕ) → Option (List ℕ) → Desk → Type 0
Stops d k b r r' w w' e =
    (c : List ℕ) × Consumes r r' c × (left (take_all d (b ++ c)) ≡ stop e) × Wrote k w w' (take_all d (b ++ c)).written

abbrev pub Finishes : Desk → Sink → List ℕ → Option (List ℕ) → Option (List ℕ) → Option (List ℕ) → Option (List ℕ) → Desk → Type 0
Finishes d k b r r' w w' e = Consumes r r' [] × IsAtEnd r' × (e ≡ d) × Wrote k w w' (end_bytes d b)

abbrev pub Fails : Desk → Sink → Option (List ℕ) → Option (List ℕ) → Option (List ℕ) → Option (List ℕ) → Desk → Type 0
Fails d k r r' w w' e = Consumes r r' [] × (e ≡ d) × Wrote k w w' []

abbrev pub PassesAt : Desk → Sink → List ℕ → Option (List ℕ) → Option (List ℕ) → Option (List ℕ) → Option (List ℕ) → Desk → End → Type 0
PassesAt d k b r r' w w' e End.Read = Finishes d k b r r' w w' e ⊎ Stops d k b r r' w w' e
PassesAt d k b r r' w w' e End.Unread = Fails d k r r' w w' e
PassesAt d k b r r' w w' e End.Unwritten = Unit {0}

abbrev pub Passes : Desk → Sink → List ℕ → Option (List ℕ) → Option (List ℕ) → Option (List ℕ) → Option (List ℕ) → Desk → List ℕ → Result (Unit {0}) End → Type 0
Passes d k b r r' w w' e kept (Ok tt) = PassesOn d k b r r' w w' e kept
Passes d k b r r' w w' e kept (Err x) = PassesAt d k b r r' w w' e x

-- a run from the desk d read these pieces: it ended at the desk of a run over them, and wrote what that writes. One that ended between
-- packets, or in one, left nothing to be read

abbrev pub EndsOver : Desk → Sink → Option (List ℕ) → Option (List ℕ) → Option (List ℕ) → Option (List ℕ) → Desk → End → Type 0
EndsOver d k r r' w w' e End.Read =
    (l : List (List ℕ)) × Consumes r r' (flatten l) × ((reads (begin d []) l).desk ≡ e)
    × ((reads (begin d []) l).more ≡ true → IsAtEnd r') × Wrote k w w' (ended (reads (begin d []) l))
EndsOver d k r r' w w' e End.Unread =
    (l : List (List ℕ)) × Consumes r r' (flatten l) × ((reads (begin d []) l).desk ≡ e) × Wrote k w w' (reads (begin d []) l).written
EndsOver d k r r' w w' e End.Unwritten = Unit {0}

abbrev pub RunsOver : Desk → Sink → Option (List ℕ) → Option (List ℕ) → Option (List ℕ) → Option (List ℕ) → Ended → Type 0
RunsOver d k r r' w w' e = EndsOver d k r r' w w' e.desk e.end
