-- Takes of the follower on bytes: those that are turned back change nothing (REF-1).
use Rattle.std.specs.Prelude.{ℕ, List, [], ◌∷◌, Err, Ok, Result}
use Rattle.interface_records.specs.Row.{AllBytes}
use Rattle.wire.specs.Read.{read_packet}
use Rattle.interface_display.specs.declared.packet.Packet.{Packet}
use Rattle.abstract_desk.specs.Follower.{Follower, fresh, taken}

abbrev pub read_by : Follower → Result Packet ℕ → Follower
read_by f (Err n) = f
read_by f (Ok p) = taken f p

abbrev pub takes_by : Follower → List (List ℕ) → Follower
takes_by f [] = f
takes_by f (b ∷ l) = takes_by (read_by f (read_packet b)) l

-- after these takes
abbrev pub paper_after : List (List ℕ) → Follower
paper_after l = takes_by fresh l

-- each take is handed bytes
abbrev pub EachBytes : List (List ℕ) → Type 0
EachBytes [] = Unit {0}
EachBytes (y ∷ l) = AllBytes y × EachBytes l
