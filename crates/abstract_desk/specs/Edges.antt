-- The follower at its edges, computed: what it says after each take.
use Rattle.std.specs.Prelude.{ℕ, List, [], ◌∷◌, ◌≡◌, None, Option, Some}
use Rattle.interface_display.specs.declared.State.{State}
use Rattle.wire.specs.Read.{read_packet}
use Rattle.abstract_desk.specs.Follower.{Follower, lost, showing, fresh, state}
use Rattle.abstract_desk.specs.Takes.{read_by}

-- the packets of the example (PRG-7)

abbrev pub picture0 : List ℕ
picture0 = 0x02 ∷ 0x00 ∷ 0x00 ∷ 0x00 ∷ 0x00 ∷ 0x00 ∷ []

abbrev pub event2 : List ℕ
event2 = 0x01 ∷ 0x02 ∷ 0x00 ∷ 0x00 ∷ 0x00 ∷ []

abbrev pub event1 : List ℕ
event1 = 0x01 ∷ 0x01 ∷ 0x00 ∷ 0x02 ∷ 0x01 ∷ 0x02 ∷ 0x01 ∷ 0xA0 ∷ 0x9C ∷ 0x01 ∷ 0xB8 ∷ 0x17 ∷ 0x02 ∷ []

abbrev pub event3 : List ℕ
event3 = 0x01 ∷ 0x03 ∷ 0x07 ∷ 0x01 ∷ 0x00 ∷ []

-- its state, and the number shown
abbrev pub said : Follower → State × Option ℕ
said (lost floor) = (State.Lost, None)
said (showing n d held) = (state (showing n d held), Some n)

abbrev pub said_after : Follower → List (List ℕ) → List (State × Option ℕ)
said_after f [] = []
said_after f (b ∷ l) = said (read_by f (read_packet b)) ∷ said_after (read_by f (read_packet b)) l

pub record DeskEdges : Type 0 where
  -- EDG-12: P12's five takes
  pub five_takes :
      said_after fresh (picture0 ∷ event2 ∷ event1 ∷ event1 ∷ event3 ∷ [])
      ≡ (State.Level, Some 0) ∷ (State.Waiting, Some 0) ∷ (State.Level, Some 2) ∷ (State.Level, Some 2) ∷ (State.Lost, None) ∷ []
  -- bytes that are turned back (a kind 3) change nothing
  pub refused_stays : said_after fresh (picture0 ∷ (3 ∷ []) ∷ []) ≡ (State.Level, Some 0) ∷ (State.Level, Some 0) ∷ []
  -- lost, it does not go back: after event 3 the start's picture is too low
  pub stays_lost : said_after fresh (event3 ∷ picture0 ∷ []) ≡ (State.Lost, None) ∷ (State.Lost, None) ∷ []
