-- The page of a follower (S1): six lines, each a name and a figure.
use Rattle.std.specs.Prelude.{ℕ, true, List, [], ◌∷◌, ◌++◌, ◌≡◌, None, Option, Some}
use Rattle.interface_display.specs.declared.AvailableConsumer.{AvailableConsumer}
use Rattle.interface_display.specs.declared.Display.{Display}
use Rattle.interface_display.specs.declared.State.{State}
use Rattle.wire.specs.Bytes.{ports_bytes}
use Rattle.wire.specs.WellFormed.{picture_fits}
use Rattle.abstract_desk.specs.Follower as desk
use Rattle.abstract_page.specs.Text.{comma, hyphen, newline, decimal, word, left, right}

-- a figure is absent, or numbers (one but for the tracked ports), or a state
pub data Figure : Type 0 where
  absent : Figure
  numbers : List ℕ → Figure
  state : State → Figure

pub record Entry : Type 0 where
  pub name : List ℕ
  pub figure : Figure

-- S1-4: only commas between
abbrev pub commas : List ℕ → List ℕ
commas [] = []
commas (n ∷ []) = decimal n
commas (n ∷ m ∷ l) = decimal n ++ (comma ∷ commas (m ∷ l))

-- S1-4: an absent figure is a hyphen
abbrev pub text : Figure → List ℕ
text absent = hyphen ∷ []
text (numbers l) = commas l
text (state s) = word s

-- S1-1, S1-3: the name left in 20 columns, the figure right in 20, and a newline
unfoldable pub line : Entry → List ℕ
line e = left 20 e.name ++ (right 20 (text e.figure) ++ (newline ∷ []))

abbrev pub lines : List Entry → List ℕ
lines [] = []
lines (e ∷ l) = line e ++ lines l

-- number
abbrev pub number_name : List ℕ
number_name = 110 ∷ 117 ∷ 109 ∷ 98 ∷ 101 ∷ 114 ∷ []

-- state
abbrev pub state_name : List ℕ
state_name = 115 ∷ 116 ∷ 97 ∷ 116 ∷ 101 ∷ []

-- port
abbrev pub port_name : List ℕ
port_name = 112 ∷ 111 ∷ 114 ∷ 116 ∷ []

-- millivolts
abbrev pub millivolts_name : List ℕ
millivolts_name = 109 ∷ 105 ∷ 108 ∷ 108 ∷ 105 ∷ 118 ∷ 111 ∷ 108 ∷ 116 ∷ 115 ∷ []

-- milliamps
abbrev pub milliamps_name : List ℕ
milliamps_name = 109 ∷ 105 ∷ 108 ∷ 108 ∷ 105 ∷ 97 ∷ 109 ∷ 112 ∷ 115 ∷ []

-- tracked ports
abbrev pub tracked_name : List ℕ
tracked_name = 116 ∷ 114 ∷ 97 ∷ 99 ∷ 107 ∷ 101 ∷ 100 ∷ 32 ∷ 112 ∷ 111 ∷ 114 ∷ 116 ∷ 115 ∷ []

-- S1-2: the six entries, in this order
abbrev pub entries : Figure → Figure → Figure → Figure → Figure → Figure → List Entry
entries number said port mv ma tracked =
    record { name = number_name; figure = number }
    ∷ record { name = state_name; figure = said }
    ∷ record { name = port_name; figure = port }
    ∷ record { name = millivolts_name; figure = mv }
    ∷ record { name = milliamps_name; figure = ma }
    ∷ record { name = tracked_name; figure = tracked }
    ∷ []

abbrev pub one : ℕ → Figure
one n = numbers (n ∷ [])

abbrev pub millivolts : AvailableConsumer → ℕ
millivolts c = c.consumer_power_capability.capability.voltage_mv

abbrev pub milliamps : AvailableConsumer → ℕ
milliamps c = c.consumer_power_capability.capability.current_ma

-- a figure of the consumer, absent without one
abbrev pub of_consumer : (AvailableConsumer → ℕ) → Option AvailableConsumer → Figure
of_consumer f None = absent
of_consumer f (Some c) = one (f c)

-- S1-4: an empty set is absent
abbrev pub ports : List ℕ → Figure
ports [] = absent
ports (p ∷ l) = numbers (p ∷ l)

-- S1-5: lost, all but the state are absent
abbrev pub lost_entries : List Entry
lost_entries = entries absent (state State.Lost) absent absent absent absent

-- showing n, level or waiting; S1-4: `ports_bytes` has the tracked ports rising
abbrev pub shown_entries : State → ℕ → Display → List Entry
shown_entries s n d =
    entries (one n) (state s) (of_consumer (λ c. c.psu) d.consumer) (of_consumer millivolts d.consumer) (of_consumer milliamps d.consumer)
    (ports (ports_bytes d.providers.mask))

abbrev pub entries_of : desk.Follower → List Entry
entries_of (desk.lost floor) = lost_entries
entries_of (desk.showing n d held) = shown_entries (desk.state (desk.showing n d held)) n d

-- S1-6: the page
abbrev pub page_of : desk.Follower → List ℕ
page_of p = lines (entries_of p)

-- what is shown is within what a picture has, as in every follower after any takes (promise Claim); then no text is longer than its columns
abbrev pub Fits : desk.Follower → Type 0
Fits (desk.lost floor) = Unit {0}
Fits (desk.showing n d held) = picture_fits (record { number = n; display = d }) ≡ true
