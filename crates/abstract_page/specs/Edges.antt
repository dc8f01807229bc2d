-- Pages of the example's follower (PRG-7), written out: each line by its name, its blanks and its figure.
use Rattle.std.specs.Prelude.{ℕ, List, [], ◌∷◌, ◌++◌, ◌≡◌, replicate}
use Rattle.abstract_desk.specs.Edges.{picture0, event1, event2, event3}
use Rattle.abstract_desk.specs.Takes.{paper_after}
use Rattle.abstract_page.specs.Page.{page_of}

-- this many blanks between
abbrev pub shows : List ℕ → ℕ → List ℕ → List ℕ
shows name k figure = name ++ (replicate k 0x20 ++ (figure ++ (0x0A ∷ [])))

abbrev pub six : List ℕ → List ℕ → List ℕ → List ℕ → List ℕ → List ℕ → List ℕ
six a b c d e f = a ++ (b ++ (c ++ (d ++ (e ++ f))))

-- number, state, port, millivolts, milliamps, tracked ports

abbrev pub number : ℕ → List ℕ → List ℕ
number k figure = shows (0x6E ∷ 0x75 ∷ 0x6D ∷ 0x62 ∷ 0x65 ∷ 0x72 ∷ []) k figure

abbrev pub state : ℕ → List ℕ → List ℕ
state k figure = shows (0x73 ∷ 0x74 ∷ 0x61 ∷ 0x74 ∷ 0x65 ∷ []) k figure

abbrev pub port : ℕ → List ℕ → List ℕ
port k figure = shows (0x70 ∷ 0x6F ∷ 0x72 ∷ 0x74 ∷ []) k figure

abbrev pub millivolts : ℕ → List ℕ → List ℕ
millivolts k figure = shows (0x6D ∷ 0x69 ∷ 0x6C ∷ 0x6C ∷ 0x69 ∷ 0x76 ∷ 0x6F ∷ 0x6C ∷ 0x74 ∷ 0x73 ∷ []) k figure

abbrev pub milliamps : ℕ → List ℕ → List ℕ
milliamps k figure = shows (0x6D ∷ 0x69 ∷ 0x6C ∷ 0x6C ∷ 0x69 ∷ 0x61 ∷ 0x6D ∷ 0x70 ∷ 0x73 ∷ []) k figure

abbrev pub tracked : ℕ → List ℕ → List ℕ
tracked k figure = shows (0x74 ∷ 0x72 ∷ 0x61 ∷ 0x63 ∷ 0x6B ∷ 0x65 ∷ 0x64 ∷ 0x20 ∷ 0x70 ∷ 0x6F ∷ 0x72 ∷ 0x74 ∷ 0x73 ∷ []) k figure

-- lost, level, waiting

abbrev pub lost : List ℕ
lost = 0x6C ∷ 0x6F ∷ 0x73 ∷ 0x74 ∷ []

abbrev pub level : List ℕ
level = 0x6C ∷ 0x65 ∷ 0x76 ∷ 0x65 ∷ 0x6C ∷ []

abbrev pub waiting : List ℕ
waiting = 0x77 ∷ 0x61 ∷ 0x69 ∷ 0x74 ∷ 0x69 ∷ 0x6E ∷ 0x67 ∷ []

abbrev pub hyphen : List ℕ
hyphen = 0x2D ∷ []

-- the picture of event 7 in which ports 0, 2, 10 and 15 are tracked
abbrev pub four : List ℕ
four = 0x02 ∷ 0x07 ∷ 0x00 ∷ 0x00 ∷ 0x00 ∷ 0x04 ∷ 0x00 ∷ 0x02 ∷ 0x0A ∷ 0x0F ∷ []

pub record PageEdges : Type 0 where
  -- the page after the third take: 2, level, port 1, 20000 mV, 3000 mA
  pub page_of_example :
      page_of (paper_after (picture0 ∷ event2 ∷ event1 ∷ []))
      ≡ six (number 33 (0x32 ∷ [])) (state 30 level) (port 35 (0x31 ∷ [])) (millivolts 25 (0x32 ∷ 0x30 ∷ 0x30 ∷ 0x30 ∷ 0x30 ∷ [])) (milliamps 27 (0x33 ∷ 0x30 ∷ 0x30 ∷ 0x30 ∷ [])) (tracked 26 hyphen)
  -- after the second: the start's number 0 is a figure, and it waits
  pub page_waiting :
      page_of (paper_after (picture0 ∷ event2 ∷ []))
      ≡ six (number 33 (0x30 ∷ [])) (state 28 waiting) (port 35 hyphen) (millivolts 29 hyphen) (milliamps 30 hyphen) (tracked 26 hyphen)
  -- after the fifth: lost
  pub page_lost :
      page_of (paper_after (picture0 ∷ event2 ∷ event1 ∷ event1 ∷ event3 ∷ []))
      ≡ six (number 33 hyphen) (state 31 lost) (port 35 hyphen) (millivolts 29 hyphen) (milliamps 30 hyphen) (tracked 26 hyphen)
  -- 0,2,10,15
  pub page_tracked :
      page_of (paper_after (four ∷ []))
      ≡ six (number 33 (0x37 ∷ [])) (state 30 level) (port 35 hyphen) (millivolts 29 hyphen) (milliamps 30 hyphen) (tracked 18 (0x30 ∷ 0x2C ∷ 0x32 ∷ 0x2C ∷ 0x31 ∷ 0x30 ∷ 0x2C ∷ 0x31 ∷ 0x35 ∷ []))
