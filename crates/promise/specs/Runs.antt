-- What a run wrote and the link hands over, and what a follower's readers show, of any functions. A run is what a start left, `image`, with what it
-- registered, g, and the calls after it.
use Rattle.std.specs.Prelude.{ℕ, ◌+◌, ◌/◌, ◌≤◌, ◌<◌, List, [], ◌∷◌, ◌++◌, ◌⊎◌, ◌≡◌, length, take, Err, None, Ok}
use Rattle.power_policy_interface.specs.Limits.{page_length}
use Rattle.interface_display.specs.Providers.{none}
use Rattle.interface_display.specs.declared.Display.{Display}
use Rattle.interface_display.specs.declared.State.{State}
use Rattle.abstract_policy.specs.declared.state.Registration.{Registration}
use Rattle.wire.specs.Read.{read_packet}
use Rattle.abstract_page.specs.Page.{Entry, lost_entries, shown_entries}
use Rattle.abstract_page.specs.ReadPage.{read_page}
use Rattle.abstract_calls.specs.Numbers.{lost_number, shown_number, consumer_number, tracked_number}
use Rattle.abstract_calls.specs.ServiceCall.{ByteCall, write_packet, write_picture}
use Rattle.abstract_calls.specs.Calls.{images, Writes}
use Rattle.abstract_calls.specs.Functions.{Functions}
use Rattle.abstract_calls.specs.Definition.{defined}

module _ (f : Functions) (image : List ℕ) (g : Registration) (calls : List ByteCall) where
  -- these bytes are the packet of event n: a call of the run has written them when n was the event closed last
  pub record PacketOf (n : ℕ) (y : List ℕ) : Type 0 where
    pub before : List ByteCall
    pub buffer : List ℕ
    pub rest : List ByteCall
    pub among : calls ≡ before ++ (write_packet buffer ∷ rest)
    pub writes : Writes f (images f image before) (write_packet buffer) y
    pub number : (defined g before).number ≡ n

  -- likewise the picture of what was held then (0: the start)
  pub record PictureOf (n : ℕ) (y : List ℕ) : Type 0 where
    pub before : List ByteCall
    pub buffer : List ℕ
    pub rest : List ByteCall
    pub among : calls ≡ before ++ (write_picture buffer ∷ rest)
    pub writes : Writes f (images f image before) (write_picture buffer) y
    pub number : (defined g before).number ≡ n

  -- LNK-3: what the link hands over: a copy of a packet or picture of the run, or bytes that 30 to 33 turn back
  pub data Handed (y : List ℕ) : Type 0 where
    packet : (n : ℕ) → PacketOf n y → Handed y
    picture : (n : ℕ) → PictureOf n y → Handed y
    turned_back : (n : ℕ) → read_packet y ≡ Err n → Handed y

  -- in any order and however often
  abbrev pub AllHanded : List (List ℕ) → Type 0
  AllHanded [] = Unit {0}
  AllHanded (y ∷ l) = Handed y × AllHanded l

  -- among the takes

  abbrev pub In : List ℕ → List (List ℕ) → Type 0
  In y [] = ⊥
  In y (z ∷ l) = (z ≡ y) ⊎ In y l

  -- LNK-6: each event packet from n + 1 to n + k is, without error
  abbrev pub Comes : ℕ → ℕ → List (List ℕ) → Type 0
  Comes n k l =
      (j : ℕ) → n < j → j ≤ n + k → (y : List ℕ) × In y l × ((w : PacketOf j y) × ((defined g w.before).answer ≡ (Ok tt)))

  -- nothing above this number is: no packet and no picture
  abbrev pub NothingAbove : ℕ → List (List ℕ) → Type 0
  NothingAbove m l = (n : ℕ) (y : List ℕ) → In y l → PacketOf n y ⊎ PictureOf n y → n ≤ m

  -- every event packet met is numbered so or lower
  abbrev pub NoEventAbove : ℕ → List (List ℕ) → Type 0
  NoEventAbove m l = (n : ℕ) (y : List ℕ) → In y l → PacketOf n y → n ≤ m

-- S1-7: what is read from the page that is written of it, whatever the buffer of 246 bytes or more
abbrev pub Says : Functions → List ℕ → List Entry → Type 0
Says f b l = (buffer : List ℕ) → page_length ≤ length buffer → read_page (take page_length (f.write_page b buffer).bytes) ≡ l

-- the reader tells this state and number with both figures, and the page says the same
abbrev pub ShownAs : Functions → List ℕ → State → ℕ → Display → Type 0
ShownAs f b s n d = (f.shown b ≡ shown_number s n d) × Says f b (shown_entries s n d)

-- what an image of the follower shows is what the three readers return and the page says

pub record Lost (f : Functions) (b : List ℕ) : Type 0 where
  pub shown : f.shown b ≡ lost_number
  pub consumer : f.consumer b ≡ consumer_number None
  pub tracked : f.tracked b ≡ tracked_number none
  -- S1-5: hyphens on all but the state line
  pub page : Says f b lost_entries

pub record Shows (f : Functions) (b : List ℕ) (n : ℕ) (d : Display) : Type 0 where
  -- level or waiting
  pub shown : ShownAs f b State.Level n d ⊎ ShownAs f b State.Waiting n d
  -- the number stands alone in the four bytes above
  pub number : f.shown b / 4294967296 ≡ n
  pub consumer : f.consumer b ≡ consumer_number d.consumer
  pub tracked : f.tracked b ≡ tracked_number d.providers
