-- Lists of takes: each is handed the bytes of a packet or picture that was written, in any order and however often, or bytes that 30 to 33
-- turn back.
use Rattle.std.specs.Prelude.{ℕ, List, [], ◌∷◌, ◌⊎◌, ◌≡◌, Err, Ok, Result}
use Rattle.interface_display.specs.declared.Display.{Display}
use Rattle.interface_display.specs.declared.packet.Packet.{Packet}
use Rattle.wire.specs.Bytes.{packet_bytes}
use Rattle.wire.specs.Read.{read_packet}
use Rattle.desk_follower.specs.Follower.{taken}
use Rattle.desk_follower.specs.declared.Follower.{Follower}
use Rattle.desk_follower.specs.declared.Shown.{Shown}
use Rattle.promise_link.specs.Source.{Source}

-- a take: bytes that are turned back change nothing
abbrev pub taken_read : Follower → Result Packet ℕ → Follower
taken_read f (Err n) = f
taken_read f (Ok p) = taken f p

abbrev pub take_bytes : Follower → List ℕ → Follower
take_bytes f b = taken_read f (read_packet b)

abbrev pub takes_bytes : Follower → List (List ℕ) → Follower
takes_bytes f [] = f
takes_bytes f (b ∷ l) = takes_bytes (take_bytes f b) l

-- what the link hands over
pub data Carried (source : Source) (b : List ℕ) : Type 0 where
  copy : (p : Packet) → source.Written p → b ≡ packet_bytes p → Carried source b
  turned_back : (n : ℕ) → read_packet b ≡ Err n → Carried source b

abbrev pub AllCarried : Source → List (List ℕ) → Type 0
AllCarried source [] = Unit {0}
AllCarried source (b ∷ l) = Carried source b × AllCarried source l

-- among the takes there is this packet
abbrev pub Met : Packet → List (List ℕ) → Type 0
Met p [] = ⊥
Met p (b ∷ l) = (read_packet b ≡ Ok p) ⊎ Met p l

-- what is shown

abbrev pub FollowerLost : Follower → Type 0
FollowerLost f = (floor : ℕ) × (f.shown ≡ Shown.Lost floor)

abbrev pub FollowerShows : Follower → ℕ → Display → Type 0
FollowerShows f n d = f.shown ≡ Shown.Picture (record { number = n; display = d })
