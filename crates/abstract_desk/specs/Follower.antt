-- The abstract follower, FOL-1 to FOL-11 one by one. How a program keeps the packets that wait is no part of it; that ours does the same is promise_link
-- specs/Alike.antt.
use Rattle.std.specs.Prelude.{ℕ, ◌+◌, max, cond, List, [], ◌∷◌, eqb, leb, ltb, None, Option, Some}
use Rattle.power_policy_interface.specs.Limits.{window}
use Rattle.interface_display.specs.Notices.{all_applied}
use Rattle.interface_display.specs.declared.Display.{Display}
use Rattle.interface_display.specs.declared.packet.EventPacket.{EventPacket}
use Rattle.interface_display.specs.declared.packet.Packet.{Packet}
use Rattle.interface_display.specs.declared.packet.Picture.{Picture}
use Rattle.interface_display.specs.declared.State.{State}

-- lost with a floor; or showing n, with its display and the event packets that wait, in rising order of their numbers
pub data Follower : Type 0 where
  lost : (floor : ℕ) → Follower
  showing : (n : ℕ) (display : Display) (held : List EventPacket) → Follower

-- FOL-1: a follower starts lost with floor 0
abbrev pub fresh : Follower
fresh = lost 0

-- FOL-7: the greatest number met: of the packet handed in and those held, since all else that was met is numbered n or less
abbrev pub greatest : ℕ → List EventPacket → ℕ
greatest m [] = m
greatest m (e ∷ l) = max e.number (greatest m l)

-- FOL-5: a packet among those held, by its number; of equal numbers the first stays
abbrev pub held_with : EventPacket → List EventPacket → List EventPacket
held_with e [] = e ∷ []
held_with e (x ∷ l) =
    cond (ltb e.number x.number) (e ∷ x ∷ l) (cond (eqb e.number x.number) (x ∷ l) (x ∷ held_with e l))

-- those numbered above m
abbrev pub above : ℕ → List EventPacket → List EventPacket
above m [] = []
above m (e ∷ l) = cond (ltb m e.number) (e ∷ above m l) (above m l)

-- FOL-4, FOL-9: the packet of n + 1 is applied, its notices in order, if its answer is 0, otherwise lost with this floor; and those after it in turn
abbrev pub in_turn : ℕ → ℕ → Display → List EventPacket → Follower
in_turn floor n d [] = showing n d []
in_turn floor n d (e ∷ l) =
    cond (eqb e.number (n + 1))
    (cond (eqb e.answer 0) (in_turn floor (n + 1) (all_applied e.notices d) l) (lost floor))
    (showing n d (e ∷ l))

-- showing n, an event packet: only its number says whether it is old, next or ahead (FOL-11)
abbrev pub taken_event : ℕ → Display → List EventPacket → EventPacket → Follower
taken_event n d held e =
    -- numbered n or less, it is dropped
    cond (leb e.number n) (showing n d held)
    -- FOL-4: n + 1 is applied if its answer is 0, otherwise lost; what is held follows in turn
    (cond (eqb e.number (n + 1)) (in_turn (greatest e.number held) n d (e ∷ held))
    -- FOL-5: n + 2 to n + 8 are held
    (cond (leb e.number (n + window)) (showing n d (held_with e held))
    -- FOL-6, FOL-7: beyond n + 8, lost: the floor is the greatest number met, and held packets are dropped
    (lost (greatest e.number held))))

-- showing n, a picture
abbrev pub taken_picture : ℕ → Display → List EventPacket → Picture → Follower
taken_picture n d held p =
    -- numbered n or less, it is dropped
    cond (leb p.number n) (showing n d held)
    -- FOL-8: above n, it replaces the display; held packets above it stay and follow in turn
    (in_turn (greatest p.number held) p.number p.display (above p.number held))

abbrev pub taken : Follower → Packet → Follower
-- FOL-2: lost, it raises the floor to each event number it meets,
taken (lost floor) (Packet.Event e) = lost (max floor e.number)
-- and accepts only a picture whose number is at least the floor
taken (lost floor) (Packet.Picture p) = cond (leb floor p.number) (showing p.number p.display []) (lost floor)
taken (showing n d held) (Packet.Event e) = taken_event n d held e
taken (showing n d held) (Packet.Picture p) = taken_picture n d held p

-- FOL-10: lost, or else, showing n, level or waiting (something held)
abbrev pub state : Follower → State
state (lost floor) = State.Lost
state (showing n d []) = State.Level
state (showing n d (e ∷ l)) = State.Waiting

-- what is shown: nothing, or the number and the display
abbrev pub shown : Follower → Option Picture
shown (lost floor) = None
shown (showing n d held) = Some (record { number = n; display = d })
