-- The follower (FOL-1 to FOL-11) as the code has it, its packets in
-- eight places. It does what the abstract one does (promise_link).
use Rattle.std.specs.Prelude.{ℕ, zero, suc, ◌+◌, max, Bool, cond, eqb, leb, ltb, None, Option, Some}
use Rattle.power_policy_interface.specs.Limits.{window}
use Rattle.power_policy_interface.specs.Capability.{max_power_mw}
use Rattle.interface_display.specs.Notices.{all_applied}
use Rattle.interface_display.specs.declared.Display.{Display}
use Rattle.interface_display.specs.declared.AvailableConsumer.{AvailableConsumer}
use Rattle.interface_display.specs.declared.packet.EventPacket.{EventPacket}
use Rattle.interface_display.specs.declared.packet.Packet.{Packet}
use Rattle.interface_display.specs.declared.packet.Picture.{Picture}
use Rattle.interface_display.specs.declared.State.{State}
use Rattle.desk_follower.specs.Held.{nothing, held_for, holds, placed, dropped, none_held, greatest, above}
use Rattle.desk_follower.specs.declared.Follower.{Follower}
use Rattle.desk_follower.specs.declared.Shown.{Shown}
use Rattle.desk_follower.specs.declared.held.Held.{Held}

-- lost, held packets are dropped
abbrev pub lost : ℕ → Follower
lost floor = record { shown = Shown.Lost floor; held = nothing }

abbrev pub showing : Picture → Held → Follower
showing s h = record { shown = Shown.Picture s; held = h }

abbrev pub at : ℕ → Display → Picture
at n d = record { number = n; display = d }

-- a follower starts lost with floor 0
abbrev pub fresh : Follower
fresh = lost 0

-- held packets are applied in turn, at most k of them, as long as the next number is held: its notices act in order if its
-- answer is 0, otherwise lost
unfoldable pub in_turn : ℕ → ℕ → ℕ → Display → Held → Follower
in_turn zero floor n d h = showing (at n d) h
in_turn (suc k) floor n d h =
    cond (holds h (n + 1))
    (cond (eqb (held_for h (n + 1)).answer 0)
    (in_turn k floor (n + 1) (all_applied (held_for h (n + 1)).notices d) (dropped h (n + 1)))
    (lost floor))
    (showing (at n d) h)

-- there are eight places; the floor on becoming lost is the greatest number met (proofs/Floor.antt)
abbrev pub settled : Picture → Held → Follower
settled s h = in_turn window (greatest s.number window h) s.number s.display h

-- showing n: numbered n or less, dropped; beyond n + 8, lost; n + 1 to n + 8, held (of equal numbers the first) and applied in turn
abbrev pub taken_event : Picture → Held → EventPacket → Follower
taken_event s h e =
    cond (leb e.number s.number) (showing s h)
    (cond (ltb (s.number + window) e.number) (lost (greatest e.number window h))
    (cond (holds h e.number) (showing s h) (settled s (placed h e))))

-- a picture above n replaces the display; held packets above it stay and follow in turn
abbrev pub taken_picture : Picture → Held → Picture → Follower
taken_picture s h p = cond (leb p.number s.number) (showing s h) (settled p (above p.number window h))

-- lost, it raises the floor to each event number it meets, and accepts only a picture whose number is at least the floor
abbrev pub taken_at : Shown → Held → Packet → Follower
taken_at (Shown.Lost floor) h (Packet.Event e) = lost (max floor e.number)
taken_at (Shown.Lost floor) h (Packet.Picture p) =
    cond (ltb p.number floor) (record { shown = Shown.Lost floor; held = h }) (showing p nothing)
taken_at (Shown.Picture s) h (Packet.Event e) = taken_event s h e
taken_at (Shown.Picture s) h (Packet.Picture p) = taken_picture s h p

abbrev pub taken : Follower → Packet → Follower
taken f p = taken_at f.shown f.held p

abbrev pub state_at : Shown → Bool → State
state_at (Shown.Lost floor) none = State.Lost
state_at (Shown.Picture s) none = cond none State.Level State.Waiting

-- the consumer's port and its mW
abbrev pub port_in : Option AvailableConsumer → Option ℕ
port_in None = None
port_in (Some c) = Some c.psu

abbrev pub mw_in : Option AvailableConsumer → Option ℕ
mw_in None = None
mw_in (Some c) = Some (max_power_mw c.consumer_power_capability.capability)

-- lost, or else, showing n, level or waiting (something held)
abbrev pub state_of : Follower → State
state_of f = state_at f.shown (none_held window f.held)

abbrev pub picture_of : Shown → Option Picture
picture_of (Shown.Lost floor) = None
picture_of (Shown.Picture s) = Some s

abbrev pub number_of : Shown → Option ℕ
number_of (Shown.Lost floor) = None
number_of (Shown.Picture s) = Some s.number

abbrev pub shown_display : Shown → Option Display
shown_display (Shown.Lost floor) = None
shown_display (Shown.Picture s) = Some s.display

abbrev pub consumer_of : Shown → Option AvailableConsumer
consumer_of (Shown.Lost floor) = None
consumer_of (Shown.Picture s) = s.display.consumer

abbrev pub port_of : Shown → Option ℕ
port_of s = port_in (consumer_of s)

abbrev pub mw_of : Shown → Option ℕ
mw_of s = mw_in (consumer_of s)
