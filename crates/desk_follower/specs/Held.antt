-- The packets that wait for their turn, in eight places: event m has place m % window. Number 0 says that no packet is there.
use Rattle.std.specs.Prelude.{ℕ, zero, suc, ◌%◌, max, Bool, true, cond, ◌&&◌, eqb, leb, get_or, set, replicate}
use Rattle.power_policy_interface.specs.Limits.{window}
use Rattle.interface_display.specs.Notices.{empty}
use Rattle.interface_display.specs.declared.packet.EventPacket.{EventPacket}
use Rattle.desk_follower.specs.declared.held.Held.{Held}

abbrev pub none : EventPacket
none = record { number = 0; answer = 0; orders = 0; notices = empty }

abbrev pub nothing : Held
nothing = record { packets = replicate window none }

abbrev pub packet_at : Held → ℕ → EventPacket
packet_at h i = get_or h.packets i none

abbrev pub put : Held → ℕ → EventPacket → Held
put h i p = record { packets = set h.packets i p }

-- what is at the place of event m, and whether it is that event's packet
abbrev pub held_for : Held → ℕ → EventPacket
held_for h m = packet_at h (m % window)

abbrev pub holds : Held → ℕ → Bool
holds h m = eqb (held_for h m).number m

abbrev pub placed : Held → EventPacket → Held
placed h p = put h (p.number % window) p

abbrev pub dropped : Held → ℕ → Held
dropped h m = put h (m % window) none

-- none is held in the first k places
unfoldable pub none_held : ℕ → Held → Bool
none_held zero h = true
none_held (suc k) h = none_held k h && eqb (packet_at h k).number 0

-- the greatest of m and the numbers in the first k places
unfoldable pub greatest : ℕ → ℕ → Held → ℕ
greatest m zero h = m
greatest m (suc k) h = max (packet_at h k).number (greatest m k h)

-- place k keeps only a packet numbered above m
abbrev pub kept_above : ℕ → ℕ → Held → Held
kept_above m k h = cond (leb (packet_at h k).number m) (put h k none) h

-- in the first k places, what is numbered m or less is dropped
unfoldable pub above : ℕ → ℕ → Held → Held
above m zero h = h
above m (suc k) h = kept_above m k (above m k h)
