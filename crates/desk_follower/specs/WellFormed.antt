-- What every take keeps of a follower (proofs/Kept.antt): what is held stands in its place, in its one form.
use Rattle.std.specs.Prelude.{ℕ, zero, suc, ◌+◌, ◌%◌, ◌≤◌, ◌<◌, Bool, true, ◌&&◌, ◌||◌, ◌≡◌, ◌⊎◌, eqb, leb, length}
use Rattle.power_policy_interface.specs.Limits.{largest, window}
use Rattle.interface_display.specs.Notices.{padded}
use Rattle.interface_display.specs.declared.notices.Notices.{Notices}
use Rattle.interface_display.specs.declared.packet.EventPacket.{EventPacket}
use Rattle.interface_display.specs.declared.packet.Packet.{Packet}
use Rattle.desk_follower.specs.declared.Follower.{Follower}
use Rattle.desk_follower.specs.declared.Shown.{Shown}
use Rattle.desk_follower.specs.declared.held.Held.{Held}
use Rattle.desk_follower.specs.Held.{none, nothing, packet_at}

-- place i holds no packet, or that of an event from lo to hi whose place it is, its notices in their one form
abbrev pub InPlace : ℕ → ℕ → ℕ → EventPacket → Type 0
InPlace lo hi i p =
    (p ≡ none)
    ⊎ ((lo ≤ p.number) × (p.number ≤ hi) × (p.number ≤ largest) × (p.number % window ≡ i) × (padded p.notices ≡ true))

abbrev pub Within : ℕ → ℕ → Held → Type 0
Within lo hi h = (length h.packets ≡ window) × ((i : ℕ) → i < window → InPlace lo hi i (packet_at h i))

-- lost, nothing is held; showing n, what is held are packets of the events n + 2 to n + 8
abbrev pub WellFormedAt : Shown → Held → Type 0
WellFormedAt (Shown.Lost floor) h = (floor ≤ largest) × (h ≡ nothing)
WellFormedAt (Shown.Picture s) h = (s.number ≤ largest) × Within (s.number + 2) (s.number + window) h

abbrev pub WellFormed : Follower → Type 0
WellFormed f = WellFormedAt f.shown f.held

-- the packets that a take keeps it well formed with, as a reader gives them
abbrev pub Readable : Packet → Type 0
Readable (Packet.Event e) = (e.number ≤ largest) × (padded e.notices ≡ true)
Readable (Packet.Picture p) = p.number ≤ largest

-- the same as a test (proofs/Decided.antt)
abbrev pub no_notices : Notices → Bool
no_notices n = eqb n.count 0 && padded n

abbrev pub is_none : EventPacket → Bool
is_none p = eqb p.number 0 && (eqb p.answer 0 && (eqb p.orders 0 && no_notices p.notices))

abbrev pub in_place : ℕ → ℕ → ℕ → EventPacket → Bool
in_place lo hi i p =
    is_none p
    || (leb lo p.number && (leb p.number hi && (leb p.number largest && (eqb (p.number % window) i && padded p.notices))))

-- a test holds at each of the first k places
unfoldable pub all_places : (ℕ → EventPacket → Bool) → ℕ → Held → Bool
all_places t zero h = true
all_places t (suc k) h = all_places t k h && t k (packet_at h k)

abbrev pub well_formed_at : Shown → Held → Bool
well_formed_at (Shown.Lost floor) h = leb floor largest && (eqb (length h.packets) window && all_places (λ i p. is_none p) window h)
well_formed_at (Shown.Picture s) h =
    leb s.number largest && (eqb (length h.packets) window && all_places (in_place (s.number + 2) (s.number + window)) window h)

abbrev pub well_formed : Follower → Bool
well_formed f = well_formed_at f.shown f.held
