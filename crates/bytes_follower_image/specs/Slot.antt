-- A slot of 32 bytes (docs/STATE.md): zeros, or 1, answer, orders, notice count and four notices. The event's number is the
-- slot's, so no byte tells it.
use Rattle.std.specs.Prelude.{ℕ, Bool, true, false, cond, ◌&&◌, List, [], ◌∷◌, ◌++◌, eqb, leb, get_or, replicate, None, Option, Some}
use Rattle.power_policy_interface.specs.Limits.{largest, max_orders, max_notices}
use Rattle.power_policy_interface.specs.declared.service.event.Event.{Event}
use Rattle.interface_display.specs.Notices.{filler}
use Rattle.interface_display.specs.declared.notices.Notices.{Notices}
use Rattle.interface_display.specs.declared.packet.EventPacket.{EventPacket}
use Rattle.desk_follower.specs.Held.{none}
use Rattle.bytes_groups.specs.Tagged.{tagged_at, tagged_bytes}
use Rattle.bytes_follower_image.specs.Notice.{place_tagged, place_from}

-- writing

abbrev pub notices_bytes : Notices → List ℕ
notices_bytes n =
    tagged_bytes (place_tagged n.count 0 (get_or n.events 0 filler))
    ++ (tagged_bytes (place_tagged n.count 1 (get_or n.events 1 filler))
    ++ (tagged_bytes (place_tagged n.count 2 (get_or n.events 2 filler)) ++ tagged_bytes (place_tagged n.count 3 (get_or n.events 3 filler))))

abbrev pub packet_bytes : EventPacket → List ℕ
packet_bytes p = 1 ∷ p.answer ∷ p.orders ∷ p.notices.count ∷ notices_bytes p.notices

-- number 0: none is held
abbrev pub slot_bytes : EventPacket → List ℕ
slot_bytes p = cond (eqb p.number 0) (replicate 32 0) (packet_bytes p)

-- reading

abbrev pub notices_of : ℕ → Option Event → Option Event → Option Event → Option Event → Option Notices
notices_of count None b c d = None
notices_of count (Some a) None c d = None
notices_of count (Some a) (Some b) None d = None
notices_of count (Some a) (Some b) (Some c) None = None
notices_of count (Some a) (Some b) (Some c) (Some d) =
    Some (record { count = count; events = a ∷ b ∷ c ∷ d ∷ [] })

-- the four notices from byte 4 on
abbrev pub notices_from : ℕ → List ℕ → Option Notices
notices_from count s =
    notices_of count (place_from count 0 (tagged_at s 4)) (place_from count 1 (tagged_at s 11)) (place_from count 2 (tagged_at s 18))
    (place_from count 3 (tagged_at s 25))

abbrev pub are_notices : Option Notices → Bool
are_notices None = false
are_notices (Some n) = true

abbrev pub packet_of : ℕ → ℕ → ℕ → Option Notices → Option EventPacket
packet_of number answer orders None = None
packet_of number answer orders (Some n) =
    Some (record { number = number; answer = answer; orders = orders; notices = n })

-- the event can have the number, and answer, orders and count are within what a packet has
abbrev pub head_fits : ℕ → ℕ → ℕ → ℕ → Bool
head_fits number answer orders count = leb number largest && (leb answer 10 && (leb orders max_orders && leb count max_notices))

abbrev pub packet_from : ℕ → List ℕ → Option EventPacket
packet_from number s =
    cond (head_fits number (get_or s 1 0) (get_or s 2 0) (get_or s 3 0))
    (packet_of number (get_or s 1 0) (get_or s 2 0) (notices_from (get_or s 3 0) s))
    None

-- every byte is 0
unfoldable pub zeros : List ℕ → Bool
zeros [] = true
zeros (b ∷ s) = eqb b 0 && zeros s

abbrev pub slot_cases : ℕ → List ℕ → List (Option EventPacket)
slot_cases number s = cond (zeros s) (Some none) None ∷ packet_from number s ∷ []

-- the slot of an event; a first byte above 1 is refused
abbrev pub slot_from : ℕ → List ℕ → Option EventPacket
slot_from number s = get_or (slot_cases number s) (get_or s 0 0) None

abbrev pub is_read : Option EventPacket → Bool
is_read None = false
is_read (Some p) = true
