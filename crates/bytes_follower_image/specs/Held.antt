-- The row of seven slots: when n is shown, those of the events n + 2 to n + 8, each at its place.
use Rattle.std.specs.Prelude.{ℕ, zero, suc, ◌+◌, ◌%◌, Bool, true, false, List, [], ◌∷◌, take, drop, None, Option, Some}
use Rattle.power_policy_interface.specs.Limits.{window}
use Rattle.interface_records.specs.Row.{written}
use Rattle.interface_display.specs.declared.packet.EventPacket.{EventPacket}
use Rattle.desk_follower.specs.Held.{nothing, put, held_for}
use Rattle.desk_follower.specs.declared.held.Held.{Held}
use Rattle.bytes_follower_image.specs.Slot.{slot_bytes, slot_from}

-- what is held of k events from event m on
abbrev pub slots : ℕ → ℕ → Held → List EventPacket
slots m zero h = []
slots m (suc k) h = held_for h m ∷ slots (suc m) k h

-- 224 bytes
abbrev pub held_bytes : ℕ → Held → List ℕ
held_bytes n h = written slot_bytes (slots (n + 2) 7 h)

abbrev pub slot_then : Option EventPacket → (EventPacket → Option Held) → Option Held
slot_then None f = None
slot_then (Some p) f = f p

-- the slots of k events from event m on, put into what is held
abbrev pub slots_from : ℕ → ℕ → List ℕ → Held → Option Held
slots_from m zero s h = Some h
slots_from m (suc k) s h = slot_then (slot_from m (take 32 s)) (λ p. slots_from (suc m) k (drop 32 s) (put h (m % window) p))

abbrev pub held_from : ℕ → List ℕ → Option Held
held_from n s = slots_from (n + 2) 7 s nothing

-- a refused row is None
abbrev pub is_held : Option Held → Bool
is_held None = false
is_held (Some h) = true
