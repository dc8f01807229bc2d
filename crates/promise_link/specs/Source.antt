-- What the link carries, for any writer: what is held at each number, and the packets and pictures that were written.
use Rattle.std.specs.Prelude.{ℕ, suc, true, ◌≡◌}
use Rattle.interface_display.specs.Notices.{all_applied}
use Rattle.interface_display.specs.declared.Display.{Display}
use Rattle.interface_display.specs.declared.packet.EventPacket.{EventPacket}
use Rattle.interface_display.specs.declared.packet.Packet.{Packet}
use Rattle.interface_display.specs.declared.packet.Picture.{Picture}
use Rattle.wire.specs.WellFormed.{well_formed}

abbrev pub number_in : Packet → ℕ
number_in (Packet.Event e) = e.number
number_in (Packet.Picture p) = p.number

pub record Source : Type 1 where
  pub held : ℕ → Display
  -- event n has closed (0: the start)
  pub Closed : ℕ → Type 0
  pub Written : Packet → Type 0
  -- what is written is of such a number
  pub closed : (p : Packet) → Written p → Closed (number_in p)
  -- each has its fields within what is laid out (PKT)
  pub fits : (p : Packet) → Written p → well_formed p ≡ true
  -- a picture shows what is held at its number
  pub picture : (p : Picture) → Written (Packet.Picture p) → p.display ≡ held p.number
  -- a packet without error carries what is held at one number to what is held at the next
  pub event : (n : ℕ) (e : EventPacket) → Written (Packet.Event e) → e.number ≡ suc n → e.answer ≡ 0
      → all_applied e.notices (held n) ≡ held (suc n)
  -- an event has one packet
  pub one : (e f : EventPacket) → Written (Packet.Event e) → Written (Packet.Event f) → e.number ≡ f.number → e ≡ f
