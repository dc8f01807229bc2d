-- What the methods of the reader in packet.rt answer, as a reading: a refusal's number, or a value and the rest of the bytes.
use Rattle.std.specs.Prelude.{ℕ, List, Err, Ok, Result}
use Rattle.power_policy_interface.specs.Refusal.{refusal_number}
use Rattle.power_policy_interface.specs.declared.refusal.Refusal.{Refusal}
use Rattle.interface_display.specs.declared.packet.Packet.{Packet}
use Rattle.wire.specs.Parser.{Parsed, refused, parsed}
use Rattle.wire.specs.Packet.{packet}

abbrev pub went : {A : Type 0} → Result A Refusal → List ℕ → Parsed A
went (Err r) s = refused (refusal_number r)
went (Ok a) s = parsed a s

abbrev pub packet_read : Parsed Packet → Result Packet ℕ
packet_read (refused n) = Err n
packet_read (parsed p s) = Ok p

-- REF-3: the packet of all the bytes, or what is met first from the left
abbrev pub read_packet : List ℕ → Result Packet ℕ
read_packet s = packet_read (packet s)
