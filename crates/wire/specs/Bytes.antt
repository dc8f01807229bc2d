-- What is written (PKT-8 to PKT-16): the bytes of each field in its place, at most 64 for fields within their ranges
-- (proofs/Lengths.antt). It is total: a field out of its range is written as it stands.
use Rattle.std.specs.Prelude.{ℕ, zero, suc, ◌/◌, ◌%◌, cond, List, [], ◌∷◌, ◌++◌, eqb, None, Option, Some}
use Rattle.power_policy_interface.specs.Limits.{max_ports}
use Rattle.power_policy_interface.specs.Capability.{bit, consumer_flags_byte, provider_flags_byte, disconnect_byte}
use Rattle.power_policy_interface.specs.declared.capability.PowerCapability.{PowerCapability}
use Rattle.power_policy_interface.specs.declared.service.UnconstrainedState.{UnconstrainedState}
use Rattle.power_policy_interface.specs.declared.service.event.Event.{Event}
use Rattle.interface_display.specs.Notices.{listed, length_of}
use Rattle.interface_display.specs.Providers.{len}
use Rattle.interface_display.specs.declared.AvailableConsumer.{AvailableConsumer}
use Rattle.interface_display.specs.declared.packet.EventPacket.{EventPacket}
use Rattle.interface_display.specs.declared.packet.Packet.{Packet}
use Rattle.interface_display.specs.declared.packet.Picture.{Picture}
use Rattle.wire.specs.Number.{leb128}

unfoldable pub capability_bytes : PowerCapability → List ℕ
capability_bytes c = leb128 c.voltage_mv ++ leb128 c.current_ma

-- port, mV, mA, flags
unfoldable pub contract_bytes : ℕ → PowerCapability → ℕ → List ℕ
contract_bytes port c flags = port ∷ (capability_bytes c ++ (flags ∷ []))

abbrev pub unconstrained_bytes : UnconstrainedState → List ℕ
unconstrained_bytes u = bit u.unconstrained ∷ u.available ∷ []

unfoldable pub notice_bytes : Event → List ℕ
notice_bytes (Event.ConsumerDisconnected port d) = 1 ∷ port ∷ disconnect_byte d ∷ []
notice_bytes (Event.ConsumerConnected port c) = 2 ∷ contract_bytes port c.capability (consumer_flags_byte c.flags)
notice_bytes (Event.ProviderDisconnected port) = 3 ∷ port ∷ []
notice_bytes (Event.ProviderConnected port c) = 4 ∷ contract_bytes port c.capability (provider_flags_byte c.flags)
notice_bytes (Event.Unconstrained u) = 5 ∷ unconstrained_bytes u

abbrev pub all_bytes : List Event → List ℕ
all_bytes [] = []
all_bytes (e ∷ l) = notice_bytes e ++ all_bytes l

unfoldable pub event_bytes : EventPacket → List ℕ
event_bytes p =
    1 ∷ (leb128 p.number ++ (p.answer ∷ (leb128 p.orders ++ (length_of p.notices ∷ all_bytes (listed p.notices)))))

unfoldable pub consumer_bytes : Option AvailableConsumer → List ℕ
consumer_bytes None = 0 ∷ []
consumer_bytes (Some c) =
    1 ∷ contract_bytes c.psu c.consumer_power_capability.capability (consumer_flags_byte c.consumer_power_capability.flags)

-- n ports from p on: those whose bits are set in m, rising
abbrev pub ports_from : ℕ → ℕ → ℕ → List ℕ
ports_from zero p m = []
ports_from (suc n) p m = cond (eqb (m % 2) 1) (p ∷ ports_from n (suc p) (m / 2)) (ports_from n (suc p) (m / 2))

unfoldable pub ports_bytes : ℕ → List ℕ
ports_bytes mask = ports_from max_ports 0 mask

unfoldable pub picture_bytes : Picture → List ℕ
picture_bytes p =
    2 ∷ (leb128 p.number ++ (consumer_bytes p.display.consumer
    ++ (unconstrained_bytes p.display.unconstrained
    ++ (len p.display.providers ∷ ports_bytes p.display.providers.mask))))

abbrev pub packet_bytes : Packet → List ℕ
packet_bytes (Packet.Event p) = event_bytes p
packet_bytes (Packet.Picture p) = picture_bytes p
