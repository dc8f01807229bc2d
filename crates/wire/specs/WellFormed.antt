-- The packets that the reader accepts: each field within what is laid out (PKT-8
-- to PKT-16), and notices in their one form. A test, so that it can be decided.
use Rattle.std.specs.Prelude.{ℕ, Bool, true, ◌&&◌, List, [], ◌∷◌, leb, ltb, None, Option, Some}
use Rattle.power_policy_interface.specs.Limits.{largest, max_ports, max_orders}
use Rattle.power_policy_interface.specs.Capability.{capability_fits}
use Rattle.power_policy_interface.specs.declared.capability.PowerCapability.{PowerCapability}
use Rattle.power_policy_interface.specs.declared.service.event.Event.{Event}
use Rattle.interface_display.specs.Notices.{listed, padded}
use Rattle.interface_display.specs.Providers.{len, max_connected_providers}
use Rattle.interface_display.specs.declared.AvailableConsumer.{AvailableConsumer}
use Rattle.interface_display.specs.declared.packet.EventPacket.{EventPacket}
use Rattle.interface_display.specs.declared.packet.Packet.{Packet}
use Rattle.interface_display.specs.declared.packet.Picture.{Picture}

abbrev pub contract_fits : ℕ → PowerCapability → Bool
contract_fits port c = leb port 15 && capability_fits c

abbrev pub notice_fits : Event → Bool
notice_fits (Event.ConsumerDisconnected port d) = leb port 15
notice_fits (Event.ConsumerConnected port c) = contract_fits port c.capability
notice_fits (Event.ProviderDisconnected port) = leb port 15
notice_fits (Event.ProviderConnected port c) = contract_fits port c.capability
notice_fits (Event.Unconstrained u) = leb u.available max_ports

abbrev pub notices_fit : List Event → Bool
notices_fit [] = true
notices_fit (e ∷ l) = notice_fits e && notices_fit l

unfoldable pub event_fits : EventPacket → Bool
event_fits p =
    ltb 0 p.number
    && (leb p.number largest
    && (leb p.answer 10 && (leb p.orders max_orders && (padded p.notices && notices_fit (listed p.notices)))))

abbrev pub consumer_fits : Option AvailableConsumer → Bool
consumer_fits None = true
consumer_fits (Some c) = contract_fits c.psu c.consumer_power_capability.capability

unfoldable pub picture_fits : Picture → Bool
picture_fits p =
    leb p.number largest
    && (consumer_fits p.display.consumer
    && (leb p.display.unconstrained.available max_ports
    && (ltb p.display.providers.mask 65536 && leb (len p.display.providers) max_connected_providers)))

abbrev pub well_formed : Packet → Bool
well_formed (Packet.Event p) = event_fits p
well_formed (Packet.Picture p) = picture_fits p
