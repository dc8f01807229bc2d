-- The packet of the event closed last, and the full picture of what is held; and what turns them back.
use Rattle.std.specs.Prelude.{ℕ, Bool, cond, List, eqb, Err, None, Ok, Option, Result, Some}
use Rattle.power_policy_interface.specs.Psu.{answer_byte}
use Rattle.power_policy_interface.specs.declared.service.event.Event.{Event}
use Rattle.interface_display.specs.Notices.{empty, pushed}
use Rattle.interface_display.specs.declared.AvailableConsumer.{AvailableConsumer}
use Rattle.power_policy_interface.specs.declared.service.UnconstrainedState.{UnconstrainedState}
use Rattle.interface_display.specs.declared.notices.Notices as display
use Rattle.interface_display.specs.declared.packet.EventPacket.{EventPacket}
use Rattle.interface_display.specs.declared.packet.Picture.{Picture}
use Rattle.abstract_policy.specs.Refusals.{first_refused, packet_conditions, picture_conditions}
use Rattle.abstract_policy.specs.State.{display_of}
use Rattle.machine_state.specs.declared.memory.Disconnected.{Disconnected}
use Rattle.machine_state.specs.declared.memory.Notices.{Notices}
use Rattle.machine_state.specs.declared.memory.ProviderNotice.{ProviderNotice}
use Rattle.machine_state.specs.declared.phase.Phase.{Phase}
use Rattle.machine_service.specs.Refusals.{is_open}
use Rattle.machine_service.specs.declared.Service.{Service}

-- a notice that is told comes last in the list
abbrev pub push_told : display.Notices → Option Event → display.Notices
push_told l None = l
push_told l (Some e) = pushed l e

-- what is told of a provider
abbrev pub provider_event : ProviderNotice → Event
provider_event (ProviderNotice.Disconnected p) = Event.ProviderDisconnected p
provider_event (ProviderNotice.Connected p c) = Event.ProviderConnected p c

-- the notices in their order

abbrev pub push_provider : display.Notices → Option ProviderNotice → display.Notices
push_provider l None = l
push_provider l (Some (ProviderNotice.Disconnected p)) = pushed l (Event.ProviderDisconnected p)
push_provider l (Some (ProviderNotice.Connected p c)) = pushed l (Event.ProviderConnected p c)

abbrev pub push_disconnected : display.Notices → Option Disconnected → display.Notices
push_disconnected l None = l
push_disconnected l (Some d) = pushed l (Event.ConsumerDisconnected d.port d.flags)

abbrev pub push_connected : display.Notices → Option AvailableConsumer → display.Notices
push_connected l None = l
push_connected l (Some c) = pushed l (Event.ConsumerConnected c.psu c.consumer_power_capability)

abbrev pub push_unconstrained : display.Notices → Option UnconstrainedState → display.Notices
push_unconstrained l None = l
push_unconstrained l (Some u) = pushed l (Event.Unconstrained u)

abbrev pub notices_of : Notices → display.Notices
notices_of n =
    push_unconstrained (push_connected (push_disconnected (push_provider empty n.provider) n.disconnected) n.connected) n.unconstrained

-- the answer byte; an open event has none yet, and is refused
abbrev pub answer_byte_of : Phase → ℕ
answer_byte_of (Phase.Closed a) = answer_byte a
answer_byte_of (Phase.Leaving i p f) = 0
answer_byte_of (Phase.Switching l old f new) = 0
answer_byte_of (Phase.Connecting s new) = 0
answer_byte_of (Phase.Providing p c) = 0

abbrev pub packet_with : Service → ℕ → EventPacket
packet_with s a = record { number = s.number; answer = a; orders = s.orders; notices = notices_of s.memory.notices }

abbrev pub packet_of : Service → EventPacket
packet_of s = packet_with s (answer_byte_of s.phase)

abbrev pub picture_of : Service → Picture
picture_of s = record { number = s.number; display = display_of s.memory.state }

-- REF-25: while an event is open; REF-27: before event 1

abbrev pub packet_refusals : Service → List (Bool × ℕ)
packet_refusals s = packet_conditions (is_open s.phase) s.number

abbrev pub picture_refusals : Service → List (Bool × ℕ)
picture_refusals s = picture_conditions (is_open s.phase)

abbrev pub send_packet : Service → Result EventPacket ℕ
send_packet s =
    let n : ℕ = first_refused (packet_refusals s) in
    cond (eqb n 0) (Ok (packet_of s)) (Err n)

abbrev pub send_picture : Service → Result Picture ℕ
send_picture s =
    let n : ℕ = first_refused (picture_refusals s) in
    cond (eqb n 0) (Ok (picture_of s)) (Err n)
