-- Each is computed from the definition.
use mathlib.Core.Path.{refl}
use Rattle.wire.specs.Number.{read_number}
use Rattle.wire.specs.Packet.{capability, contract, consumer, unconstrained, consumer_connected, notice_of, notice, event_notices, event_after, event, picture_after, picture, packet_of, packet}
use Rattle.wire.specs.Parser.{field, number}
use Rattle.abstract_desk.specs.Edges.{DeskEdges}

pub desk_edges : DeskEdges
unfolding read_number field number capability contract consumer unconstrained consumer_connected notice_of notice event_notices event_after event picture_after picture packet_of packet
desk_edges = record { five_takes = refl; refused_stays = refl; stays_lost = refl }
