-- Each is computed from the definition.
use mathlib.Core.Path.{refl}
use Rattle.wire.specs.Bytes.{ports_bytes}
use Rattle.wire.specs.Number.{read_number}
use Rattle.wire.specs.Packet.{capability, contract, consumer, unconstrained, consumer_connected, notice_of, notice, event_notices, event_after, event, picture_after, picture, packet_of, packet}
use Rattle.wire.specs.Parser.{field, number}
use Rattle.abstract_page.specs.Edges.{PageEdges}
use Rattle.abstract_page.specs.Page.{line}
use Rattle.abstract_page.specs.Text.{decimal, left, right}

pub page_edges : PageEdges
unfolding read_number field number capability contract consumer unconstrained consumer_connected notice_of notice event_notices event_after event picture_after picture packet_of packet ports_bytes decimal left right line
page_edges = record { page_of_example = refl; page_waiting = refl; page_lost = refl; page_tracked = refl }
