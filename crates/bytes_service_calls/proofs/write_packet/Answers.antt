use Rattle.std.proofs.Common.{rules, ap, ◌∙◌}
use Rattle.abstract_calls.specs.Called.{Called}
use Rattle.abstract_calls.specs.Lent.{written_as, written_call}
use Rattle.wire.specs.Bytes.{event_bytes}
use Rattle.bytes_service_calls.proofs.Asked.{packet_asked}
use Rattle.bytes_service_calls.proofs.write_packet.Goals as goal

pub returns-clause-value : goal.returns-clause-value
returns-clause-value c =
    (c.stored.ensures ∙ ap written_as c.by_number.ensures)
    ∙ (c.try_write-written.ensures.value (λ x b. written_call (event_bytes x) b) (λ x b l w k. search rules)
    ∙ ap (λ (y : Called). y.number) (packet_asked _ _ _ (rw c.service_in.ensures at c.and_then-packet.ensures)))

pub returns-clause-buffer_after : goal.returns-clause-buffer_after
returns-clause-buffer_after c =
    c.try_write-written.ensures.buffer_after (λ x b. written_call (event_bytes x) b) (λ x b l w k. search rules)
    ∙ ap (λ (y : Called). y.bytes) (packet_asked _ _ _ (rw c.service_in.ensures at c.and_then-packet.ensures))
