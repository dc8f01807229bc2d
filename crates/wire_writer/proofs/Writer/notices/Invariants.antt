-- The loop's invariant: the notices before the index are written, at most nine bytes each.
use Rattle.std.proofs.Common.{◌*◌, take}
use Rattle.wire.specs.Bytes.{all_bytes}
use Rattle.wire_writer.specs.Writing.{Wrote}
use Rattle.wire_writer.proofs.Writer.notices.Given as goal

abbrev pub invariant-loop-notice : goal.invariant-loop-notice
invariant-loop-notice l = Wrote (all_bytes (take l.notice-index l.notice-items)) (9 * l.notice-index) l.initial.self l.self
