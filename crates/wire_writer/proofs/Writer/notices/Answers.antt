-- One notice after the other.
use Rattle.std.proofs.Common.{take}
use Rattle.wire_writer.proofs.Notes.{wrote_next}
use Rattle.wire_writer.proofs.Writer.notices.Goals as goal

pub loop-notice-preserved : goal.loop-notice-preserved
loop-notice-preserved c =
    let l = c.loop-notice in
    wrote_next (take c.len.result c.args.l.events) l.notice-index _ c.loop-notice-test.true l.invariant c.notice.ensures
