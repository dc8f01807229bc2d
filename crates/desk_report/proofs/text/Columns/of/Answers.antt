-- Blanks, and then the text.
use Rattle.std.proofs.Common.{arith}
use Rattle.desk_report.proofs.Columns.{stood_whole}
use Rattle.desk_report.proofs.text.Columns.of.Goals as goal

pub invariant_of-result : goal.invariant_of-result
invariant_of-result c = (omega arith, rw c.copy_from_slice.ensures.after (stood_whole c.args.text.now c.requires))
