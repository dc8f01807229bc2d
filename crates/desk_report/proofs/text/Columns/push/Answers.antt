-- The columns are full, or the byte stands before the text.
use Rattle.std.proofs.Common.{arith}
use Rattle.desk_report.proofs.Columns.{pushed_whole}
use Rattle.desk_report.proofs.text.Columns.push.Goals as goal

pub invariant_of-self : goal.invariant_of-self
invariant_of-self c = (omega arith, pushed_whole _ _ c.args.b c.if-self-gt0.true c.self.invariant.0 c.self.told c.self.invariant.1)
