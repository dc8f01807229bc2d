-- At most all of the vectors differ.
use Rattle.std.proofs.Common.{◌<◌}
use Rattle.replay.proofs.count_all.Given as goal

abbrev pub invariant-loop-n : goal.invariant-loop-n
invariant-loop-n g l = l.count.differ < l.n
