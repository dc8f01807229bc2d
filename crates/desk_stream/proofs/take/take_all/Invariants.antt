-- The packets from the place `used` on are left; their lines come after those that stand there.
use Rattle.std.proofs.Common.{◌-◌, ◌≡◌, ◌≤◌, length, drop}
use Rattle.desk_report.specs.Reads.{take_all}
use Rattle.desk_stream.specs.Took.{left as but_written}
use Rattle.desk_stream.proofs.Holds.{Holds}
use Rattle.desk_stream.proofs.Known.{Due}
use Rattle.desk_stream.proofs.take.take_all.Given as goal

abbrev pub invariant-loop-used : goal.invariant-loop-used
invariant-loop-used g l = record {
  within : l.used ≤ length l.input;
  short : length l.lines ≤ 4096;
  left : but_written (take_all l.fn.desk l.input) ≡ but_written (take_all l.desk (drop l.used l.input));
  holds : Holds l.fn.desk l.input l.desk l.used l.lines;
  due : Due l.fn.desk l.fn.sink l.input (g.W.Write.contents l.fn.out) (g.W.Write.contents l.out) l.desk l.used l.lines;
}

abbrev pub decreases-loop-used : goal.decreases-loop-used
decreases-loop-used g l = length l.input - l.used
