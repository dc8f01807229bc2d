-- Each turn is a read of the run over the pieces that were read. What is kept is short, so there is room to read.
use Rattle.std.proofs.Common.{◌≤◌, length}
use Rattle.desk_stream.specs.Took.{Stands}
use Rattle.desk_stream.proofs.Known.{Over}
use Rattle.desk_stream.proofs.turns.Given as goal

abbrev pub invariant-loop : goal.invariant-loop
invariant-loop g l = record {
  short : length l.stream.input ≤ 68;
  stands : Stands l.fn.stream.desk l.stream.desk l.stream.input;
  over : Over l.fn.stream.desk l.fn.sink (g.R.Read.remaining l.fn.reader) (g.R.Read.remaining l.reader) (g.W.Write.contents l.fn.out) (g.W.Write.contents l.out) l.stream.desk l.stream.input;
}
