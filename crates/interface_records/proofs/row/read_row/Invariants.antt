-- The row's loop by the laws of Reading.
use Rattle.std.proofs.Common.{◌≡◌}
use Rattle.interface_records.proofs.Reading.{Reached}
use Rattle.interface_records.proofs.row.read_row.Given as goal

abbrev pub invariant-loop-i : goal.invariant-loop-i
invariant-loop-i g l =
    Reached g.R.Record.reads g.R.Record.LENGTH g.row.N l.fn.fill l.count l.s l.row l.i-iterator.count l.i-iterator.iter.rest.now
    × (l.i-iterator.iter.size ≡ g.R.Record.LENGTH)
