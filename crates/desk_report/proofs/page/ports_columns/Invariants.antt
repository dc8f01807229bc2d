-- After the turns down to a port the text has the ports from it on.
use Rattle.std.proofs.Common.{◌≡◌}
use Rattle.abstract_page.specs.Page.{commas}
use Rattle.desk_report.specs.Page.{end_of}
use Rattle.desk_report.proofs.Columns.{ports_at}
use Rattle.desk_report.proofs.page.ports_columns.Given as goal

abbrev pub invariant-loop-port : goal.invariant-loop-port
invariant-loop-port l = l.columns ≡ end_of (commas (ports_at l.tracked.mask l.port))
