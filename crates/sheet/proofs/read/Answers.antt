-- A sink whose lines are not needed ends no run.
use Rattle.std.proofs.Common.{ap}
use Rattle.desk_report.specs.Sheet.{sheet_run}
use Rattle.desk_stream.specs.declared.Ended.{Ended}
use Rattle.sheet.proofs.Pages.{shown_at_end}
use Rattle.sheet.proofs.read.Goals as goal

pub returns-clause-runs : goal.returns-clause-runs
unfolding sheet_run
returns-clause-runs g c =
    let r = c.run in
    let w = rw c.new.ensures at r.ensures.value in
    ((w.0.pieces, ap (λ (x : Ended). x.desk) w.1), λ e. let n = rw e at r.ensures.ends in absurd (cc))

pub returns-clause-shows : goal.returns-clause-shows
returns-clause-shows g c =
    λ e. shown_at_end c.new.result c.run.result.desk (record { needed = _ }) _ _ _ c.new.ensures (c.run.ensures.whole e)
