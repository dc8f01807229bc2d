-- Nothing stands there yet, or the comma comes first.
use Rattle.std.proofs.Common.{length, sym, ◌∙◌}
use borrow.Author.Tests.{eqb-true, eqb-false}
use Rattle.desk_report.proofs.Columns.{first_port, more_ports}
use Rattle.desk_report.proofs.page.push_port.Goals as goal

pub returns-then-is_empty : goal.returns-then-is_empty
returns-then-is_empty c =
    let e = eqb-true (length c.args.columns.now) 0 (sym c.is_empty.ensures ∙ c.if-is_empty.true) in
    λ l h. first_port _ _ c.args.port l e c.push_decimal.ensures h

pub returns : goal.returns
returns c =
    let e = eqb-false (length c.args.columns.now) 0 (sym c.is_empty.ensures ∙ c.if-is_empty.false) in
    λ l h. more_ports _ _ _ c.args.port l e c.push.ensures c.push_decimal-2.ensures h
