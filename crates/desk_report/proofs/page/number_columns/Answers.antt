-- A hyphen, or at most twenty digits.
use Rattle.desk_report.proofs.Columns.{end_digits}
use Rattle.desk_report.proofs.page.number_columns.Goals as goal

pub returns : goal.returns
returns c = rw c.in-Some.is (end_digits c.in-Some.v _ _ c.new-columns.ensures c.push_decimal.ensures)
