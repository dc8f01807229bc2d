-- At most twenty digits.
use Rattle.std.proofs.Common.{◌∙◌}
use Rattle.desk_report.proofs.Columns.{end_digits}
use Rattle.desk_report.proofs.text.decimal.Goals as goal

pub returns : goal.returns
returns c =
    rw (c.push.ensures, c.new-digits.ensures) (c.text.ensures.value ∙ end_digits c.args.n _ _ c.new-columns.ensures c.push_decimal.ensures)
