-- Blanks alone.
use Rattle.std.proofs.Common.{refl, arith}
use Rattle.abstract_page.specs.Text.{right}
use Rattle.desk_report.proofs.text.Columns.new.Goals as goal

pub invariant_of-result : goal.invariant_of-result
unfolding right
invariant_of-result c = (omega arith, refl)
