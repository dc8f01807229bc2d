-- Name, figure and newline are stored one after the other.
use Rattle.std.proofs.Common.{◌≡◌, ap, ◌∙◌}
use Rattle.abstract_page.specs.Text.{right}
use Rattle.abstract_page.proofs.Columns.{right_length}
use Rattle.desk_report.proofs.Lines.{line_at}
use Rattle.desk_report.proofs.text.Columns.line.Goals as goal

pub returns : goal.returns
returns c =
    let a = c.args in
    let q : c.self.inside.bytes ≡ right 20 a.self.now = c.self.invariant.1 ∙ ap (right 20) c.self.view_is in
    rw (c.store-2.ensures, c.store.ensures, q)
    (line_at a.buffer.now a.name.now (right 20 a.self.now) a.at c.told-name (right_length 20 a.self.now) c.requires)
