-- The six lines are stored one after the other.
use Rattle.std.proofs.Common.{refl, sym, ap, Ok, ◌∙◌}
use borrow.Author.Tests.{le-ltb}
use Rattle.wire.specs.Bytes.{ports_bytes}
use Rattle.abstract_page.specs.Text.{left, right}
use Rattle.abstract_page.specs.Page.{state, text, ports, number_name, state_name, port_name, millivolts_name, milliamps_name, tracked_name}
use Rattle.abstract_page.proofs.Read.{line_length}
use Rattle.desk_report.specs.Page.{figure_of}
use Rattle.desk_report.proofs.Columns.{right_end}
use Rattle.desk_report.proofs.Lines.{stored_line, six_length, six_stored}
use Rattle.desk_report.proofs.page.write.Goals as goal

pub returns-clause-value : goal.returns-clause-value
returns-clause-value c =
    rw (le-ltb _ _ c.if-buffer-lt-PAGE.false) (ap Ok (sym (six_length _ _ _ _ _ _ c.args.buffer.now (line_length _) (line_length _) (line_length _) (line_length _) (line_length _) (line_length _))))

pub returns-clause-written : goal.returns-clause-written
unfolding left
returns-clause-written c =
    let g = c.args.page in
    let e1 = stored_line _ number_name (right 20 c.number_columns.result) (figure_of g.number) refl (ap (right 20) c.number_columns.ensures) in
    let e2 = stored_line _ state_name (right 20 c.state_columns.result) (state g.state) refl (ap (right 20) c.state_columns.ensures) in
    let e3 = stored_line _ port_name (right 20 c.number_columns-2.result) (figure_of g.port) refl (ap (right 20) c.number_columns-2.ensures) in
    let e4 = stored_line _ millivolts_name (right 20 c.number_columns-3.result) (figure_of g.mv) refl (ap (right 20) c.number_columns-3.ensures) in
    let e5 = stored_line _ milliamps_name (right 20 c.number_columns-4.result) (figure_of g.ma) refl (ap (right 20) c.number_columns-4.ensures) in
    let e6 = stored_line _ tracked_name (right 20 c.ports_columns.result) (ports (ports_bytes g.tracked.mask)) refl (ap (right 20) c.ports_columns.ensures ∙ right_end (text (ports (ports_bytes g.tracked.mask)))) in
    rw (le-ltb _ _ c.if-buffer-lt-PAGE.false, c.line-6.ensures, c.line-5.ensures, c.line-4.ensures, c.line-3.ensures, c.line-2.ensures, c.line.ensures, e1, e2, e3, e4, e5, e6)
    (six_stored _ _ _ _ _ _ c.args.buffer.now (line_length _) (line_length _) (line_length _) (line_length _) (line_length _) (line_length _))
