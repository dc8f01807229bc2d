-- The page of a run is that of the bytes of its pieces.
use Rattle.std.proofs.Common.{◌∙◌, ap}
use mathlib.Core.List.{flatten}
use Rattle.desk_report.specs.Page.{page_bytes, page_for}
use Rattle.desk_report.specs.declared.desk.Desk.{Desk}
use Rattle.sheet.proofs.Pages.{page_of_run}
use Rattle.sheet.proofs.read_page.Goals as goal

pub returns-clause-page : goal.returns-clause-page
returns-clause-page g c =
    let w = c.read-ended.ensures.runs.0 in
    let e = ap (λ (d : Desk). page_bytes (page_for d.follower)) w.1 in
    (flatten w.0, c.page_of.ensures ∙ (e ∙ page_of_run w.0))
