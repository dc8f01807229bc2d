-- The digits that are left are those of `rest`.
use Rattle.std.proofs.Common.{ℕ, ◌≡◌, ◌<◌, ◌-◌, List, ◌++◌}
use Rattle.abstract_page.specs.Text.{digits, decimal}
use Rattle.desk_report.specs.Page.{end_of}
use Rattle.desk_report.proofs.text.Columns.push_decimal.Given as goal

abbrev pub invariant-loop : goal.invariant-loop
invariant-loop l =
    (d : List ℕ) × (digits (20 - l.counter) l.rest ++ d ≡ decimal l.n) × (end_of l.self ≡ end_of (d ++ l.initial.self))
    × (0 < l.counter → l.self ≡ end_of (d ++ l.initial.self))
