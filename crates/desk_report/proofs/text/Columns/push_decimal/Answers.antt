-- A digit more stands before the text.
use Rattle.std.proofs.Common.{◌≡◌, ◌+◌, ◌-◌, ◌%◌, ◌∷◌, ◌++◌, [], List, ℕ, suc, refl, arith, sym, ap, ◌∙◌}
use mathlib.Core.List.{append-nil}
use Rattle.abstract_page.specs.Text.{digits, decimal}
use Rattle.desk_report.specs.Page.{end_of}
use Rattle.desk_report.proofs.Columns.{digit_more, digit_last, end_before, end_end}
use Rattle.desk_report.proofs.text.Columns.push_decimal.Goals as goal

pub loop-init : goal.loop-init
unfolding decimal
loop-init c = ([], append-nil (digits 20 c.args.n), refl, λ h. absurd (omega arith))

pub loop-preserved : goal.loop-preserved
loop-preserved c =
    let l = c.loop in
    let i = l.invariant in
    let b = 48 + l.rest % 10 in
    let k : 20 - l.counter ≡ suc (20 - (l.counter + 1)) = omega (arith, c.loop-test.true) in
    let e = end_before b l.self c.push.new.self (i.0 ++ c.args.self.now) c.push.ensures i.2 in
    (b ∷ i.0, sym (digit_more (20 - l.counter) (20 - (l.counter + 1)) l.rest i.0 k c.if-rest-eq0.false) ∙ i.1, ap end_of e ∙ end_end (b ∷ (i.0 ++ c.args.self.now)), λ h. e)

pub returns-then-rest-eq0 : goal.returns-then-rest-eq0
returns-then-rest-eq0 c =
    let l = c.loop in
    let i = l.invariant in
    let b = 48 + l.rest % 10 in
    let k : 20 - l.counter ≡ suc (20 - (l.counter + 1)) = omega (arith, c.loop-test.true) in
    end_before b l.self c.push.new.self (i.0 ++ c.args.self.now) c.push.ensures i.2
    ∙ ap (λ (x : List ℕ). end_of (x ++ c.args.self.now)) (sym (digit_last (20 - l.counter) (20 - (l.counter + 1)) l.rest i.0 k c.if-rest-eq0.true) ∙ i.1)
