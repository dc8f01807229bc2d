-- What is moved is what follows the first n.
use Rattle.std.proofs.Common.{◌≡◌, ◌+◌, ◌-◌, ◌≤◌, length, take, drop, min, arith, sym, ap, ◌∙◌, length-drop, length-take}
use Rattle.std.proofs.lemmas.List.{drop-take, drop_min}
use Rattle.std.proofs.lemmas.List.Edits.{take-paste}
use Rattle.desk_report.proofs.buffer.Bytes.forget.Goals as goal

pub returns : goal.returns
returns g c =
    let m = c.self.inside.memory in
    let k = c.self.inside.len in
    let n = min c.args.n k in
    let s : length (take k m) ≡ k = rw (length-take k m) (omega (arith, c.self.invariant, c.self.told)) in
    let le : n ≤ k = omega arith in
    let e : k ≡ n + (k - n) = omega (arith, le) in
    let h : k - n ≤ length (drop n m) = omega (arith, length-drop n m, c.self.invariant, c.self.told) in
    let t : take (0 + (k - n)) c.copy_within.new.self ≡ take (k - n) (drop n m) = rw (c.copy_within.ensures.after, c.min-first.ensures) (take-paste m 0 (drop n m) (k - n) (omega arith) h) in
    let u : take (k - n) (drop n m) ≡ drop n (take k m) = sym (drop-take n (k - n) m) ∙ (rw (← e)) in
    let z : 0 + (k - n) ≡ k - n = omega arith in
    rw c.min-first.ensures (rw z at t ∙ (u ∙ (rw s at (drop_min c.args.n (take k m)) ∙ ap (drop c.args.n) c.self.view_is)))
