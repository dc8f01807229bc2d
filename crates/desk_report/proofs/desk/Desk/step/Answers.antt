-- The packet is within the input.
use mathlib.Core.Path.{sym}
use native.Mathlib.Omega.{arith}
use Rattle.wire_framing.proofs.Frames.{frame_told}
use Rattle.desk_report.proofs.desk.Desk.step.Goals as goal

pub overflow_add-end : goal.overflow_add-end
overflow_add-end c =
    let f = c.in-Ok-Frame in
    let t = frame_told c.args.input.now f.used f.length (sym (rw (f.is, f.field-0-is) at c.frame.ensures)) in
    omega (arith, t.there)

pub slice_bounds-take-end : goal.slice_bounds-take-end
slice_bounds-take-end c =
    let f = c.in-Ok-Frame in
    let t = frame_told c.args.input.now f.used f.length (sym (rw (f.is, f.field-0-is) at c.frame.ensures)) in
    t.there
