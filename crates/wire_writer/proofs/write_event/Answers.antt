-- Each part follows the one before it.
use mathlib.Core.Path.{refl}
use Prim.Native.Nat.{◌≤◌}
use native.Mathlib.Omega.{arith}
use lib.ListN.{length}
use Rattle.std.proofs.lemmas.Grind.{common_steps}
use Rattle.wire.specs.Bytes.{event_bytes}
use Rattle.wire_writer.proofs.Parts.{joined, whole}
use Rattle.wire_writer.proofs.write_event.Goals as goal

pub returns : goal.returns
unfolding event_bytes
returns c =
    let n = rw c.from.ensures at c.number-2.ensures in
    let l = rw c.len.ensures at c.byte-3.ensures in
    let a = joined c.byte.ensures (joined c.number.ensures (joined c.byte-2.ensures (joined n (joined l c.notices.ensures)))) in
    let h : 64 ≤ length c.args.out.now = omega arith in
    let b = whole a refl h in
    (b.0, grind (arith, common_steps, a.same_buffer, b.1))
