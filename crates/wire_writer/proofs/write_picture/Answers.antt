-- Each part follows the one before it.
use mathlib.Core.Path.{refl}
use Prim.Native.Nat.{◌≤◌}
use native.Mathlib.Omega.{arith}
use lib.ListN.{length}
use Rattle.std.proofs.lemmas.Grind.{common_steps}
use Rattle.wire.specs.Bytes.{picture_bytes}
use Rattle.wire_writer.proofs.Parts.{joined, whole}
use Rattle.wire_writer.proofs.write_picture.Goals as goal

pub returns : goal.returns
unfolding picture_bytes
returns c =
    let l = rw c.len.ensures at c.byte-2.ensures in
    let a = joined c.byte.ensures (joined c.number.ensures (joined c.consumer.ensures (joined c.unconstrained.ensures (joined l c.ports.ensures)))) in
    let h : 64 ≤ length c.args.out.now = omega arith in
    let b = whole a refl h in
    (b.0, grind (arith, common_steps, a.same_buffer, b.1))
