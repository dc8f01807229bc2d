-- Two numbers below 65,536, of at most three bytes each.
use Prim.Native.Nat.{◌<◌}
use native.Mathlib.Omega.{arith}
use Rattle.wire.specs.Bytes.{capability_bytes}
use Rattle.wire_writer.proofs.Parts.{joined, short}
use Rattle.wire_writer.proofs.Writer.capability.Goals as goal

pub number-requires-2 : goal.number-requires-2
number-requires-2 c =
    let h : c.from.result < 65536 = omega arith in
    let a = short h c.number.ensures in
    omega (arith, a.near, a.long)

pub returns : goal.returns
unfolding capability_bytes
returns c =
    let h : c.from.result < 65536 = omega arith in
    let g : c.from-2.result < 65536 = omega arith in
    rw (← c.from.ensures, ← c.from-2.ensures) (joined (short h c.number.ensures) (short g c.number-2.ensures))
