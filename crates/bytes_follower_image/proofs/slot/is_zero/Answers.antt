-- What is known of the bytes passed, and what is left, decide.
use mathlib.Core.Path.{sym}
use native.Mathlib.Omega.{arith}
use Rattle.bytes_follower_image.proofs.Readers.{zeros_next, zeros_end}
use Rattle.bytes_follower_image.proofs.slot.is_zero.Goals as goal

pub loop-b-preserved : goal.loop-b-preserved
loop-b-preserved c =
    let l = c.loop-b in
    let s = c.args.s.now in
    zeros_next s l.b-index l.zero l.invariant (omega arith)

pub returns : goal.returns
returns c =
    let l = c.loop-b in
    sym (zeros_end c.args.s.now l.b-index l.zero l.invariant (omega arith))
