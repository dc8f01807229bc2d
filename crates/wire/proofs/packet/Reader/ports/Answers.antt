-- A port more: its bit is above those of the mask.
use Rattle.std.proofs.Common.{◌≡◌, ◌-◌, ◌+◌, ◌∙◌, suc, add-one, arith}
use borrow.Author.Tests.{le-leb}
use Rattle.wire.proofs.Repeated.{added, added_lt}
use Rattle.wire.proofs.packet.Reader.ports.Goals as goal

pub loop-preserved : goal.loop-preserved
loop-preserved c =
    let l = c.loop in
    let p = c.in_ok-port.port in
    let e : c.args.count - l.counter ≡ suc (c.args.count - (l.counter + 1)) = omega arith in
    let f = c.in_ok-port.ensures in
    rw (added l.low p l.mask c.if-port-low.false c.if-port-gt15.false l.invariant.1) (omega arith, added_lt l.low p l.mask c.if-port-low.false l.invariant.1, l.invariant.2 ∙ rw (e, ← f, le-leb l.low p c.if-port-low.false, le-leb p 15 c.if-port-gt15.false, add-one p))
