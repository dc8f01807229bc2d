-- A notice more is one step of the definition.
use Rattle.std.proofs.Common.{◌≡◌, ◌-◌, ◌+◌, ◌∙◌, suc, arith}
use Rattle.wire.proofs.packet.Reader.notices.Goals as goal

pub loop-preserved : goal.loop-preserved
loop-preserved c =
    let l = c.loop in
    let e : c.args.count - l.counter ≡ suc (c.args.count - (l.counter + 1)) = omega arith in
    let f = c.in_ok-notice.ensures in
    l.invariant ∙ rw (e, ← f, c.push.ensures)
