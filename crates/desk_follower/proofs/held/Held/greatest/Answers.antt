-- The loop's invariant: `most` is the greatest of the number and those in the places passed.
use Rattle.desk_follower.proofs.Places.{greatest_start, greatest_more}
use mathlib.Core.Path.{sym}
use native.Mathlib.Omega.{arith}
use Rattle.desk_follower.proofs.held.Held.greatest.Goals as goal

pub loop-p-init : goal.loop-p-init
loop-p-init c = sym (greatest_start c.args.number c.args.self.now)

pub loop-p-preserved : goal.loop-p-preserved
loop-p-preserved c =
    let l = c.loop-p in
    greatest_more c.args.number l.p-index l.most c.max-most.result c.args.self.now _ (omega arith) l.invariant c.max-most.ensures
