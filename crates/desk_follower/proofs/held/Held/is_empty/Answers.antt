-- All are numbered 0.
use Rattle.std.proofs.Common.{rules}
use Rattle.desk_follower.proofs.Places.{none_told}
use Rattle.desk_follower.proofs.held.Held.is_empty.Goals as goal

pub returns : goal.returns
returns c =
    none_told c.all.result c.args.self.now (search rules) (search rules)
