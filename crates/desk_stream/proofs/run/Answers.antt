-- Of a run over bytes that are known.
use Rattle.desk_stream.proofs.Known.{over_whole}
use Rattle.desk_stream.proofs.run.Goals as goal

pub returns-clause-whole : goal.returns-clause-whole
returns-clause-whole g c =
    λ e. over_whole c.args.desk _ c.args.sink _ _ _ _ (rw e at c.turns-end.ensures.over)
