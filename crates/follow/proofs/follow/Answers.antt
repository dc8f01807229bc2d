-- The header is written before the run.
use Rattle.std.proofs.Common.{refl, sym, ◌∙◌}
use Rattle.follow.proofs.Written.{on_ok, follow_written}
use Rattle.follow.proofs.follow.Goals as goal

pub returns : goal.returns
returns g c =
    let w = on_ok c.write_all.result _ (sym c.is_err.ensures.value ∙ c.if-is_err.false) c.write_all.ensures.bytes in
    λ e. follow_written c.new.result c.run.result.desk (record { needed = _ }) _ _ _ _ refl c.new.ensures (rw c.header.ensures at w) (c.run.ensures.whole e)
