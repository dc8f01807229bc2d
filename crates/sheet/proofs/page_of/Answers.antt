-- The page fills the buffer.
use Rattle.std.proofs.Common.{◌∙◌}
use Rattle.sheet.proofs.Pages.{filled}
use Rattle.sheet.proofs.page_of.Goals as goal

pub returns : goal.returns
returns c =
    let e = rw c.of.ensures at c.write.ensures.written in
    e ∙ filled c.args.desk.follower c.args.out.now c.told-out
