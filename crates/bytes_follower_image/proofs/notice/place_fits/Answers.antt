-- The place is before the count or not; what the tests hold of is what is read.
use mathlib.Core.Path.{ap, ◌∙◌}
use borrow.Author.Tests.{lt-ltb}
use Rattle.bytes_follower_image.specs.Notice.{bytes_fit}
use Rattle.bytes_follower_image.proofs.Tests.{place_meant}
use Rattle.bytes_follower_image.proofs.notice.place_fits.Goals as goal

pub returns-then-meant : goal.returns-then-meant
returns-then-meant c =
    let x = c.args in
    c.fits.ensures ∙ (ap bytes_fit c.at-tested.ensures ∙ place_meant x.s.now x.at x.count x.k (lt-ltb _ _ c.if-meant.true))
