-- The head is tested first, then the notices.
use mathlib.Core.Path.{sym, ◌∙◌}
use lib.ListN.{get_or}
use Rattle.bytes_follower_image.specs.Slot.{head_fits, notices_from}
use Rattle.bytes_follower_image.proofs.Tests.{packet_tested, passed}
use Rattle.bytes_follower_image.proofs.slot.packet_fits.Goals as goal

pub returns-then-head_fits : goal.returns-then-head_fits
returns-then-head_fits c =
    let x = c.args in
    let s = x.s.now in
    let h = sym c.head_fits.ensures ∙ c.if-head_fits.true in
    passed _ _ _ h c.notices_fit.ensures
    ∙ packet_tested (head_fits x.number (get_or s 1 0) (get_or s 2 0) (get_or s 3 0)) x.number (get_or s 1 0) (get_or s 2 0)
    (notices_from (get_or s 3 0) s)
