-- An old picture changes nothing; a new one is shown, and what is held above it follows.
use mathlib.Core.Path.{sym, ap, ◌∙◌}
use Rattle.desk_follower.specs.Follower.{showing}
use Rattle.desk_follower.proofs.Laws.{picture_old}
use Rattle.bytes_follower_image.specs.Image.{follower_bytes}
use Rattle.bytes_follower_image.proofs.OneImage.{fits}
use Rattle.bytes_take.proofs.Turns.{picture_turned}
use Rattle.bytes_take.proofs.take_picture.Goals as goal

pub returns-else-s-p : goal.returns-else-s-p
returns-else-s-p c = λ h i.
    let x = c.args in
    i.bytes ∙ sym (ap follower_bytes (picture_old x.s h x.p c.if-s-p.false))

pub returns-then-s-p : goal.returns-then-s-p
returns-then-s-p c = λ h i.
    let x = c.args in
    c.advance.ensures h i
    ∙ sym (ap follower_bytes (picture_turned x.s h (fits (showing x.s h) i.fits).formed.1 x.p c.if-s-p.true))
