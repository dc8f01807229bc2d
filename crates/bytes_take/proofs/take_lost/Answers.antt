-- The bytes after the floor are zeros, as those of a follower that holds nothing are.
use mathlib.Core.Path.{sym, ap, ◌∙◌}
use Rattle.desk_follower.specs.Follower.{lost, taken}
use Rattle.desk_follower.proofs.Laws.{picture_shown}
use Rattle.bytes_follower_image.specs.Image.{follower_bytes}
use Rattle.bytes_take.proofs.Images.{lost_shown}
use Rattle.bytes_take.proofs.take_lost.Goals as goal

pub returns-then-floor-v : goal.returns-then-floor-v
returns-then-floor-v c = λ e.
    let x = c.args in
    c.put_shown.ensures
    ∙ (lost_shown x.image.now x.floor c.in-Picture.v.number c.in-Picture.v.display e
    ∙ sym (ap follower_bytes (ap (taken (lost x.floor)) c.in-Picture.is ∙ picture_shown x.floor c.in-Picture.v c.if-floor-v.true)))
