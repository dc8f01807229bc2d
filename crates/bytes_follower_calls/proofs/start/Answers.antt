-- A fresh follower is lost with floor 0.
use mathlib.Core.Path.{sym, ◌∙◌}
use borrow.Author.Tests.{eq-eqb}
use Rattle.bytes_groups.proofs.Places.{sets_all}
use Rattle.bytes_follower_image.specs.Image.{lost_bytes}
use Rattle.bytes_follower_calls.proofs.start.Goals as goal

pub returns-then-image-eq-FOLLOWER_IMAGE-clause-image_after : goal.returns-then-image-eq-FOLLOWER_IMAGE-clause-image_after
returns-then-image-eq-FOLLOWER_IMAGE-clause-image_after c =
    let x = c.args in
    let l = c.if-image-eq-FOLLOWER_IMAGE.true in
    rw (eq-eqb _ _ l) (c.write_lost.ensures ∙ sets_all (lost_bytes 0) x.image.now (sym l))
