-- The four parts are stored one after the other, and are as long as the image.
use Rattle.std.proofs.Common.{eq-eqb}
use Rattle.bytes_service_image.specs.Image.{service_bytes}
use Rattle.bytes_service_image.proofs.Stored.{stored}
use Rattle.bytes_service_image.proofs.write.Goals as goal

pub returns : goal.returns
unfolding service_bytes
returns c =
    let x = c.args in
    rw (eq-eqb _ _ c.if-image-ne-SERVICE_IMAGE.false, c.put_notices.ensures, c.put_phase.ensures, c.put_held.ensures, c.put_head.ensures) (stored x.s x.image.now c.if-image-ne-SERVICE_IMAGE.false)
