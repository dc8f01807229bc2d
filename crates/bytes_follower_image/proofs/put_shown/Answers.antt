-- The head, and the display stored after it.
use mathlib.Core.Path.{refl, ap, ◌∙◌}
use mathlib.Core.List.{◌∷◌}
use lib.Seq.{sets}
use Rattle.bytes_groups.specs.Quad.{quad_bytes, number_quad}
use Rattle.bytes_groups.specs.Shown.{shown_bytes, display_bytes}
use Rattle.bytes_groups.proofs.Places.{sets_next}
use Rattle.bytes_follower_image.proofs.put_shown.Goals as goal

pub returns : goal.returns
returns c =
    let x = c.args in
    let d = c.bytes-display.ensures ∙ ap shown_bytes c.from.ensures in
    let h = c.put_head.ensures in
    c.put.ensures
    ∙ ((λ i. sets (h i) 6 (d i))
    ∙ sets_next (2 ∷ 1 ∷ quad_bytes (number_quad x.p.number)) (display_bytes x.p.display) x.image.now 6 refl)
