-- The display is tested before the slots are looked at; the slots are the bytes from byte 17 on.
use mathlib.Core.Path.{◌≡◌, sym, ap, ◌∙◌}
use mathlib.Core.Bool.{◌&&◌}
use Prim.Native.Nat.{ℕ}
use native.Mathlib.Omega.{arith}
use lib.ListN.{drop}
use Rattle.bytes_groups.specs.Quad.{quad_at, number_from}
use Rattle.bytes_groups.specs.Shown.{display_from}
use Rattle.bytes_follower_image.specs.Held.{held_from, is_held}
use Rattle.bytes_follower_image.specs.Image.{display_fits}
use Rattle.bytes_follower_image.proofs.Readers.{picture_given, ports_fit}
use Rattle.bytes_follower_image.proofs.Tests.{passed, stopped}
use Rattle.bytes_follower_image.proofs.shown_picture.Goals as goal
use Rattle.bytes_follower_image.proofs.shown_picture.Goals.{then-fits, else-fits}

pub returns : goal.returns
returns c =
    let s = c.args.image.now in
    let n = c.from-number.result in
    let d = c.in_ok-display.display in
    let e = ap display_from (sym c.at-2.ensures) ∙ (sym c.display.ensures ∙ c.in_ok-display.was) in
    let g : c.fits.result ≡ display_fits d = c.fits.ensures ∙ ports_fit s d (λ (k : ℕ). omega (arith, c.fits-image k)) e in
    let m : n ≡ number_from (quad_at s 2) = c.from-number.ensures ∙ ap number_from c.at.ensures in
    let v : c.if-fits.fits ≡ (display_fits d && is_held (held_from n (drop 17 s))) =
    elim c.if-fits.branch [
      | then-fits w ↦ w.fits-is ∙ passed _ _ _ (sym g ∙ w.if-fits.true) w.fits-fits.ensures
      | else-fits w ↦ w.fits-is ∙ w.if-fits.false ∙ stopped _ _ (sym g ∙ w.if-fits.false)
    ] in
    c.then_some.ensures ∙ picture_given s n d c.if-fits.fits e m v
