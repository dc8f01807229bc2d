-- The bytes after the floor are those from byte 6 on.
use Rattle.std.specs.Bool.{then_some}
use mathlib.Core.Path.{◌≡◌, ap, ◌∙◌}
use native.Mathlib.Omega.{arith}
use lib.ListN.{take, drop, length-drop}
use lib.Seq.{take_all}
use Rattle.desk_follower.specs.declared.Shown.{Shown}
use Rattle.bytes_groups.specs.Quad.{number_from}
use Rattle.bytes_follower_image.specs.Slot.{zeros}
use Rattle.bytes_follower_image.proofs.Readers.{lost_given}
use Rattle.bytes_follower_image.proofs.shown_lost.Goals as goal

pub returns : goal.returns
returns c =
    let s = c.args.image.now in
    let t : take 235 (drop 6 s) ≡ drop 6 s = take_all 235 (drop 6 s) (omega (arith, length-drop 6 s, c.told-image)) in
    let z : c.is_zero.result ≡ zeros (drop 6 s) = c.is_zero.ensures ∙ ap zeros t in
    let n = c.from.ensures ∙ ap number_from c.at.ensures in
    c.then_some.ensures ∙ ((λ i. then_some (z i) (Shown.Lost (n i))) ∙ lost_given _ _)
