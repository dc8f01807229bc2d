-- What is known of the bytes passed, and what is left, decide.
use mathlib.Core.Path.{◌≡◌}
use mathlib.Core.Bool.{◌&&◌}
use lib.ListN.{drop}
use Rattle.bytes_follower_image.specs.Slot.{zeros}
use Rattle.bytes_follower_image.proofs.slot.is_zero.Given as goal

abbrev pub invariant-loop-b : goal.invariant-loop-b
invariant-loop-b l = zeros l.s ≡ (l.zero && zeros (drop l.b-index l.s))
