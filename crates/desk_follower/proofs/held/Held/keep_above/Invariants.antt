-- The loop's invariant: in the places passed, what is numbered so or less is dropped.
use mathlib.Core.Path.{◌≡◌}
use lib.ListN.{length}
use Rattle.desk_follower.specs.Held.{above}
use Rattle.desk_follower.proofs.held.Held.keep_above.Given as goal

abbrev pub invariant-loop-p : goal.invariant-loop-p
invariant-loop-p l = record {
  places : length l.p-items ≡ 8;
  dropped : record { packets = l.p-items } ≡ above l.number l.p-index l.fn.self;
}
