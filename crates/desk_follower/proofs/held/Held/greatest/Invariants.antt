-- The loop's invariant: `most` is the greatest of the number and those in the places passed.
use mathlib.Core.Path.{◌≡◌}
use Rattle.desk_follower.specs.Held.{greatest}
use Rattle.desk_follower.proofs.held.Held.greatest.Given as goal

abbrev pub invariant-loop-p : goal.invariant-loop-p
invariant-loop-p l = l.most ≡ greatest l.number l.p-index l.self
