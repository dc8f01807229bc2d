-- The loop's invariant: what is still to be applied in turn, from here, gives what it gives from the start.
use mathlib.Core.Path.{◌≡◌}
use Prim.Native.Nat.{◌-◌}
use Rattle.desk_follower.specs.Follower.{in_turn}
use Rattle.desk_follower.proofs.Follower.show_in_turn.Given as goal

abbrev pub invariant-loop : goal.invariant-loop
invariant-loop l =
    in_turn (8 - l.counter) l.floor l.shown.number l.shown.display l.self.held ≡ in_turn 8 l.floor l.initial.shown.number l.initial.shown.display l.initial.self.held
