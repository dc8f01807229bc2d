-- After i ports the best is that of the first i.
use Rattle.std.proofs.Common.{◌≡◌}
use Rattle.power_policy_service.specs.Consumer.{best_of}
use Rattle.power_policy_service.proofs.consumer.find_best_consumer_default.Given as goal

abbrev pub invariant-loop-i : goal.invariant-loop-i
invariant-loop-i l = l.best ≡ best_of l.minimum l.current l.psus l.i
