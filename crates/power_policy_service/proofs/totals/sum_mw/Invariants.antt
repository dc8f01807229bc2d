-- After so many ports the total is the sum over them; each figure is below 2 ^ 32.
use Rattle.std.proofs.Common.{◌≤◌, ◌*◌, ◌≡◌}
use Rattle.power_policy_service.specs.Provider.{counted_mw, sum_to}
use Rattle.power_policy_service.specs.Rows.{psu_at}
use Rattle.power_policy_service.proofs.totals.sum_mw.Given as goal

abbrev pub invariant-loop-port : goal.invariant-loop-port
invariant-loop-port l = (l.total ≤ l.port * 4294967296) × (l.total ≡ sum_to (λ p. counted_mw l.request p (psu_at l.psus p)) l.port)
