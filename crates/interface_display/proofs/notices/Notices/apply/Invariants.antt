-- The loop's invariant: the display after the notices passed.
use mathlib.Core.Path.{◌≡◌}
use lib.ListN.{take}
use Rattle.interface_display.specs.Notices.{applied_all}
use Rattle.interface_display.proofs.notices.Notices.apply.Given as goal

abbrev pub invariant-loop-e : goal.invariant-loop-e
invariant-loop-e l = l.d ≡ applied_all (take l.e-index l.e-items) l.initial.d
