-- The ports past those registered are what a shift by their number leaves.
use Rattle.std.proofs.Common.{arith, sym, ◌∙◌}
use borrow.Author.Tests.{le-leb}
use Rattle.bytes_groups.proofs.Masks.{mask_all, mask_tested}
use Rattle.bytes_groups.proofs.shown.providers_fit.Goals as goal
use Rattle.bytes_groups.proofs.shown.providers_fit.Goals.{then-ports-ge-MAX_PORTS, else-ports-ge-MAX_PORTS}

pub returns-then-t-ports-eq0 : goal.returns-then-t-ports-eq0
returns-then-t-ports-eq0 c =
    let a = c.args in
    elim c.if-ports-ge-MAX_PORTS.branch [
      | then-ports-ge-MAX_PORTS w ↦ rw (c.len.ensures, mask_all a.ports a.t.mask w.if-ports-ge-MAX_PORTS.true (omega arith))
      | else-ports-ge-MAX_PORTS w ↦ rw (c.len.ensures, mask_tested a.ports a.t.mask ∙ (sym w.value-is ∙ c.if-t-ports-eq0.true))
    ]

pub returns-else-t-ports-eq0 : goal.returns-else-t-ports-eq0
returns-else-t-ports-eq0 c =
    let a = c.args in
    elim c.if-ports-ge-MAX_PORTS.branch [
      | then-ports-ge-MAX_PORTS w ↦ cc (le-leb 16 a.ports w.if-ports-ge-MAX_PORTS.true)
      | else-ports-ge-MAX_PORTS w ↦ rw (mask_tested a.ports a.t.mask ∙ (sym w.value-is ∙ c.if-t-ports-eq0.false)) c.if-t-ports-eq0.false
    ]
