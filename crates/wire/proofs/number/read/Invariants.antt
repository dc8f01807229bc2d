-- The loop's invariant: the digits so far, each by its place, before what the rest reads to.
use Rattle.std.proofs.Common.{◌≡◌, ◌-◌, ◌*◌, ◌^◌, ◌<◌, drop}
use Rattle.wire.specs.Number.{digits_read}
use Rattle.wire.proofs.Leb128.{after, more}
use Rattle.wire.proofs.number.read.Given as goal

abbrev pub invariant-loop-i : goal.invariant-loop-i
invariant-loop-i l =
    (l.scale ≡ 2 ^ (7 * l.i)) × (l.value < l.scale) × (digits_read 4 l.s ≡ after l.i l.value l.scale (more (5 - l.i) (drop l.i l.s)))
