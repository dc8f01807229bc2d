-- The byte at the loop's index is there or not, and is the last or not.
use Rattle.std.proofs.Common.{◌≡◌, ◌+◌, ◌*◌, ◌^◌, ◌<◌, arith}
use Rattle.std.proofs.lemmas.Nat.{pow-add}
use borrow.Author.Tests.{le-leb, lt-leb}
use Rattle.wire.specs.Number.{digits_read, read_number}
use Rattle.wire.proofs.Leb128.{endless, cut, ends_in_zero, ends, goes_on, below_next}
use Rattle.wire.proofs.number.read.Goals as goal

pub returns-in_default-clause-read : goal.returns-in_default-clause-read
unfolding read_number
returns-in_default-clause-read c =
    let l = c.loop-i in
    rw (cut c.args.s.now l.i l.value l.scale (digits_read 4 c.args.s.now) l.invariant.2 c.loop-i-test.true c.in_default.ensures.lookup.3)

pub returns-then-i-gt0-clause-read : goal.returns-then-i-gt0-clause-read
unfolding read_number
returns-then-i-gt0-clause-read c =
    let l = c.loop-i in
    let k = c.in-Some.ensures.lookup in
    let e = k.3.1 0 in
    rw (ends_in_zero c.args.s.now l.i l.value l.scale (digits_read 4 c.args.s.now) l.invariant.2 c.loop-i-test.true k.3.0 c.in-Some.b.now e c.if-b-eq0.true c.if-i-gt0.true)

pub returns-then-from-value-clause-read : goal.returns-then-from-value-clause-read
unfolding read_number
returns-then-from-value-clause-read c =
    let l = c.loop-i in
    let k = c.in-Some.ensures.lookup in
    let z : c.in-Some.b.now ≡ 0 → 0 < l.i → ⊥ = omega arith in
    rw (ends c.args.s.now l.i l.value l.scale (digits_read 4 c.args.s.now) l.invariant.2 c.loop-i-test.true k.3.0 c.in-Some.b.now (k.3.1 0) c.from.result c.if-b-lt128.true c.from.ensures z, lt-leb (l.value + c.from.result * l.scale) c.args.limit (omega arith))

pub returns-then-b-lt128-clause-read : goal.returns-then-b-lt128-clause-read
unfolding read_number
returns-then-b-lt128-clause-read c =
    let l = c.loop-i in
    let k = c.in-Some.ensures.lookup in
    let z : c.in-Some.b.now ≡ 0 → 0 < l.i → ⊥ = omega arith in
    rw (ends c.args.s.now l.i l.value l.scale (digits_read 4 c.args.s.now) l.invariant.2 c.loop-i-test.true k.3.0 c.in-Some.b.now (k.3.1 0) c.from.result c.if-b-lt128.true c.from.ensures z, le-leb (l.value + c.from.result * l.scale) c.args.limit (omega arith))

pub loop-i-preserved : goal.loop-i-preserved
loop-i-preserved c =
    let l = c.loop-i in
    let k = c.in-Some.ensures.lookup in
    let b = c.in-Some.b.now in
    let w : b < 256 = let f = c.type_inv.s l.i in rw (k.3.1 0) (omega (arith, f)) in
    let p : 2 ^ (7 * l.i + 7) ≡ 2 ^ (7 * l.i) * 2 ^ 7 = pow-add 2 (7 * l.i) 7 in
    let q : 7 * (l.i + 1) ≡ 7 * l.i + 7 = omega arith in
    (rw q (omega arith), below_next l.value c.from.result l.scale (omega arith) l.invariant.1, goes_on c.args.s.now l.i l.value l.scale (digits_read 4 c.args.s.now) l.invariant.2 c.loop-i-test.true k.3.0 b (k.3.1 0) c.from.result c.if-b-lt128.false w c.from.ensures)

pub returns-clause-read : goal.returns-clause-read
unfolding read_number
returns-clause-read c =
    let l = c.loop-i in
    rw (endless c.args.s.now l.i l.value l.scale (digits_read 4 c.args.s.now) l.invariant.2 c.loop-i-test.false)
