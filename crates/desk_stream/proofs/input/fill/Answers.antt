-- What was read stands after the bytes before it: a read gives no more than there is room for.
use Rattle.std.proofs.Common.{◌≡◌, ◌+◌, ◌-◌, ◌≤◌, ◌<◌, ℕ, min, length, take, arith, refl, sym, ap, ◌∙◌, Some, length-take}
use Rattle.std.proofs.lemmas.List.{take-append-le}
use lib.ListN.{replicate, length-replicate}
use lib.Seq.{length-take-le}
use borrow.Author.Tests.{le-leb}
use Rattle.desk_report.specs.Buffer.{added}
use Rattle.desk_stream.proofs.input.fill.Goals as goal

pub returns : goal.returns
returns g c =
    let most = g.row.N in
    let m = c.args.input.now in
    let n = c.in-Ok.n in
    let b = c.read.new.buf in
    let r = c.at_once-room.result in
    let rv : r ≡ min (most - length m) 4096 = c.at_once-room.ensures.value in
    let rf : length m ≤ most = c.at_once-room.ensures.fits in
    let given : length b ≡ length (take r (replicate {A = ℕ} 4096 0)) = c.read.auto.buf in
    let room : length b ≡ r = omega (arith, given, rv, length-take r (replicate {A = ℕ} 4096 0), length-replicate {A = ℕ} 4096 0) in
    let l : n ≤ length b = c.in-Ok.ensures.bound.0 in
    let v : length (take n b) ≡ n = length-take-le n b l in
    let h : length m + length (take n b) ≤ most = omega (arith, v, l, rv, rf, room) in (
      Some (take n b),
      ap Some (sym v),
      c.extend.ensures ∙ (ap (added most m) (take-append-le n b _ l) ∙ rw (le-leb _ _ h) refl),
      (
        c.in-Ok.ensures.bytes.0,
        λ z k.
            let f : 0 < length b = omega (arith, k, rv, room) in
            c.in-Ok.ensures.bytes.1 (sym v ∙ z) f,
      ),
    )
