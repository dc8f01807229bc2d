-- What is kept of a packet that is not whole is short.
use Rattle.std.proofs.Common.{◌≡◌, Some, rules}
use Rattle.desk_stream.proofs.Takes.{kept_few}
use Rattle.desk_stream.proofs.input.Stream.take_front.Goals as goal

pub returns-clause-took : goal.returns-clause-took
returns-clause-took g c =
    let u = c.in_ok-ok_or.field-0 in
    let e : c.in_ok-used.used ≡ Some u = search rules in
    let t = rw (e, c.as_slice.ensures.value, ← c.forget.ensures) at c.in_ok-used.ensures.took in
    (kept_few _ _ _ _ t.1, t.1)
