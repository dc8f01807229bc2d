-- Each turn is a read of the run.
use Rattle.std.proofs.Common.{◌≡◌, arith, refl, [], Ok}
use Rattle.desk_stream.specs.declared.End.{End}
use Rattle.desk_stream.proofs.Takes.{stands_on, stands_off, stands_end}
use Rattle.desk_stream.proofs.Known.{over_first, over_on, over_off}
use Rattle.desk_stream.proofs.turns.Goals as goal

pub loop-init : goal.loop-init
loop-init g c =
    let e = c.requires in
    record {
      short = rw e (omega arith);
      stands = rw e ([], refl);
      over = rw e (over_first c.args.stream.now.desk c.args.sink _ _);
    }

pub loop-preserved : goal.loop-preserved
loop-preserved g c =
    let d = c.args.stream.now.desk in
    let k = c.args.sink in
    let i = c.loop.invariant in
    let r = c.read_on.new.self in
    let ok : c.read_on.result ≡ Ok tt = c.in_default.is in
    let t = rw ok at c.read_on.ensures.took in
    let p = rw ok at c.read_on.ensures.passes in
    record {
      short = t.0;
      stands = stands_on d c.loop.stream.desk r.desk k c.loop.stream.input r.input i.stands t;
      over = over_on d c.loop.stream.desk k _ _ _ _ _ _ c.loop.stream.input i.over r.desk r.input p;
    }

pub returns-in-Err-clause-value : goal.returns-in-Err-clause-value
returns-in-Err-clause-value g c =
    let d = c.args.stream.now.desk in
    let k = c.args.sink in
    let i = c.loop.invariant in
    let r = c.read_on.new.self in
    let t = rw c.in-Err.is at c.read_on.ensures.took in
    (stands_off d c.loop.stream.desk r.desk k c.loop.stream.input r.input c.in-Err.end i.stands t, t.0)

pub returns-in-Err-clause-over : goal.returns-in-Err-clause-over
returns-in-Err-clause-over g c =
    let i = c.loop.invariant in
    let p = rw c.in-Err.is at c.read_on.ensures.passes in
    over_off c.args.stream.now.desk c.loop.stream.desk c.args.sink _ _ _ _ _ _ c.loop.stream.input i.over c.read_on.new.self.desk c.in-Err.end p

pub returns-clause-value : goal.returns-clause-value
returns-clause-value g c =
    (stands_end c.args.stream.now.desk c.loop.stream.desk c.loop.stream.input End.Unread c.loop.invariant.stands, tt)
