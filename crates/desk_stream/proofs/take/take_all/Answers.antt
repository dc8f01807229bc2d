-- Each turn is a step of `take_all`: a packet takes at least one byte, and at most those that are left.
use Rattle.std.proofs.Common.{◌∙◌, arith, refl, length-drop}
use Rattle.std.proofs.lemmas.Result.{err_from_is_err_and}
use Rattle.desk_stream.proofs.Takes.{used-within, step-used, step-more, step-stop, none_more}
use Rattle.desk_stream.proofs.Holds.{holds_first, holds-used, holds_more, holds-stop, holds_all, held_short}
use Rattle.desk_stream.proofs.Known.{due_first, due_used, due_more, due_stop, due_all}
use Rattle.desk_stream.proofs.take.take_all.Goals as goal

pub loop-used-init : goal.loop-used-init
loop-used-init g c = record {
  within = omega arith;
  short = rw c.clear.ensures (omega arith);
  left = refl;
  holds = rw c.clear.ensures (holds_first c.args.desk.now c.args.input.now);
  due = rw c.clear.ensures (due_first c.args.desk.now c.args.sink c.args.input.now _);
}

pub returns-in_err-add-clause-took : goal.returns-in_err-add-clause-took
returns-in_err-add-clause-took g c =
    let p = err_from_is_err_and c.from_residual.result c.from_residual.ensures.1 in
    rw (p.1, p.2) c.in_err-add.ensures.goes

pub overflow_add-used : goal.overflow_add-used
overflow_add-used g c =
    let l = c.loop-used in
    let s = c.args.input.now in
    let b = used-within c.args.desk.now l.desk c.step-next.new.self s l.used c.step-next.result.0 l.invariant.within l.invariant.left c.step-next.ensures.desk c.step-next.ensures.next c.in-Used.n c.in-Used.is in
    omega (arith, b.1, length-drop l.used s, c.well_formed)

pub loop-used-smaller : goal.loop-used-smaller
loop-used-smaller g c =
    let l = c.loop-used in
    let s = c.args.input.now in
    let b = used-within c.args.desk.now l.desk c.step-next.new.self s l.used c.step-next.result.0 l.invariant.within l.invariant.left c.step-next.ensures.desk c.step-next.ensures.next c.in-Used.n c.in-Used.is in
    omega (arith, b.0, b.1, length-drop l.used s)

pub loop-used-preserved : goal.loop-used-preserved
loop-used-preserved g c =
    let d = c.args.desk.now in
    let l = c.loop-used in
    let i = l.invariant in
    let s = c.args.input.now in
    let p = c.step-next.ensures in
    let n = c.in-Used.n in
    let b = used-within d l.desk c.step-next.new.self s l.used c.step-next.result.0 i.within i.left p.desk p.next n c.in-Used.is in
    let h = rw (c.as_slice.ensures.value, p.line) at c.in_ok-add.ensures.held in
    let o = rw (c.as_slice.ensures.value, p.line) at c.in_ok-add.ensures.owes in
    record {
      within = omega (arith, b.1, length-drop l.used s);
      short = rw c.in_ok-add.ensures.held (held_short _ _ (omega (arith, c.as_slice.ensures.fits)));
      left = step-used d l.desk c.step-next.new.self s l.used c.step-next.result.0 i.within i.left p.desk p.next n c.in-Used.is;
      holds = holds-used d l.desk c.step-next.new.self s l.lines _ l.used c.step-next.result.0 c.loop-used-test.true i.holds p.desk p.next h n c.in-Used.is b.0;
      due = due_used d l.desk c.step-next.new.self c.args.sink s l.lines _ _ _ _ l.used c.step-next.result.0 i.due p.desk p.next o n c.in-Used.is;
    }

pub returns-in-More-clause-took : goal.returns-in-More-clause-took
returns-in-More-clause-took g c =
    let l = c.loop-used in
    (l.invariant.within, step-more c.args.desk.now l.desk c.step-next.new.self c.args.input.now l.used c.step-next.result.0 l.invariant.within l.invariant.left c.step-next.ensures.desk c.step-next.ensures.next c.in-More.is)

pub returns-in-More-clause-collected : goal.returns-in-More-clause-collected
returns-in-More-clause-collected g c =
    let l = c.loop-used in
    let h = rw (c.as_slice.ensures.value, c.step-next.ensures.line) at c.in_ok-add.ensures.held in
    holds_more c.args.desk.now l.desk c.step-next.new.self c.args.input.now l.lines _ l.used c.step-next.result.0 c.loop-used-test.true l.invariant.holds c.step-next.ensures.desk c.step-next.ensures.next h c.in-More.is

pub returns-in-More-clause-owes : goal.returns-in-More-clause-owes
returns-in-More-clause-owes g c =
    let l = c.loop-used in
    let o = rw (c.as_slice.ensures.value, c.step-next.ensures.line) at c.in_ok-add.ensures.owes in
    due_more c.args.desk.now l.desk c.step-next.new.self c.args.sink c.args.input.now l.lines _ _ _ _ l.used c.step-next.result.0 l.invariant.due c.step-next.ensures.desk c.step-next.ensures.next o c.in-More.is

pub returns-in-Stop-clause-took : goal.returns-in-Stop-clause-took
returns-in-Stop-clause-took g c =
    let l = c.loop-used in
    step-stop c.args.desk.now l.desk c.step-next.new.self c.args.input.now l.used c.step-next.result.0 l.invariant.within l.invariant.left c.step-next.ensures.desk c.step-next.ensures.next c.in-Stop.is

pub returns-in-Stop-clause-collected : goal.returns-in-Stop-clause-collected
returns-in-Stop-clause-collected g c =
    let l = c.loop-used in
    let h = rw (c.as_slice.ensures.value, c.step-next.ensures.line) at c.in_ok-add.ensures.held in
    holds-stop c.args.desk.now l.desk c.step-next.new.self c.args.input.now l.lines _ l.used c.step-next.result.0 c.loop-used-test.true l.invariant.holds c.step-next.ensures.desk c.step-next.ensures.next h c.in-Stop.is

pub returns-in-Stop-clause-owes : goal.returns-in-Stop-clause-owes
returns-in-Stop-clause-owes g c =
    let l = c.loop-used in
    let o = rw (c.as_slice.ensures.value, c.step-next.ensures.line) at c.in_ok-add.ensures.owes in
    due_stop c.args.desk.now l.desk c.step-next.new.self c.args.sink c.args.input.now l.lines _ _ _ _ l.used c.step-next.result.0 l.invariant.due c.step-next.ensures.desk c.step-next.ensures.next o c.in-Stop.is

pub returns-clause-took : goal.returns-clause-took
returns-clause-took g c =
    let l = c.loop-used in
    (l.invariant.within, l.invariant.left ∙ none_more l.desk c.args.input.now l.used c.loop-used-test.false)

pub returns-clause-collected : goal.returns-clause-collected
returns-clause-collected g c =
    let l = c.loop-used in
    holds_all c.args.desk.now l.desk c.args.input.now l.lines l.used c.loop-used-test.false l.invariant.short l.invariant.holds

pub returns-clause-owes : goal.returns-clause-owes
returns-clause-owes g c =
    let l = c.loop-used in
    due_all c.args.desk.now l.desk c.args.sink c.args.input.now l.lines _ _ l.used c.loop-used-test.false l.invariant.due
