-- The loop's invariant: what is still to be applied in turn, from here, gives what it gives from the start.
use Rattle.desk_follower.proofs.Turn.{ends, stops, fails, goes}
use mathlib.Core.Path.{ap, sym, ◌∙◌}
use native.Mathlib.Omega.{arith}
use Prim.Native.Nat.{◌-◌}
use Rattle.desk_follower.specs.declared.Follower.{Follower}
use Rattle.desk_follower.specs.Follower.{showing}
use Rattle.desk_follower.proofs.Follower.show_in_turn.Goals as goal
use Rattle.desk_follower.proofs.Follower.show_in_turn.Goals.{else-loop-test, then-loop-test+in_default}

pub returns-then-p-ne0 : goal.returns-then-p-ne0
returns-then-p-ne0 c =
    let l = c.loop in
    c.lose.ensures
    ∙ (sym (fails c.args.floor l.shown.number l.shown.display l.self.held (8 - l.counter) (omega (arith, c.loop-test.true)) c.in-Some.p c.in-Some.ensures.found c.if-p-ne0.true)
    ∙ l.invariant)

pub loop-preserved : goal.loop-preserved
loop-preserved c =
    let l = c.loop in
    sym (goes c.args.floor l.shown.number l.shown.display l.self.held l.counter c.loop-test.true c.in-Some.p c.in-Some.ensures.found c.if-p-ne0.false _ c.apply-shown.ensures _ c.in-Some.ensures.after)
    ∙ l.invariant

pub returns : goal.returns
returns c =
    let l = c.loop in
    elim c.loop-test.branch [
      | else-loop-test w ↦
          ap (λ (f : Follower). showing l.shown f.held) w.self-is
          ∙ (sym (ends c.args.floor l.shown.number l.shown.display l.self.held l.counter w.loop-test.false) ∙ l.invariant)
      | then-loop-test+in_default w ↦
          ap (λ (f : Follower). showing l.shown f.held) w.self-is
          ∙ (sym (stops c.args.floor l.shown.number l.shown.display l.self.held (8 - l.counter) w.in_default.ensures.found _ w.in_default.ensures.after)
          ∙ l.invariant)
    ]
