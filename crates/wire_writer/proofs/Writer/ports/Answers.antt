-- A port is written or not, by its bit.
use mathlib.Core.Path.{◌≡◌, refl, ◌∙◌}
use Prim.Native.Nat.{◌<◌}
use native.Mathlib.Omega.{arith}
use Rattle.wire.specs.Bytes.{ports_bytes}
use Rattle.wire.proofs.Stores.{left_set, left_clear, left_done}
use Rattle.wire_writer.proofs.Writer.ports.Goals.{then-left-eq1, else-left-eq1}
use Rattle.wire_writer.proofs.Writer.ports.Goals as goal

pub loop-port-init : goal.loop-port-init
unfolding ports_bytes
loop-port-init c = (refl, omega arith, refl, record { place = refl; bytes = refl })

pub loop-port-preserved : goal.loop-port-preserved
loop-port-preserved c =
    let l = c.loop-port in
    let h : l.port < 16 = omega arith in
    elim c.if-left-eq1.branch [
      | then-left-eq1 w ↦
          let e = w.byte.ensures in
          let f = left_set h l.invariant.3 w.if-left-eq1.true in
          rw w.self-is (e.same_buffer ∙ l.invariant.0, omega (arith, e.near), e.long ∙ l.invariant.2, rw (← e.buffer, ← e.place) at f)
      | else-left-eq1 w ↦ rw w.self-is (l.invariant.0, omega arith, l.invariant.2, left_clear h l.invariant.3 w.if-left-eq1.false)
    ]

pub returns : goal.returns
returns c =
    let l = c.loop-port in
    let e : l.port ≡ 16 = omega arith in
    let d = left_done (rw e at l.invariant.3) in
    record { same_buffer = l.invariant.0; place = d.0; buffer = d.1; near = omega arith; long = l.invariant.2 }
