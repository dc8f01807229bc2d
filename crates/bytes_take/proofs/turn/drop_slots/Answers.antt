-- At least seven slots are all there are.
use mathlib.Core.Path.{◌≡◌, ap, sym, ◌∙◌}
use mathlib.Core.List.{◌++◌}
use Prim.Native.Nat.{ℕ, ◌+◌, ◌*◌, ◌≤◌, min}
use native.Mathlib.Omega.{arith}
use lib.ListN.{take, drop, replicate}
use Rattle.bytes_take.proofs.Moved.{cleared}
use Rattle.bytes_take.proofs.turn.drop_slots.Goals as goal

pub returns-then-count-ge7 : goal.returns-then-count-ge7
returns-then-count-ge7 c =
    let x = c.args in
    let n : 224 ≤ x.count * 32 = omega (arith, c.if-count-ge7.true) in
    let m : min 224 (x.count * 32) ≡ 224 = omega (arith, n) in
    c.put.ensures
    ∙ (cleared x.image.now (x.count * 32) c.told-image n
    ∙ ap (λ (k : ℕ). take 17 x.image.now ++ (drop (17 + x.count * 32) x.image.now ++ replicate k 0)) (sym m))
