-- The bytes are moved, then the last are cleared.
use Prim.Native.Nat.{ℕ, ◌-◌}
use native.Mathlib.Omega.{arith}
use lib.ListN.{length, take, drop, length-take, length-drop}
use Rattle.bytes_take.proofs.Moved.{moved_cleared}
use Rattle.bytes_take.proofs.turn.move_slots.Goals as goal

pub returns : goal.returns
returns c =
    let x = c.args in
    let l = c.copy_within.new.self in
    let k : ℕ = 241 - (241 - x.by) in
    let n = length-take k (drop (241 - x.by) l) in
    moved_cleared x.image.now x.by c.told-image c.requires l c.fill.new.self (length (take k (drop (241 - x.by) l))) c.copy_within.ensures.after
    (c.fill.ensures.after (λ y h. h)) (omega (arith, n, length-drop (241 - x.by) l, c.copy_within.ensures.len, c.told-image, c.requires))
