-- As many bytes as there are places are stored as a range; where there are none, nothing is.
use mathlib.Core.Path.{◌≡◌, sym}
use Prim.Native.Nat.{◌+◌, ◌-◌}
use native.Mathlib.Nat.{add-zero}
use native.Mathlib.Omega.{arith}
use Rattle.bytes_groups.proofs.Places.{sets_range, sets_rest}
use Rattle.bytes_groups.proofs.place.put.Goals as goal

pub returns-then-n-gt0 : goal.returns-then-n-gt0
returns-then-n-gt0 c =
    let a = c.args in
    let n = c.room-n.result in
    let k : (a.at + n) - a.at ≡ n = omega arith in
    rw (k, c.copy_from_slice.ensures.after) (sets_range a.s.now a.out.now a.at n c.room-n.ensures (omega arith))

pub returns-else-n-gt0 : goal.returns-else-n-gt0
returns-else-n-gt0 c =
    let a = c.args in
    sym (rw add-zero at (sets_rest a.s.now a.out.now a.at 0 (omega arith)))
