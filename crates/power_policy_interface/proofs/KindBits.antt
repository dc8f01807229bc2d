-- A kind's number is below 8, so its bit fits a byte.
-- Assumes nothing.
use Rattle.std.specs.Prelude.{◌≡◌, ◌*◌, ◌%◌, ◌^◌, ◌<◌, Option}
use Rattle.std.proofs.Common.{arith}
use Rattle.std.proofs.lemmas.Grind.{common_steps}
use Rattle.power_policy_interface.specs.Psu.{kind_number, actual_byte}
use Rattle.power_policy_interface.specs.declared.psu.Mismatch.{Mismatch}
use Rattle.power_policy_interface.specs.declared.psu.StateKind.{StateKind}

pub kind_lt : (k : StateKind) → kind_number k < 8
kind_lt k = grind (arith, common_steps)

-- 1 shifted left by the kind's number, in a byte
pub one_shifted : (k : StateKind) → (1 * 2 ^ kind_number k) % 256 ≡ 2 ^ kind_number k
one_shifted k = grind (arith, common_steps)

pub actual_lt : (m : Option Mismatch) → actual_byte m < 256
actual_lt m = grind (arith, common_steps)
