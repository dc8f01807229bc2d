-- A flag byte's parts do not overlap: the type, below 8, is shifted by one, and bit 0 is free for the other flag. So what is
-- built by shifts and a bitwise or is the sum of the parts, and what is tested by shifts is the quotient and the remainder.
-- Assumes nothing.
use Rattle.std.specs.Prelude.{◌≡◌, ℕ, ◌+◌, ◌*◌, ◌%◌, ◌^◌, ◌<◌, ◌≤◌, Bool, true, Option}
use Rattle.std.proofs.Common.{arith}
use Rattle.std.proofs.lemmas.Grind.{common_steps}
use lib.Bits.{bit_or, bit_and, and_mask}
use lib.Dec.{eqb, leb}
use mir.Val.{bool_byte}
use Rattle.power_policy_interface.specs.Capability.{psu_type_number, bit}
use Rattle.power_policy_interface.specs.declared.capability.PsuType.{PsuType}

pub number_lt : (t : Option PsuType) → psu_type_number t < 2 ^ 3
number_lt t = grind (arith, common_steps)

-- a number below 8, shifted left by one in a byte
pub shifted : (n : ℕ) → n < 2 ^ 3 → (n * 2) % 256 ≡ n * 2
shifted n h = grind (arith, common_steps)

pub or_flags : (n : ℕ) (u : Bool) → n < 2 ^ 3 → bit_or ((n * 2) % 256) (bool_byte u) ≡ bit u + n * 2
or_flags n u h = grind (arith, common_steps)

-- bit 0
pub and_one : (b : ℕ) → bit_and b 1 ≡ b % 2
and_one b = and_mask b 1

-- a truth value as a byte
pub bit_le : (u : Bool) → bit u ≤ 1
bit_le u = grind arith

pub bit_lt : (u : Bool) → bit u < 256
bit_lt u = grind arith

pub bit_tested : (u : Bool) → leb (bit u) 1 ≡ true
bit_tested u = grind arith

pub bit_back : (u : Bool) → eqb (bit u) 1 ≡ u
bit_back u = grind arith

pub bit_written : (n : ℕ) → n ≤ 1 → n ≡ bit (eqb n 1)
bit_written n h = grind arith
