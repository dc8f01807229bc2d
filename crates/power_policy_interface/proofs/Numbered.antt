-- A condition is known by its number, and a numbered result by its conditions.
-- Assumes nothing.
use Rattle.std.specs.Prelude.{◌≡◌, Result}
use Rattle.std.proofs.Common.{arith}
use Rattle.std.proofs.lemmas.Grind.{common_steps}
use Rattle.power_policy_interface.specs.Refusal.{refusal_number, numbered}
use Rattle.power_policy_interface.specs.declared.refusal.Refusal.{Refusal}

pub number_injective : (r q : Refusal) → refusal_number r ≡ refusal_number q → r ≡ q
number_injective r q e = grind (arith, common_steps)

pub numbered_injective : {A : Type 0} (r q : Result A Refusal) → numbered r ≡ numbered q → r ≡ q
numbered_injective r q e = grind (arith, common_steps, number_injective)
