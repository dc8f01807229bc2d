-- A number that is returned is no refusal's if its low byte is another's; and a call that is turned back by the first number that applies.
use mathlib.Core.Path.{◌≡◌, sym, ap, ◌∙◌}
use mathlib.Core.Bool.{Bool, false}
use mathlib.Core.List.{List}
use Prim.Native.Nat.{ℕ}
use lib.Dec.{eqb}
use borrow.Author.Tests.{eqb-false}
use Rattle.abstract_policy.specs.Refusals.{first_refused, Ascending}
use Rattle.abstract_policy.proofs.First.{first}
use Rattle.abstract_calls.specs.Definition.{Refuses}
use Rattle.abstract_calls.specs.Numbers.{refused_number}

-- nothing is two different numbers
pub not_two : {n a b : ℕ} → n ≡ a → n ≡ b → eqb a b ≡ false → ⊥
not_two {n} {a} {b} p q e = eqb-false a b e (sym p ∙ q)

-- refused by it
pub refused_first : (l : List (Bool × ℕ)) (n : ℕ) → Ascending l → first_refused l ≡ n → eqb n 0 ≡ false → Refuses l (refused_number n)
refused_first l n a e d = record { first = first l a; turned_back = λ z. ap refused_number (sym e); accepted = λ z. absurd (eqb-false n 0 d (sym e ∙ z)) }
