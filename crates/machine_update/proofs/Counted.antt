-- How many ports pass a test, counted from the first on, is what the definition counts from the last back.
-- Assumes nothing.
use Rattle.std.specs.Prelude.{ℕ, ◌+◌, zero, suc, Bool, true, false, cond, length, List, [], ◌∷◌}
use Rattle.std.specs.List.{filter, range_with_len}
use mathlib.Core.Path.{◌≡◌, refl, ap, ◌∙◌}
use native.Mathlib.Omega.{arith}
use Rattle.abstract_policy.specs.Interaction.{available_of, counted, offers_unconstrained}
use Rattle.abstract_policy.specs.State.{psu_of}
use Rattle.abstract_policy.specs.declared.state.Records.{Records}

abbrev pub offers : Records → ℕ → Bool
offers r i = offers_unconstrained (psu_of r i)

one : (t : Bool) (a : ℕ) → length (cond t (a ∷ []) []) ≡ counted t 0
one true a = refl
one false a = refl

-- one more at the front
step : (t u : Bool) (n a : ℕ) (f g : List ℕ) → length f ≡ counted t (length g) → length (cond u (a ∷ f) f) ≡ counted t (length (cond u (a ∷ g) g))
step true true n a f g e = grind arith
step true false n a f g e = grind arith
step false true n a f g e = grind arith
step false false n a f g e = grind arith

-- one more at the end
more : (r : Records) (n a b : ℕ) → a + n ≡ b →
    length (filter (offers r) (range_with_len a (suc n))) ≡ counted (offers r b) (length (filter (offers r) (range_with_len a n)))
more r zero a b h =
    let e : a ≡ b = omega arith in
    one (offers r a) a ∙ ap (λ (i : ℕ). counted (offers r i) 0) e
more r (suc n) a b h =
    step (offers r b) (offers r a) n a (filter (offers r) (range_with_len (a + 1) (suc n))) (filter (offers r) (range_with_len (a + 1) n)) (more r n (a + 1) b (omega arith))

pub offering : (r : Records) (n : ℕ) → length (filter (offers r) (range_with_len 0 n)) ≡ available_of r n
offering r zero = refl
offering r (suc n) = more r n 0 n (omega arith) ∙ ap (counted (offers r n)) (offering r n)
