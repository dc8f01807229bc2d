-- What a search among the chargers finds is the next powered one.
-- Assumes nothing.
use Rattle.std.specs.Prelude.{ℕ, ◌+◌, ◌-◌, ◌≤◌, zero, suc, Bool, true, false, cond, not, Option, None, Some}
use Rattle.std.specs.List.{find, range_with_len}
use Rattle.std.specs.Option.{option_map}
use mathlib.Core.Path.{◌≡◌, refl, sym, ap, ◌∙◌}
use native.Mathlib.Omega.{arith}
use Rattle.std.proofs.Common.{add-one}
use Rattle.abstract_policy.specs.State.{charger_unpowered}
use Rattle.abstract_policy.specs.declared.state.Records.{Records}
use Rattle.machine_state.specs.Memory.{next_powered, if_below}

abbrev pub powered : Records → ℕ → Bool
powered r i = not (charger_unpowered r i)

same : (o : Option ℕ) → option_map (λ x. x) o ≡ o
same None = refl
same (Some x) = refl

none_left : (a count : ℕ) → count ≤ a → None ≡ if_below count a
none_left a count h = grind arith

one : (r : Records) (n a count : ℕ) (t : Bool) → suc n ≡ count - a →
    find (powered r) (range_with_len (a + 1) n) ≡ if_below count (next_powered r n (a + 1)) →
    cond (not t) (Some a) (find (powered r) (range_with_len (a + 1) n)) ≡ if_below count (cond t (next_powered r n (suc a)) a)
one r n a count true h e = e ∙ ap (λ (i : ℕ). if_below count (next_powered r n i)) (add-one a)
one r n a count false h e = grind arith

found : (r : Records) (n a count : ℕ) → n ≡ count - a → find (powered r) (range_with_len a n) ≡ if_below count (next_powered r n a)
found r zero a count h = none_left a count (omega arith)
found r (suc n) a count h = one r n a count (charger_unpowered r a) h (found r n (a + 1) count (omega arith))

pub first : (r : Records) (a count : ℕ) (o : Option ℕ) →
    option_map (λ x. x) o ≡ find (powered r) (range_with_len a (count - a)) → o ≡ if_below count (next_powered r (count - a) a)
first r a count o e = sym (same o) ∙ (e ∙ found r (count - a) a count refl)
