-- What the first reader's number tells: lost or not, and the number shown, which stands alone in the four bytes above the figures.
use mathlib.Core.Path.{◌≡◌, sym, ◌∙◌}
use mathlib.Core.List.{List}
use mathlib.Core.Logic.{◌⊎◌, inl, inr}
use Prim.Native.Nat.{ℕ, ◌/◌, ◌≤◌}
use native.Mathlib.Omega.{arith}
use Rattle.interface_display.specs.declared.Display.{Display}
use Rattle.interface_display.specs.declared.State.{State}
use Rattle.abstract_calls.specs.Functions.{Functions}
use Rattle.abstract_calls.specs.Numbers.{lost_number, shown_number}
use Rattle.abstract_calls.proofs.OneToOne.{one_to_one}
use Rattle.promise.specs.Runs.{ShownAs}

pub shown_number_lem : (t : State) (n : ℕ) (d : Display) → d.unconstrained.available ≤ 16 → shown_number t n d / 4294967296 ≡ n
shown_number_lem t n d h = one_to_one.number t n d (omega (arith, h))

pub not_lost : (f : Functions) (b : List ℕ) (n : ℕ) (d : Display) → ShownAs f b State.Level n d ⊎ ShownAs f b State.Waiting n d → f.shown b ≡ lost_number → ⊥
not_lost f b n d (inl e) q = cc (one_to_one.lost State.Level n d (sym e.0 ∙ q))
not_lost f b n d (inr e) q = cc (one_to_one.lost State.Waiting n d (sym e.0 ∙ q))
