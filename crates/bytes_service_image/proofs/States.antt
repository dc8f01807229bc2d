-- What is held has one encoding: that of its display, and a number for the power state.
-- Assumes nothing.
use Rattle.std.specs.Prelude.{None, Option, Some}
use mathlib.Core.Path.{◌≡◌, refl, ap, subst, ◌∙◌}
use mathlib.Core.Bool.{true, ◌&&◌}
use Prim.Native.Nat.{ℕ, zero, suc, ◌≤◌, ◌<◌, ◌^◌}
use native.Mathlib.Omega.{arith}
use lib.Dec.{leb, ltb}
use borrow.Author.Tests.{leb-true, ltb-true}
use Rattle.interface_display.specs.Providers.{len}
use Rattle.interface_display.specs.declared.Display.{Display}
use Rattle.power_policy_service.specs.declared.provider.PowerState.{PowerState}
use Rattle.abstract_policy.specs.State.{display_of}
use Rattle.abstract_policy.specs.declared.state.InternalState.{InternalState}
use Rattle.std.proofs.lemmas.Bool.{and_parts}
use Rattle.bytes_groups.specs.Shown.{display_shown, display_from}
use Rattle.bytes_groups.specs.declared.shown.Shown.{Shown}
use Rattle.bytes_groups.proofs.Displays.{ShownBytes, DisplayWithin, Displayed, display_back, display_read}
use Rattle.power_policy_service.specs.Provider.{power_byte, power_state_from}
use Rattle.bytes_service_groups.specs.State.{state_with, state_from}
use Rattle.bytes_service_image.specs.Typed.{ConsumerTyped}
use Rattle.bytes_service_image.specs.WellFormed.{consumer_fits, providers_fit, state_fits}
use Rattle.bytes_service_image.proofs.Fits.{consumer_typed, consumer_within}
use Rattle.bytes_service_image.proofs.Masks.{mask_lt}

power_back : (p : PowerState) → power_state_from (power_byte p) ≡ Some p
power_back PowerState.Unlimited = refl
power_back PowerState.Limited = refl

pub power_lt : (p : PowerState) → power_byte p < 256
power_lt PowerState.Unlimited = omega arith
power_lt PowerState.Limited = omega arith

-- the byte of a power state that was read, whatever for a refusal
power_number : Option PowerState → ℕ
power_number None = 2
power_number (Some p) = power_byte p

power_written : (b : ℕ) (p : PowerState) → power_state_from b ≡ Some p → b ≡ power_byte p
unfolding power_number
power_written zero p e = ap power_number e
power_written (suc zero) p e = ap power_number e
power_written (suc (suc b)) p e = absurd (cc)

pub state_back : (s : InternalState) → state_from (display_shown (display_of s)) (power_byte s.current_provider_state) ≡ Some s
state_back s =
    ap (λ (r : Option Display). state_with r (power_state_from (power_byte s.current_provider_state))) (display_back (display_of s))
    ∙ ap (state_with (Some (display_of s))) (power_back s.current_provider_state)

pub state_within : (ports : ℕ) (s : InternalState) → ports ≤ 16 → state_fits ports s ≡ true → ConsumerTyped s.current_consumer_state
    → DisplayWithin (display_of s)
state_within ports s h e t =
    let c = consumer_fits ports s.current_consumer_state in
    let a = leb s.unconstrained.available ports in
    let p = providers_fit ports s.connected_providers in
    let m = ltb s.connected_providers.mask (2 ^ ports) in
    let r = (and_parts c (a && p) e).1 in
    let k = leb-true s.unconstrained.available ports (and_parts a p r).0 in
    record {
      consumer = consumer_within ports s.current_consumer_state h (and_parts c (a && p) e).0 t;
      available = omega arith;
      mask = mask_lt ports s.connected_providers.mask h (ltb-true s.connected_providers.mask (2 ^ ports) (and_parts m (leb (len s.connected_providers) 4) (and_parts a p r).1).0);
    }

-- what was read was written so, and is within its types
pub record Read (g : Shown) (b : ℕ) (s : InternalState) : Type 0 where
  pub shown : g ≡ display_shown (display_of s)
  pub power : b ≡ power_byte s.current_provider_state
  pub typed : ConsumerTyped s.current_consumer_state

abbrev made : Display → PowerState → InternalState
made d p =
    record {
      current_consumer_state = d.consumer;
      current_provider_state = p;
      unconstrained = d.unconstrained;
      connected_providers = d.providers;
    }

parts : (g : Shown) (b : ℕ) (d : Display) (p : PowerState) → Displayed g d → power_state_from b ≡ Some p → Read g b (made d p)
parts g b d p h e = record {
  shown = h.written;
  power = power_written b p e;
  typed = consumer_typed d.consumer h.typed.consumer;
}

both_read : (g : Shown) (b : ℕ) (s : InternalState) (d : Option Display) (p : Option PowerState) → display_from g ≡ d → power_state_from b ≡ p
    → ShownBytes g → state_with d p ≡ Some s → Read g b s
both_read g b s None p x y h q = absurd (cc)
both_read g b s (Some d) None x y h q = absurd (cc)
both_read g b s (Some d) (Some p) x y h q =
    let k : made d p ≡ s = cc in
    subst (λ (v : InternalState). Read g b v) k (parts g b d p (display_read g d h x) y)

pub state_read : (g : Shown) (b : ℕ) (s : InternalState) → ShownBytes g → state_from g b ≡ Some s → Read g b s
state_read g b s h q = both_read g b s (display_from g) (power_state_from b) refl refl h q
