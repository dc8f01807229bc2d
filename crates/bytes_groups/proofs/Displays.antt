-- The display has one encoding, since its consumer has, a truth value is 0 or 1, and the tracked ports are two digits.
-- Assumes nothing.
use Rattle.std.specs.Prelude.{None, Option, Some}
use mathlib.Core.Path.{◌≡◌, refl, subst}
use mathlib.Core.Bool.{Bool, true, false, cond}
use mathlib.Core.List.{List}
use Prim.Native.Nat.{ℕ, ◌+◌, ◌*◌, ◌/◌, ◌%◌, ◌<◌}
use native.Mathlib.Omega.{arith}
use lib.Dec.{eqb, leb}
use borrow.Author.Tests.{leb-true}
use Rattle.interface_records.specs.Row.{AllBytes}
use Rattle.interface_display.specs.declared.Display.{Display}
use Rattle.interface_display.specs.declared.AvailableConsumer.{AvailableConsumer}
use Rattle.bytes_groups.specs.Tagged.{optional_from}
use Rattle.bytes_groups.specs.Shown.{shown_at, shown_bytes, display_shown, display_with, display_from}
use Rattle.bytes_groups.specs.declared.shown.Shown.{Shown}
use Rattle.bytes_groups.proofs.Places.{Below, none, one, both}
use Rattle.bytes_groups.proofs.Consumers.{TaggedBytes, ConsumerWithin, Optional, tagged_at_lem, tagged_bytes_lem, optional_back, optional_bytes, optional_read}
use Rattle.power_policy_interface.proofs.Bits.{bit_le, bit_tested, bit_back, bit_written}

pub record ShownBytes (g : Shown) : Type 0 where
  pub consumer : TaggedBytes g.consumer
  pub unconstrained : g.unconstrained < 256
  pub available : g.available < 256
  pub low : g.low < 256
  pub high : g.high < 256

-- the numbers of a display are within their types
pub record DisplayWithin (d : Display) : Type 0 where
  pub consumer : ConsumerWithin d.consumer
  pub available : d.unconstrained.available < 256
  pub mask : d.providers.mask < 65536

pub shown_at_lem : (s : List ℕ) (at : ℕ) → AllBytes s → ShownBytes (shown_at s at)
shown_at_lem s at h = record {
  consumer = tagged_at_lem s at h;
  unconstrained = h (at + 7);
  available = h (at + 8);
  low = h (at + 9);
  high = h (at + 10);
}

pub shown_bytes_lem : (g : Shown) → ShownBytes g → Below (shown_bytes g)
shown_bytes_lem g h =
    both (tagged_bytes_lem g.consumer h.consumer) (one h.unconstrained (one h.available (one h.low (one h.high none))))

-- reading what was written

pub display_back : (d : Display) → display_from (display_shown d) ≡ Some d
display_back d =
    let m : d.providers.mask % 256 + d.providers.mask / 256 * 256 ≡ d.providers.mask = omega arith in
    rw (optional_back d.consumer, bit_tested d.unconstrained.unconstrained, bit_back d.unconstrained.unconstrained, m)

pub display_bytes_lem : (d : Display) → DisplayWithin d → ShownBytes (display_shown d)
display_bytes_lem d h = record {
  consumer = optional_bytes d.consumer h.consumer;
  unconstrained = omega (arith, bit_le d.unconstrained.unconstrained);
  available = h.available;
  low = omega arith;
  high = omega (arith, h.mask);
}

-- what was read was written so, and is within its types
pub record Displayed (g : Shown) (d : Display) : Type 0 where
  pub written : g ≡ display_shown d
  pub typed : DisplayWithin d

abbrev read : Shown → Option AvailableConsumer → Display
read g c =
    record {
      consumer = c;
      unconstrained = record { unconstrained = eqb g.unconstrained 1; available = g.available };
      providers = record { mask = g.low + g.high * 256 };
    }

parts : (g : Shown) (c : Option AvailableConsumer) → ShownBytes g → Optional g.consumer c → leb g.unconstrained 1 ≡ true
    → Displayed g (read g c)
parts g c h o e =
    let w = o.written in
    let u = bit_written g.unconstrained (leb-true g.unconstrained 1 e) in
    let a : g.low ≡ (g.low + g.high * 256) % 256 = omega (arith, h.low) in
    let b : g.high ≡ (g.low + g.high * 256) / 256 = omega (arith, h.low) in
    record {
      written = λ i. record { consumer = w i; unconstrained = u i; available = g.available; low = a i; high = b i };
      typed = record { consumer = o.typed; available = h.available; mask = omega (arith, h.low, h.high) };
    }

tested : (g : Shown) (d : Display) (c : Option AvailableConsumer) (b : Bool) → leb g.unconstrained 1 ≡ b → ShownBytes g
    → Optional g.consumer c → cond b (Some (read g c)) None ≡ Some d → Displayed g d
tested g d c true p h o q =
    let k : read g c ≡ d = cc in
    subst (λ (x : Display). Displayed g x) k (parts g c h o p)
tested g d c false p h o q = absurd (cc)

with_consumer_lem : (g : Shown) (d : Display) (r : Option (Option AvailableConsumer)) → optional_from g.consumer ≡ r → ShownBytes g
    → display_with r g ≡ Some d → Displayed g d
with_consumer_lem g d None p h q = absurd (cc)
with_consumer_lem g d (Some c) p h q =
    tested g d c (leb g.unconstrained 1) refl h (optional_read g.consumer c h.consumer p) q

pub display_read : (g : Shown) (d : Display) → ShownBytes g → display_from g ≡ Some d → Displayed g d
display_read g d h q = with_consumer_lem g d (optional_from g.consumer) refl h q
