-- What is registered has one encoding: its figures are the digits of their groups, and a minimum is there or not.
-- Assumes nothing.
use Rattle.std.specs.Prelude.{None, Option, Some}
use mathlib.Core.Path.{◌≡◌, refl, ap, subst, ◌∙◌}
use mathlib.Core.Bool.{Bool, true, false, cond}
use Prim.Native.Nat.{ℕ, zero, suc, ◌+◌, ◌≤◌, ◌<◌}
use native.Mathlib.Omega.{arith}
use mathlib.Core.List.{List}
use lib.Dec.{eqb, leb}
use borrow.Author.Tests.{eqb-true, leb-true}
use Rattle.interface_records.specs.Row.{AllBytes}
use Rattle.power_policy_service.specs.Config.{MinimumFits, ConfigFits}
use Rattle.abstract_policy.specs.declared.state.Registration.{Registration}
use Rattle.std.proofs.lemmas.Bool.{and_parts}
use Rattle.bytes_groups.specs.Quad.{number_quad, number_from, power_from}
use Rattle.bytes_groups.proofs.Places.{Below, none, one, both}
use Rattle.bytes_groups.proofs.Quads.{QuadBytes, quad_at_lem, quad_bytes_lem, number_back, number_written, number_within, number_bytes, power_back, power_written, power_within, power_bytes}
use Rattle.bytes_service_groups.specs.Registration.{registered_at, registered_bytes, presence, figure, registered, minimum_read, registration_with, registration_from}
use Rattle.bytes_service_groups.specs.declared.registration.Registered.{Registered}
use Rattle.bytes_service_image.specs.WellFormed.{registration_fits}
use Rattle.bytes_service_image.proofs.Fits.{fits, within}

pub record RegisteredBytes (g : Registered) : Type 0 where
  pub ports : g.ports < 256
  pub chargers : g.chargers < 256
  pub threshold : QuadBytes g.threshold
  pub unlimited : QuadBytes g.unlimited
  pub limited : QuadBytes g.limited
  pub presence : g.presence < 256
  pub figure : QuadBytes g.figure

pub registered_at_lem : (s : List ℕ) (at : ℕ) → AllBytes s → RegisteredBytes (registered_at s at)
registered_at_lem s at h = record {
  ports = h (at + 0);
  chargers = h (at + 1);
  threshold = quad_at_lem s (at + 2) h;
  unlimited = quad_at_lem s (at + 6) h;
  limited = quad_at_lem s (at + 10) h;
  presence = h (at + 14);
  figure = quad_at_lem s (at + 15) h;
}

pub registered_bytes_lem : (g : Registered) → RegisteredBytes g → Below (registered_bytes g)
registered_bytes_lem g h =
    both (one h.ports (one h.chargers none))
    (both (quad_bytes_lem g.threshold h.threshold)
    (both (quad_bytes_lem g.unlimited h.unlimited)
    (both (quad_bytes_lem g.limited h.limited) (one h.presence (quad_bytes_lem g.figure h.figure)))))

-- the minimum

minimum_back : (m : Option ℕ) → minimum_read (presence m) (number_from (number_quad (figure m))) ≡ Some m
minimum_back None = refl
minimum_back (Some n) = ap (λ (k : ℕ). Some (Some k)) (number_back n)

pub record Minimum (p n : ℕ) (m : Option ℕ) : Type 0 where
  pub presence : p ≡ presence m
  pub figure : n ≡ figure m

no_minimum : (n : ℕ) (m : Option ℕ) (t : Bool) → eqb n 0 ≡ t
    → cond t (Some None) None ≡ Some m → Minimum 0 n m
no_minimum n None true e q = record { presence = refl; figure = eqb-true n 0 e }
no_minimum n (Some k) true e q = absurd (cc)
no_minimum n m false e q = absurd (cc)

a_minimum : (n : ℕ) (m : Option ℕ) → Some (Some n) ≡ Some m → Minimum 1 n m
a_minimum n None q = absurd (cc)
a_minimum n (Some k) q = record { presence = refl; figure = cc }

minimum_read_lem : (p n : ℕ) (m : Option ℕ) → minimum_read p n ≡ Some m → Minimum p n m
minimum_read_lem zero n m q = no_minimum n m (eqb n 0) refl q
minimum_read_lem (suc zero) n m q = a_minimum n m q
minimum_read_lem (suc (suc p)) n m q = absurd (cc)

minimum_typed : (m : Option ℕ) → figure m ≤ 4294967295 → MinimumFits m
minimum_typed None h = tt
minimum_typed (Some n) h = h

figure_typed : (m : Option ℕ) → MinimumFits m → figure m ≤ 4294967295
figure_typed None h = omega arith
figure_typed (Some n) h = h

presence_le : (m : Option ℕ) → presence m ≤ 1
presence_le None = omega arith
presence_le (Some n) = omega arith

-- reading what was written

pub registration_back : (g : Registration) → registration_from (registered g) ≡ Some g
registration_back g =
    let c = g.config in
    rw (
      minimum_back c.min_consumer_threshold_mw,
      number_back c.limited_power_threshold_mw,
      power_back c.provider_unlimited,
      power_back c.provider_limited,
    )

pub registration_bytes : (g : Registration) → registration_fits g ≡ true → ConfigFits g.config → RegisteredBytes (registered g)
registration_bytes g e t =
    let c = g.config in
    let m = c.min_consumer_threshold_mw in
    let p = leb-true g.ports 16 (and_parts (leb g.ports 16) (leb g.chargers 8) e).0 in
    let q = leb-true g.chargers 8 (and_parts (leb g.ports 16) (leb g.chargers 8) e).1 in
    record {
      ports = omega arith;
      chargers = omega arith;
      threshold = number_bytes c.limited_power_threshold_mw t.threshold;
      unlimited = power_bytes c.provider_unlimited (within c.provider_unlimited t.unlimited);
      limited = power_bytes c.provider_limited (within c.provider_limited t.limited);
      presence = omega (arith, presence_le m);
      figure = number_bytes (figure m) (figure_typed m t.minimum);
    }

-- what was read was written so, and is within its types
pub record Read (g : Registered) (r : Registration) : Type 0 where
  pub written : g ≡ registered r
  pub typed : ConfigFits r.config

abbrev made : Registered → Option ℕ → Registration
made g m =
    record {
      config = record {
        limited_power_threshold_mw = number_from g.threshold;
        provider_unlimited = power_from g.unlimited;
        provider_limited = power_from g.limited;
        min_consumer_threshold_mw = m;
      };
      ports = g.ports;
      chargers = g.chargers;
    }

parts : (g : Registered) (m : Option ℕ) → RegisteredBytes g → Minimum g.presence (number_from g.figure) m → Read g (made g m)
parts g m h k =
    let t = number_written g.threshold h.threshold in
    let u = power_written g.unlimited h.unlimited in
    let l = power_written g.limited h.limited in
    let p = k.presence in
    let f = number_written g.figure h.figure ∙ ap number_quad k.figure in
    record {
      written = λ i. record {
        ports = g.ports;
        chargers = g.chargers;
        threshold = t i;
        unlimited = u i;
        limited = l i;
        presence = p i;
        figure = f i;
      };
      typed = record {
        threshold = number_within g.threshold h.threshold;
        unlimited = fits (power_from g.unlimited) (power_within g.unlimited h.unlimited);
        limited = fits (power_from g.limited) (power_within g.limited h.limited);
        minimum = minimum_typed m (subst (λ (n : ℕ). n ≤ 4294967295) k.figure (number_within g.figure h.figure));
      };
    }

with_minimum : (g : Registered) (r : Registration) (m : Option (Option ℕ)) → minimum_read g.presence (number_from g.figure) ≡ m
    → RegisteredBytes g → registration_with m g ≡ Some r → Read g r
with_minimum g r None e h q = absurd (cc)
with_minimum g r (Some m) e h q =
    let k : made g m ≡ r = cc in
    subst (λ (x : Registration). Read g x) k (parts g m h (minimum_read_lem g.presence (number_from g.figure) m e))

pub registration_read : (g : Registered) (r : Registration) → RegisteredBytes g → registration_from g ≡ Some r → Read g r
registration_read g r h q = with_minimum g r (minimum_read g.presence (number_from g.figure)) refl h q
