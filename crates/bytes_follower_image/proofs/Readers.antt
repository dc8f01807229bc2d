-- For the readers: bytes that are to be zeros, of which what is left decides, and what was read of display and slots.
-- Assumes nothing.
use Rattle.std.specs.Prelude.{None, Option, Some}
use Rattle.std.specs.Bool.{then_some}
use mathlib.Core.Path.{◌≡◌, refl, ap, sym, ◌∙◌}
use mathlib.Core.Bool.{Bool, true, false, cond, ◌&&◌}
use mathlib.Core.List.{List}
use Prim.Native.Nat.{ℕ, suc, ◌+◌, ◌*◌, ◌≤◌, ◌<◌}
use native.Mathlib.Omega.{arith}
use native.Mathlib.Numerals.{add-one}
use lib.ListN.{length, get_or, drop, drop_of_length-le}
use lib.Seq.{drop-cons}
use lib.Dec.{eqb, leb, ltb}
use borrow.Author.Tests.{leb-true, leb-false, lt-ltb, le-ltb}
use Rattle.interface_records.specs.Row.{AllBytes}
use Rattle.interface_display.specs.declared.AvailableConsumer.{AvailableConsumer}
use Rattle.interface_display.specs.declared.Display.{Display}
use Rattle.desk_follower.specs.Follower.{lost, at}
use Rattle.desk_follower.specs.declared.held.Held.{Held}
use Rattle.bytes_follower_image.specs.Slot.{zeros}
use Rattle.bytes_groups.specs.Quad.{quad_at, number_from}
use Rattle.bytes_groups.specs.Tagged.{optional_from}
use Rattle.bytes_groups.specs.Shown as shown
use Rattle.bytes_groups.specs.Shown.{shown_at, display_with, display_from, consumer_fits}
use Rattle.bytes_groups.specs.declared.shown.Shown.{Shown as Shown'}
use Rattle.bytes_follower_image.specs.Held.{held_from, is_held}
use Rattle.bytes_follower_image.specs.Image.{port_fits, display_fits, showing_with, showing_of, showing_in, shown_read}
use Rattle.desk_follower.specs.declared.Shown.{Shown}

-- z says whether the bytes passed are zeros

and_assoc : (x y z : Bool) → (x && (y && z)) ≡ ((x && y) && z)
and_assoc true y z = refl
and_assoc false y z = refl

pub and_false : (z : Bool) → (z && false) ≡ false
and_false true = refl
and_false false = refl

pub and_true : (z : Bool) → (z && true) ≡ z
and_true true = refl
and_true false = refl

module _ (s : List ℕ) (i : ℕ) (z : Bool) (q : zeros s ≡ (z && zeros (drop i s))) where
  pub zeros_next : i < length s → zeros s ≡ ((z && eqb (get_or s i 0) 0) && zeros (drop (i + 1) s))
  unfolding zeros
  zeros_next l = q ∙ rw (drop-cons s i 0 l, add-one i) (and_assoc z (eqb (get_or s i 0) 0) (zeros (drop (suc i) s)))

  pub zeros_end : length s ≤ i → zeros s ≡ z
  unfolding zeros
  zeros_end l =
      let r : zeros (drop i s) ≡ true = rw (drop_of_length-le s l) in
      q ∙ (ap (λ (b : Bool). z && b) r ∙ and_true z)

-- lost, by whether zeros stand after the floor

pub lost_given : (z : Bool) (n : ℕ) → then_some z (Shown.Lost n) ≡ shown_read (cond z (Some (lost n)) None)
lost_given true n = refl
lost_given false n = refl

-- a picture's display is one of 16 ports

mask_with : (c : Option (Option AvailableConsumer)) (g : Shown') (d : Display) → display_with c g ≡ Some d → d.providers.mask ≡ g.low + g.high * 256
mask_with None g d e = absurd (cc)
mask_with (Some c) g d e = by (leb g.unconstrained 1) e
  where
    made : Display
    made =
        record {
          consumer = c;
          unconstrained = record { unconstrained = eqb g.unconstrained 1; available = g.available };
          providers = record { mask = g.low + g.high * 256 };
        }

    by : (t : Bool) → cond t (Some made) None ≡ Some d → d.providers.mask ≡ g.low + g.high * 256
    by true q = let z : made ≡ d = cc in ap (λ (x : Display). x.providers.mask) (sym z)
    by false q = absurd (cc)

psu_fits : (n : ℕ) → ltb n 16 ≡ leb n 15
psu_fits n = by (leb n 15) refl
  where
    by : (t : Bool) → leb n 15 ≡ t → ltb n 16 ≡ t
    by true e = lt-ltb n 16 (omega (arith, leb-true n 15 e))
    by false e = le-ltb n 16 (omega (arith, leb-false n 15 e))

port_same : (c : Option AvailableConsumer) → consumer_fits 16 c ≡ port_fits c
port_same None = refl
port_same (Some c) = psu_fits c.psu

pub ports_fit : (b : List ℕ) (d : Display) → AllBytes b → display_from (shown_at b 6) ≡ Some d → shown.display_fits 16 d ≡ display_fits d
ports_fit b d h e =
    let m : d.providers.mask ≡ get_or b 15 0 + get_or b 16 0 * 256 = mask_with (optional_from (shown_at b 6).consumer) (shown_at b 6) d e in
    let l : ltb d.providers.mask 65536 ≡ true = lt-ltb d.providers.mask 65536 (omega (arith, m, h 15, h 16)) in
    rw (port_same d.consumer, l)

-- showing, by what is read of the display and whether the slots are slots

module _ (s : List ℕ) where
  abbrev picture_by : Option Display → Option Shown
  picture_by r = shown_read (showing_of (number_from (quad_at s 2)) r (held_from (number_from (quad_at s 2)) (drop 17 s)))

  picture_with : (n : ℕ) (d : Display) (o : Option Held) → then_some (is_held o) (Shown.Picture (at n d)) ≡ shown_read (showing_with (at n d) o)
  picture_with n d None = refl
  picture_with n d (Some h) = refl

  -- v: the display is within a picture's, and the slots are slots
  pub picture_given : (n : ℕ) (d : Display) (v : Bool) → display_from (shown_at s 6) ≡ Some d → n ≡ number_from (quad_at s 2)
      → v ≡ (display_fits d && is_held (held_from n (drop 17 s))) → then_some v (Shown.Picture (at n d)) ≡ shown_read (showing_in s)
  picture_given n d v e m q =
      ap (λ (b : Bool). then_some b (Shown.Picture (at n d))) q
      ∙ (by (display_fits d)
      ∙ (ap (λ (k : ℕ). shown_read (cond (display_fits d) (showing_with (at k d) (held_from k (drop 17 s))) None)) m ∙ sym (ap picture_by e)))
    where
      by : (t : Bool) → then_some (t && is_held (held_from n (drop 17 s))) (Shown.Picture (at n d))
          ≡ shown_read (cond t (showing_with (at n d) (held_from n (drop 17 s))) None)
      by true = picture_with n d (held_from n (drop 17 s))
      by false = refl
