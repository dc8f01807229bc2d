-- A follower has one image: the head, the display and the slots each have one encoding. What is read is well formed, place by place.
-- Assumes nothing.
use Rattle.std.specs.Prelude.{None, Option, Some}
use mathlib.Core.Path.{◌≡◌, refl, ap, sym, subst, ◌∙◌}
use mathlib.Core.Bool.{Bool, true, false, cond, ◌&&◌, ◌||◌}
use mathlib.Core.List.{List, ◌∷◌, ◌++◌}
use mathlib.Core.Logic.{◌⊎◌, inl, inr, ⊎_elim}
use Rattle.interface_display.specs.declared.AvailableConsumer.{AvailableConsumer}
use Prim.Native.Nat.{ℕ, zero, suc, ◌+◌, ◌*◌, ◌%◌, ◌≤◌, ◌<◌}
use native.Mathlib.Nat.{add-zero}
use native.Mathlib.Omega.{arith}
use lib.Dec.{eqb, leb, ltb}
use lib.ListN.{length, get_or, drop, replicate, length-drop}
use lib.Seq.{drop-cons}
use borrow.Author.Tests.{eqb-true, eqb-false, eq-eqb, leb-true, le-leb, lt-ltb, ltb-true}
use Rattle.power_policy_interface.specs.Limits.{largest}
use Rattle.power_policy_interface.specs.Capability.{capability_fits}
use Rattle.interface_records.specs.Row.{AllBytes}
use Rattle.interface_display.specs.Providers.{len}
use Rattle.interface_display.specs.declared.Display.{Display}
use Rattle.interface_display.specs.declared.packet.EventPacket.{EventPacket}
use Rattle.interface_display.specs.declared.packet.Picture.{Picture}
use Rattle.wire.specs.WellFormed.{consumer_fits, event_fits, picture_fits}
use Rattle.desk_follower.specs.Held as held
use Rattle.desk_follower.specs.Held.{nothing, packet_at, held_for}
use Rattle.desk_follower.specs.Follower.{lost, showing, at, fresh}
use Rattle.desk_follower.specs.WellFormed.{InPlace, Within, WellFormed, is_none, all_places, well_formed}
use Rattle.desk_follower.specs.declared.Follower.{Follower}
use Rattle.desk_follower.specs.declared.Shown.{Shown}
use Rattle.desk_follower.specs.declared.held.Held.{Held}
use Rattle.desk_follower.proofs.Kept.{mod8, none_at, fresh_kept}
use Rattle.desk_follower.proofs.Decided.{decided, decides, all_true, true_all}
use Rattle.bytes_groups.specs.Quad.{quad_at, quad_bytes, number_quad, number_from}
use Rattle.bytes_groups.specs.Shown.{shown_at, shown_bytes, display_shown, display_from}
use Rattle.bytes_groups.proofs.Places as places
use Rattle.bytes_groups.proofs.Places.{Below}
use Rattle.interface_records.proofs.OneRecord.{gets}
use Rattle.bytes_groups.proofs.Quads.{quad_at_lem, quad_bytes_lem, number_back, number_written, number_within, number_bytes}
use Rattle.bytes_groups.proofs.Consumers.{ConsumerWithin}
use Rattle.bytes_groups.proofs.Displays.{DisplayWithin, shown_at_lem, shown_bytes_lem, display_back, display_bytes_lem, Displayed, display_read}
use Rattle.bytes_follower_image.specs.Slot.{zeros}
use Rattle.bytes_follower_image.specs.Held.{held_bytes, held_from}
use Rattle.bytes_follower_image.specs.Fits.{held_fits, shown_fits, image_fits}
use Rattle.bytes_follower_image.specs.Image.{lost_bytes, showing_bytes, bytes_at, follower_bytes, port_fits, display_fits, showing_with, showing_of, showing_in, follower_cases, follower_from}
use Rattle.std.proofs.lemmas.Bool.{and_parts, or_right}
use Rattle.bytes_follower_image.proofs.Slots.{parts, Told, zeros_written, zero_bytes}
use Rattle.bytes_follower_image.proofs.Rows.{row_length, row_below, row_back, row_restored, row_read, Rowed, owner, owned, not_owned}
use Rattle.interface_records.proofs.OneRow.{drop_bytes}

-- a packet that is held: None, or within what a packet has
pub record Fit (p : EventPacket) : Type 0 where
  pub fit : (p ≡ held.none) ⊎ (event_fits p ≡ true)

pub fit_tested : (i : ℕ) (p : EventPacket) → Fit p → held_fits i p ≡ true
fit_tested i p f = by f.fit
  where
    by : (p ≡ held.none) ⊎ (event_fits p ≡ true) → held_fits i p ≡ true
    by (inl e) = subst (λ (x : EventPacket). held_fits i x ≡ true) (sym e) refl
    by (inr e) = or_right (is_none p) (event_fits p) e

-- what a well-formed place holds by what the test says
pub tested_fit : (lo hi i j : ℕ) (p : EventPacket) → 0 < lo → InPlace lo hi i p → held_fits j p ≡ true → Fit p
tested_fit lo hi i j p l w e = by w (is_none p) refl
  where
    number-zero : is_none p ≡ true → p.number ≡ 0
    number-zero q = eqb-true p.number 0 (and_parts (eqb p.number 0) _ q).0

    by : InPlace lo hi i p → (b : Bool) → is_none p ≡ b → Fit p
    by (inl z) b q = record { fit = inl z }
    by (inr z) true q = absurd (omega (arith, l, z.0, number-zero q))
    by (inr z) false q = record { fit = inr (subst (λ (b : Bool). (b || event_fits p) ≡ true) q e) }

-- the image that fits, as statements
pub record Fits (x : Shown) (h : Held) : Type 0 where
  pub formed : WellFormed (record { shown = x; held = h })
  pub shown : shown_fits x ≡ true
  pub places : (i : ℕ) → i < 8 → held_fits i (packet_at h i) ≡ true

pub fits : (f : Follower) → image_fits f ≡ true → Fits f.shown f.held
fits f e =
    let r = (and_parts (well_formed f) (shown_fits f.shown && all_places held_fits 8 f.held) e).1 in
    record {
      formed = decided f (and_parts (well_formed f) (shown_fits f.shown && all_places held_fits 8 f.held) e).0;
      shown = (and_parts (shown_fits f.shown) (all_places held_fits 8 f.held) r).0;
      places = all_true held_fits 8 f.held (and_parts (shown_fits f.shown) (all_places held_fits 8 f.held) r).1;
    }

pub fitted : (f : Follower) → Fits f.shown f.held → image_fits f ≡ true
fitted f h = rw (decides f h.formed, h.shown, true_all held_fits 8 f.held h.places)

-- a picture by its parts
pub record Pictured (n : ℕ) (d : Display) : Type 0 where
  pub number : n ≤ largest
  pub consumer : consumer_fits d.consumer ≡ true
  pub available : d.unconstrained.available ≤ 16
  pub mask : d.providers.mask < 65536
  pub few : len d.providers ≤ 4

pub picture_parts : (s : Picture) → picture_fits s ≡ true → Pictured s.number s.display
unfolding picture_fits
picture_parts s e =
    let d = s.display in
    let f3 = ltb d.providers.mask 65536 && leb (len d.providers) 4 in
    let f2 = leb d.unconstrained.available 16 && f3 in
    let f1 = consumer_fits d.consumer && f2 in
    let h1 = (and_parts (leb s.number largest) f1 e).1 in
    let h2 = (and_parts (consumer_fits d.consumer) f2 h1).1 in
    let h3 = (and_parts (leb d.unconstrained.available 16) f3 h2).1 in
    record {
      number = leb-true s.number largest (and_parts (leb s.number largest) f1 e).0;
      consumer = (and_parts (consumer_fits d.consumer) f2 h1).0;
      available = leb-true d.unconstrained.available 16 (and_parts (leb d.unconstrained.available 16) f3 h2).0;
      mask = ltb-true d.providers.mask 65536 (and_parts (ltb d.providers.mask 65536) (leb (len d.providers) 4) h3).0;
      few = leb-true (len d.providers) 4 (and_parts (ltb d.providers.mask 65536) (leb (len d.providers) 4) h3).1;
    }

pub picture_whole : (n : ℕ) (d : Display) → Pictured n d → picture_fits (at n d) ≡ true
unfolding picture_fits
picture_whole n d h =
    rw (
      le-leb n largest h.number,
      h.consumer,
      le-leb d.unconstrained.available 16 h.available,
      lt-ltb d.providers.mask 65536 h.mask,
      le-leb (len d.providers) 4 h.few,
    )

-- a display that fits passes the reader's test, and is within its types

port_tested : (c : Option AvailableConsumer) → consumer_fits c ≡ true → port_fits c ≡ true
port_tested None e = refl
port_tested (Some c) e = (and_parts (leb c.psu 15) (capability_fits c.consumer_power_capability.capability) e).0

consumer_within : (c : Option AvailableConsumer) → consumer_fits c ≡ true → ConsumerWithin c
consumer_within None e = tt
consumer_within (Some c) e =
    let p = c.consumer_power_capability.capability in
    let l = leb-true c.psu 15 (and_parts (leb c.psu 15) (capability_fits p) e).0 in
    let r = (and_parts (leb c.psu 15) (capability_fits p) e).1 in
    let v = leb-true p.voltage_mv 65535 (and_parts (leb p.voltage_mv 65535) (leb p.current_ma 65535) r).0 in
    let a = leb-true p.current_ma 65535 (and_parts (leb p.voltage_mv 65535) (leb p.current_ma 65535) r).1 in
    (omega (arith, l), record { mv = omega (arith, v); ma = omega (arith, a) })

consumer_fits_lem : (c : Option AvailableConsumer) → port_fits c ≡ true → ConsumerWithin c → consumer_fits c ≡ true
consumer_fits_lem None e w = refl
consumer_fits_lem (Some c) e w =
    let p = c.consumer_power_capability.capability in
    rw (e, le-leb p.voltage_mv 65535 (omega (arith, w.1.mv)), le-leb p.current_ma 65535 (omega (arith, w.1.ma)))

display_tested : (n : ℕ) (d : Display) → Pictured n d → display_fits d ≡ true
display_tested n d h =
    rw (port_tested d.consumer h.consumer, le-leb d.unconstrained.available 16 h.available, le-leb (len d.providers) 4 h.few)

display_within : (n : ℕ) (d : Display) → Pictured n d → DisplayWithin d
display_within n d h =
    record { consumer = consumer_within d.consumer h.consumer; available = omega (arith, h.available); mask = h.mask }

display_pictured : (n : ℕ) (d : Display) → n ≤ largest → display_fits d ≡ true → DisplayWithin d → Pictured n d
display_pictured n d l e w =
    let f = leb d.unconstrained.available 16 && leb (len d.providers) 4 in
    let r = (and_parts (port_fits d.consumer) f e).1 in
    record {
      number = l;
      consumer = consumer_fits_lem d.consumer (and_parts (port_fits d.consumer) f e).0 w.consumer;
      available = leb-true d.unconstrained.available 16 (and_parts (leb d.unconstrained.available 16) (leb (len d.providers) 4) r).0;
      mask = w.mask;
      few = leb-true (len d.providers) 4 (and_parts (leb d.unconstrained.available 16) (leb (len d.providers) 4) r).1;
    }

-- what is held when n is shown

pub held_told : (n : ℕ) (h : Held) → Within (n + 2) (n + 8) h → ((i : ℕ) → i < 8 → held_fits i (packet_at h i) ≡ true)
    → (j : ℕ) → n + 2 ≤ j → j < n + 2 + 7 → Told j (held_for h j)
held_told n h w f j a b = by (w.1 (j % 8) (mod8 j))
  where
    by : InPlace (n + 2) (n + 8) (j % 8) (held_for h j) → Told j (held_for h j)
    by (inl e) = record { told = inl e }
    by (inr q) =
        let g = tested_fit (n + 2) (n + 8) (j % 8) (j % 8) (held_for h j) (omega arith) (inr q) (f (j % 8) (mod8 j)) in
        let m : (held_for h j).number ≡ j = omega (arith, q.0, q.1, q.3, a, b) in
        record { told = ⊎_elim (λ e. inl e) (λ e. inr (m, e)) g.fit }

pub held_next_lem : (n : ℕ) (h : Held) → Within (n + 2) (n + 8) h → packet_at h ((n + 1) % 8) ≡ held.none
held_next_lem n h w = by (w.1 ((n + 1) % 8) (mod8 (n + 1)))
  where
    by : InPlace (n + 2) (n + 8) ((n + 1) % 8) (packet_at h ((n + 1) % 8)) → packet_at h ((n + 1) % 8) ≡ held.none
    by (inl e) = e
    by (inr q) = absurd (omega (arith, q.0, q.1, q.3))

-- 241 bytes

length_at : (x : Shown) (h : Held) → length (bytes_at x h) ≡ 241
length_at (Shown.Lost floor) h = refl
length_at (Shown.Picture s) h = omega (arith, row_length (s.number + 2) 7 h)

pub follower_length_lem : (f : Follower) → length (follower_bytes f) ≡ 241
follower_length_lem f = length_at f.shown f.held

-- each of them a byte

bytes_at_lem : (x : Shown) (h : Held) → Fits x h → Below (bytes_at x h)
bytes_at_lem (Shown.Lost floor) h f =
    places.one (omega arith)
    (places.one (omega arith) (places.both (quad_bytes_lem (number_quad floor) (number_bytes floor f.formed.0)) (zero_bytes 235)))
bytes_at_lem (Shown.Picture s) h f =
    let p = picture_parts s f.shown in
    let t = held_told s.number h f.formed.1 f.places in
    places.one (omega arith)
    (places.one (omega arith)
    (places.both (quad_bytes_lem (number_quad s.number) (number_bytes s.number p.number))
    (places.both (shown_bytes_lem (display_shown s.display) (display_bytes_lem s.display (display_within s.number s.display p)))
    (row_below (s.number + 2) 7 h t))))

pub follower_bytes_lem : (f : Follower) → image_fits f ≡ true → AllBytes (follower_bytes f)
follower_bytes_lem f e = (bytes_at_lem f.shown f.held (fits f e)).bytes

-- reading what was written

pub lost_back : (floor : ℕ) → follower_from (lost_bytes floor) ≡ Some (lost floor)
unfolding zeros
lost_back floor = ap (λ (n : ℕ). Some (lost n)) (number_back floor)

pub held_back : (s : Picture) (h : Held) → Fits (Shown.Picture s) h → held_from s.number (held_bytes s.number h) ≡ Some h
held_back s h f =
    row_back (s.number + 2) 7 h nothing (held_told s.number h f.formed.1 f.places)
    ∙ ap Some (row_restored s.number h f.formed.1.0 (held_next_lem s.number h f.formed.1))

showing_back : (s : Picture) (h : Held) → Fits (Shown.Picture s) h → showing_in (showing_bytes s h) ≡ Some (showing s h)
showing_back s h f =
    let n = s.number in
    let p = picture_parts s f.shown in
    let x : showing_of (number_from (number_quad n)) (display_from (display_shown s.display)) (held_from (number_from (number_quad n)) (held_bytes n h))
    ≡ showing_of n (Some s.display) (Some h) =
    rw (number_back n, display_back s.display, held_back s h f) in
    x ∙ rw (display_tested n s.display p)

back_at : (x : Shown) (h : Held) → Fits x h → follower_from (bytes_at x h) ≡ Some (record { shown = x; held = h })
back_at (Shown.Lost floor) h f =
    lost_back floor ∙ ap (λ (g : Held). Some (record { shown = Shown.Lost floor; held = g })) (sym f.formed.1)
back_at (Shown.Picture s) h f = rw (eq-eqb (length (showing_bytes s h)) 241 (length_at (Shown.Picture s) h)) (showing_back s h f)

pub follower_read_write : (f : Follower) → image_fits f ≡ true → follower_from (follower_bytes f) ≡ Some f
follower_read_write f e = back_at f.shown f.held (fits f e)

-- what was read was written so, and fits

pub record Written (b : List ℕ) (f : Follower) : Type 0 where
  pub bytes : follower_bytes f ≡ b
  pub fits : image_fits f ≡ true

-- a list from place j on: its elements, and the rest
gets_drop : (s : List ℕ) (j n : ℕ) → j + n ≤ length s → drop j s ≡ gets s j n ++ drop (j + n) s
gets_drop s j zero l = rw add-zero
gets_drop s j (suc n) l =
    let e : j + suc n ≡ suc j + n = omega arith in
    drop-cons s j 0 (omega (arith, l))
    ∙ ap (λ (r : List ℕ). get_or s j 0 ∷ r) (gets_drop s (suc j) n (omega (arith, l)) ∙ ap (λ (k : ℕ). gets s (suc j) n ++ drop k s) (sym e))

lost_tested : (b : List ℕ) (f : Follower) (t : Bool) → zeros (drop 6 b) ≡ t → AllBytes b → length b ≡ 241 → get_or b 0 0 ≡ 2 → get_or b 1 0 ≡ 0
    → cond t (Some (lost (number_from (quad_at b 2)))) None ≡ Some f → Written b f
lost_tested b f true z a e x y q =
    let k : lost (number_from (quad_at b 2)) ≡ f = cc in
    let n = number_from (quad_at b 2) in
    let l : length (drop 6 b) ≡ 235 = length-drop 6 b ∙ omega (arith, e) in
    let r : drop 6 b ≡ replicate 235 0 = zeros_written (drop 6 b) z ∙ ap (λ (m : ℕ). replicate m 0) l in
    let w = number_written (quad_at b 2) (quad_at_lem b 2 a) in
    let g : b ≡ gets b 0 6 ++ drop 6 b = gets_drop b 0 6 (omega (arith, e)) in
    let v : gets b 0 6 ++ drop 6 b ≡ lost_bytes n = λ i. x i ∷ y i ∷ (quad_bytes (w i) ++ r i) in
    let c : Fits (Shown.Lost n) nothing =
    record {
      formed = (number_within (quad_at b 2) (quad_at_lem b 2 a), refl);
      shown = refl;
      places = λ i m. fit_tested i (packet_at nothing i) (record { fit = inl (none_at 8 i) });
    } in
    subst (λ (h : Follower). Written b h) k (record { bytes = sym (g ∙ v); fits = fitted (lost n) c })
lost_tested b f false z a e x y q = absurd (cc)

module _ (b : List ℕ) (a : AllBytes b) (e : length b ≡ 241) where
  -- each place is that of the next event, which stays empty, or of one that was read
  read_places : (n : ℕ) (h : Held) → Rowed (n + 2) 7 (drop 17 b) nothing h → (i : ℕ) → i < 8 → InPlace (n + 2) (n + 8) i (packet_at h i) × Fit (packet_at h i)
  read_places n h r i l = by (eqb i ((n + 1) % 8)) refl
    where
      one : (j : ℕ) → j % 8 ≡ i → n + 2 ≤ j → j < n + 2 + 7 → (held_for h j ≡ held.none) ⊎ (((held_for h j).number ≡ j) × (event_fits (held_for h j) ≡ true))
          → InPlace (n + 2) (n + 8) (j % 8) (held_for h j) × Fit (held_for h j)
      one j o u v (inl z) = (inl z, record { fit = inl z })
      one j o u v (inr z) =
          let k = parts (held_for h j) z.1 in (
            inr (
              omega (arith, z.0, u),
              omega (arith, z.0, v),
              leb-true (held_for h j).number largest k.number,
              ap (λ (m : ℕ). m % 8) z.0,
              k.form,
            ),
            record { fit = inr z.1 },
          )

      by : (t : Bool) → eqb i ((n + 1) % 8) ≡ t → InPlace (n + 2) (n + 8) i (packet_at h i) × Fit (packet_at h i)
      by true t =
          let q = eqb-true i ((n + 1) % 8) t in
          let z = r.others i (λ j u v x. not_owned n j u v (sym q ∙ x)) ∙ none_at 8 i in
          (inl z, record { fit = inl z })
      by false t =
          let o = owned n i l (eqb-false i ((n + 1) % 8) t) in
          subst (λ (k : ℕ). InPlace (n + 2) (n + 8) k (packet_at h k) × Fit (packet_at h k)) o.0
          (one (owner n i) o.0 o.1 o.2 (r.told (owner n i) o.1 o.2).told)

  showing_made : (d : Display) (h : Held) (f : Follower) → get_or b 0 0 ≡ 2 → get_or b 1 0 ≡ 1 → Displayed (shown_at b 6) d → display_fits d ≡ true
      → Rowed (number_from (quad_at b 2) + 2) 7 (drop 17 b) nothing h → showing (at (number_from (quad_at b 2)) d) h ≡ f → Written b f
  showing_made d h f x y o t r k =
      let n = number_from (quad_at b 2) in
      let w = number_written (quad_at b 2) (quad_at_lem b 2 a) in
      let l = number_within (quad_at b 2) (quad_at_lem b 2 a) in
      let v = o.written in
      let z = r.bytes in
      let g : b ≡ gets b 0 17 ++ drop 17 b = gets_drop b 0 17 (omega (arith, e)) in
      let u : gets b 0 17 ++ drop 17 b ≡ showing_bytes (at n d) h = λ i. x i ∷ y i ∷ (quad_bytes (w i) ++ (shown_bytes (v i) ++ z i)) in
      let p = display_pictured n d l t o.typed in
      let c : Fits (Shown.Picture (at n d)) h =
      record {
        formed = (l, (r.size, λ i m. (read_places n h r i m).0));
        shown = picture_whole n d p;
        places = λ i m. fit_tested i (packet_at h i) (read_places n h r i m).1;
      } in
      subst (λ (j : Follower). Written b j) k (record { bytes = sym (g ∙ u); fits = fitted (showing (at n d) h) c })

  held_case : (d : Display) (m : Option Held) (f : Follower) → get_or b 0 0 ≡ 2 → get_or b 1 0 ≡ 1 → Displayed (shown_at b 6) d → display_fits d ≡ true
      → held_from (number_from (quad_at b 2)) (drop 17 b) ≡ m → showing_with (at (number_from (quad_at b 2)) d) m ≡ Some f → Written b f
  held_case d None f x y o t r q = absurd (cc)
  held_case d (Some h) f x y o t r q =
      let k : showing (at (number_from (quad_at b 2)) d) h ≡ f = cc in
      let l : length (drop 17 b) ≡ 7 * 32 = length-drop 17 b ∙ omega (arith, e) in
      showing_made d h f x y o t
      (row_read (number_from (quad_at b 2) + 2) 7 (drop 17 b) nothing h (omega arith) (omega arith) (drop_bytes 17 b a) l refl r)
      k

  fits_case : (d : Display) (f : Follower) (t : Bool) → display_fits d ≡ t → get_or b 0 0 ≡ 2 → get_or b 1 0 ≡ 1 → Displayed (shown_at b 6) d
      → cond t (showing_with (at (number_from (quad_at b 2)) d) (held_from (number_from (quad_at b 2)) (drop 17 b))) None ≡ Some f → Written b f
  fits_case d f true t x y o q = held_case d (held_from (number_from (quad_at b 2)) (drop 17 b)) f x y o t refl q
  fits_case d f false t x y o q = absurd (cc)

  display_case : (r : Option Display) (f : Follower) → display_from (shown_at b 6) ≡ r → get_or b 0 0 ≡ 2 → get_or b 1 0 ≡ 1
      → showing_of (number_from (quad_at b 2)) r (held_from (number_from (quad_at b 2)) (drop 17 b)) ≡ Some f → Written b f
  display_case None f r x y q = absurd (cc)
  display_case (Some d) f r x y q =
      fits_case d f (display_fits d) refl x y (display_read (shown_at b 6) d (shown_at_lem b 6 a) r) q

  kind_case : (k : ℕ) (f : Follower) → get_or b 1 0 ≡ k → get_or b 0 0 ≡ 2 → get_or (follower_cases b) k None ≡ Some f → Written b f
  kind_case zero f y x q = lost_tested b f (zeros (drop 6 b)) refl a e x y q
  kind_case (suc zero) f y x q = display_case (display_from (shown_at b 6)) f refl x y q
  kind_case (suc (suc k)) f y x q = absurd (cc)

written_tested : (b : List ℕ) (f : Follower) (s t : Bool) → eqb (length b) 241 ≡ s → eqb (get_or b 0 0) 2 ≡ t → AllBytes b
    → cond (s && t) (get_or (follower_cases b) (get_or b 1 0) None) None ≡ Some f → Written b f
written_tested b f true true p r a q =
    kind_case b a (eqb-true (length b) 241 p) (get_or b 1 0) f refl (eqb-true (get_or b 0 0) 2 r) q
written_tested b f true false p r a q = absurd (cc)
written_tested b f false t p r a q = absurd (cc)

written_so : (b : List ℕ) (f : Follower) → AllBytes b → follower_from b ≡ Some f → Written b f
written_so b f a e = written_tested b f (eqb (length b) 241) (eqb (get_or b 0 0) 2) refl refl a e

pub follower_write_read : (b : List ℕ) (f : Follower) → AllBytes b → follower_from b ≡ Some f → follower_bytes f ≡ b
follower_write_read b f a e = (written_so b f a e).bytes

pub follower_read_fits : (b : List ℕ) (f : Follower) → AllBytes b → follower_from b ≡ Some f → image_fits f ≡ true
follower_read_fits b f a e = (written_so b f a e).fits

-- a fresh follower has an image
pub fresh_fits : image_fits fresh ≡ true
fresh_fits =
    fitted fresh
    (record { formed = fresh_kept; shown = refl; places = λ i l. fit_tested i (packet_at nothing i) (record { fit = inl (none_at 8 i) }) })
