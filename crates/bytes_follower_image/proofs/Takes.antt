-- A take keeps a follower that has an image one: the notices of a packet keep a display within what a picture has, and what is held was
-- held before or is the packet taken.
-- Assumes nothing.
use Rattle.std.specs.Prelude.{Ok}
use mathlib.Core.Path.{◌≡◌, refl, ap, sym, subst, ◌∙◌}
use mathlib.Core.Bool.{Bool, true, false, cond}
use mathlib.Core.List.{List, [], ◌∷◌}
use mathlib.Core.Logic.{◌⊎◌, inl, inr}
use Prim.Native.Nat.{ℕ, zero, suc, ◌+◌, ◌%◌, ◌≤◌, ◌<◌}
use native.Mathlib.Omega.{arith}
use lib.Dec.{eqb, leb, ltb}
use lib.ListN.{length, length-set}
use lib.Seq.{get_or-set_same, get_or-set_other}
use borrow.Author.Tests.{eqb-true, eqb-false, leb-true, le-leb}
use Rattle.power_policy_interface.specs.Limits.{largest}
use Rattle.power_policy_interface.specs.declared.service.event.Event.{Event}
use Rattle.interface_records.specs.Row.{AllBytes}
use Rattle.interface_display.specs.Display.{applied_to}
use Rattle.interface_display.specs.Notices.{listed, applied_all, all_applied}
use Rattle.interface_display.specs.declared.Display.{Display}
use Rattle.interface_display.specs.declared.packet.EventPacket.{EventPacket}
use Rattle.interface_display.specs.declared.packet.Packet.{Packet}
use Rattle.interface_display.specs.declared.packet.Picture.{Picture}
use Rattle.interface_display.proofs.Tracked.{Tracks, insert_tracks, remove_tracks}
use Rattle.wire.specs.Read.{read_packet}
use Rattle.wire.specs.WellFormed.{consumer_fits, notice_fits, notices_fit, event_fits, picture_fits}
use Rattle.wire.specs.WellFormed as wire
use Rattle.wire.proofs.OnePacket.{write_read}
use Rattle.desk_follower.specs.Held as held
use Rattle.desk_follower.specs.Held.{nothing, packet_at, held_for, holds, put, placed, dropped, greatest, above}
use Rattle.desk_follower.specs.Follower.{lost, showing, at, in_turn, settled, taken_at, taken}
use Rattle.desk_follower.specs.WellFormed.{WellFormedAt, Readable}
use Rattle.desk_follower.specs.declared.Follower.{Follower}
use Rattle.desk_follower.specs.declared.Shown.{Shown}
use Rattle.desk_follower.specs.declared.held.Held.{Held}
use Rattle.desk_follower.proofs.Kept.{mod8, none_at, take_kept}
use Rattle.bytes_follower_image.specs.Fits.{image_fits}
use Rattle.std.proofs.lemmas.Bool.{and_parts}
use Rattle.bytes_follower_image.proofs.Slots.{parts}
use Rattle.bytes_follower_image.proofs.OneImage.{Fit, fit_tested, tested_fit, Fits, fits, fitted, picture_parts, picture_whole}

-- a display within what a picture has
record Shows (d : Display) : Type 0 where
  consumer : consumer_fits d.consumer ≡ true
  available : leb d.unconstrained.available 16 ≡ true
  tracks : Tracks d.providers

applied_one : (d : Display) (e : Event) → Shows d → notice_fits e ≡ true → Shows (applied_to d e)
applied_one d (Event.ConsumerDisconnected p f) s h = record { consumer = refl; available = s.available; tracks = s.tracks }
applied_one d (Event.ConsumerConnected p c) s h = record { consumer = h; available = s.available; tracks = s.tracks }
applied_one d (Event.ProviderDisconnected p) s h =
    record { consumer = s.consumer; available = s.available; tracks = remove_tracks d.providers p s.tracks }
applied_one d (Event.ProviderConnected p c) s h =
    record { consumer = s.consumer; available = s.available; tracks = insert_tracks d.providers p s.tracks }
applied_one d (Event.Unconstrained u) s h = record { consumer = s.consumer; available = h; tracks = s.tracks }

applied_list : (l : List Event) (d : Display) → Shows d → notices_fit l ≡ true → Shows (applied_all l d)
applied_list [] d s h = s
applied_list (e ∷ l) d s h =
    applied_list l (applied_to d e) (applied_one d e s (and_parts (notice_fits e) (notices_fit l) h).0) (and_parts (notice_fits e) (notices_fit l) h).1

applied_fit : (p : EventPacket) (d : Display) → Fit p → Shows d → Shows (all_applied p.notices d)
applied_fit p d f s = by f.fit
  where
    by : (p ≡ held.none) ⊎ (event_fits p ≡ true) → Shows (all_applied p.notices d)
    by (inl e) = subst (λ (x : EventPacket). Shows (all_applied x.notices d)) (sym e) s
    by (inr e) = applied_list (listed p.notices) d s (parts p e).fits

-- eight places, each with none or a packet that fits
record Stored (h : Held) : Type 0 where
  size : length h.packets ≡ 8
  each : (i : ℕ) → i < 8 → Fit (packet_at h i)

none_fit : Fit held.none
none_fit = record { fit = inl refl }

nothing_stored : Stored nothing
nothing_stored = record { size = refl; each = λ i l. record { fit = inl (none_at 8 i) } }

put_tested : (h : Held) (j : ℕ) (p : EventPacket) → Stored h → j < 8 → Fit p → (i : ℕ) → i < 8 → (t : Bool) → eqb i j ≡ t → Fit (packet_at (put h j p) i)
put_tested h j p s l f i m true t =
    let q = eqb-true i j t in
    subst (λ (x : EventPacket). Fit x) (sym (ap (packet_at (put h j p)) q ∙ get_or-set_same h.packets j p held.none (omega (arith, l, s.size)))) f
put_tested h j p s l f i m false t =
    subst (λ (x : EventPacket). Fit x) (sym (get_or-set_other h.packets j i p held.none (eqb-false i j t))) (s.each i m)

put_stored : (h : Held) (j : ℕ) (p : EventPacket) → Stored h → j < 8 → Fit p → Stored (put h j p)
put_stored h j p s l f =
    record { size = length-set h.packets j p ∙ s.size; each = λ i m. put_tested h j p s l f i m (eqb i j) refl }

kept_tested : (k : ℕ) (h : Held) → Stored h → k < 8 → (t : Bool) → Stored (cond t (put h k held.none) h)
kept_tested k h s l true = put_stored h k held.none s l none_fit
kept_tested k h s l false = s

above_stored : (m k : ℕ) (h : Held) → Stored h → k ≤ 8 → Stored (above m k h)
unfolding above
above_stored m zero h s l = s
above_stored m (suc k) h s l =
    kept_tested k (above m k h) (above_stored m k h s (omega (arith, l))) (omega (arith, l)) (leb (packet_at (above m k h) k).number m)

-- what a take makes

abbrev ShownGood : Shown → Type 0
ShownGood (Shown.Lost floor) = Unit {0}
ShownGood (Shown.Picture s) = Shows s.display

record Good (f : Follower) : Type 0 where
  shown : ShownGood f.shown
  stored : Stored f.held

lost_good : (floor : ℕ) → Good (lost floor)
lost_good floor = record { shown = tt; stored = nothing_stored }

turn_tested : (f n : ℕ) (d : Display) (h : Held) (x : Follower) (a b : Bool) → Shows d → Stored h → Good x
    → Good (cond a (cond b x (lost f)) (showing (at n d) h))
turn_tested f n d h x true true s t g = g
turn_tested f n d h x true false s t g = lost_good f
turn_tested f n d h x false b s t g = record { shown = s; stored = t }

turn_good : (k f n : ℕ) (d : Display) (h : Held) → Shows d → Stored h → Good (in_turn k f n d h)
unfolding in_turn
turn_good zero f n d h s t = record { shown = s; stored = t }
turn_good (suc k) f n d h s t =
    turn_tested f n d h (in_turn k f (n + 1) (all_applied (held_for h (n + 1)).notices d) (dropped h (n + 1))) (holds h (n + 1))
    (eqb (held_for h (n + 1)).answer 0) s t
    (turn_good k f (n + 1) (all_applied (held_for h (n + 1)).notices d) (dropped h (n + 1))
    (applied_fit (held_for h (n + 1)) d (t.each ((n + 1) % 8) (mod8 (n + 1))) s)
    (put_stored h ((n + 1) % 8) held.none t (mod8 (n + 1)) none_fit))

settled_good : (s : Picture) (h : Held) → Shows s.display → Stored h → Good (settled s h)
settled_good s h g t = turn_good 8 (greatest s.number 8 h) s.number s.display h g t

event_tested : (s : Picture) (h : Held) (e : EventPacket) (x y z : Bool) → Shows s.display → Stored h → Fit e
    → Good (cond x (showing s h) (cond y (lost (greatest e.number 8 h)) (cond z (showing s h) (settled s (placed h e)))))
event_tested s h e true y z g t f = record { shown = g; stored = t }
event_tested s h e false true z g t f = lost_good (greatest e.number 8 h)
event_tested s h e false false true g t f = record { shown = g; stored = t }
event_tested s h e false false false g t f =
    settled_good s (placed h e) g (put_stored h (e.number % 8) e t (mod8 e.number) f)

picture_tested : (s : Picture) (h : Held) (p : Picture) (x : Bool) → Shows s.display → Stored h → Shows p.display
    → Good (cond x (showing s h) (settled p (above p.number 8 h)))
picture_tested s h p true g t q = record { shown = g; stored = t }
picture_tested s h p false g t q = settled_good p (above p.number 8 h) q (above_stored p.number 8 h t (omega arith))

lost_tested : (floor : ℕ) (h : Held) (p : Picture) (x : Bool) → Stored h → Shows p.display
    → Good (cond x (record { shown = Shown.Lost floor; held = h }) (showing p nothing))
lost_tested floor h p true t q = record { shown = tt; stored = t }
lost_tested floor h p false t q = record { shown = q; stored = nothing_stored }

abbrev PacketGood : Packet → Type 0
PacketGood (Packet.Event e) = Fit e
PacketGood (Packet.Picture p) = Shows p.display

taken_good : (x : Shown) (h : Held) (p : Packet) → ShownGood x → Stored h → PacketGood p → Good (taken_at x h p)
taken_good (Shown.Lost floor) h (Packet.Event e) g t f = lost_good _
taken_good (Shown.Lost floor) h (Packet.Picture p) g t f = lost_tested floor h p (ltb p.number floor) t f
taken_good (Shown.Picture s) h (Packet.Event e) g t f =
    event_tested s h e (leb e.number s.number) (ltb (s.number + 8) e.number) (holds h e.number) g t f
taken_good (Shown.Picture s) h (Packet.Picture p) g t f = picture_tested s h p (leb p.number s.number) g t f

-- from the test and back

shows : (n : ℕ) (d : Display) → picture_fits (at n d) ≡ true → Shows d
shows n d e =
    let p = picture_parts (at n d) e in
    record {
      consumer = p.consumer;
      available = le-leb d.unconstrained.available 16 p.available;
      tracks = record { ports = p.mask; few = p.few };
    }

pictured : (n : ℕ) (d : Display) → n ≤ largest → Shows d → picture_fits (at n d) ≡ true
pictured n d l s =
    picture_whole n d
    (record {
      number = l;
      consumer = s.consumer;
      available = leb-true d.unconstrained.available 16 s.available;
      mask = s.tracks.ports;
      few = s.tracks.few;
    })

good_shown : (x : Shown) (h : Held) → Fits x h → ShownGood x
good_shown (Shown.Lost floor) h f = tt
good_shown (Shown.Picture s) h f = shows s.number s.display f.shown

good_stored : (x : Shown) (h : Held) → Fits x h → Stored h
good_stored (Shown.Lost floor) h f = subst (λ (g : Held). Stored g) (sym f.formed.1) nothing_stored
good_stored (Shown.Picture s) h f =
    record {
      size = f.formed.1.0;
      each = λ i l. tested_fit (s.number + 2) (s.number + 8) i i (packet_at h i) (omega arith) (f.formed.1.1 i l) (f.places i l);
    }

good_packet : (p : Packet) → wire.well_formed p ≡ true → PacketGood p
good_packet (Packet.Event e) h = record { fit = inr h }
good_packet (Packet.Picture p) h = shows p.number p.display h

readable : (p : Packet) → wire.well_formed p ≡ true → Readable p
readable (Packet.Event e) h =
    let k = parts e h in
    (leb-true e.number largest k.number, k.form)
readable (Packet.Picture p) h = (picture_parts p h).number

fits_again : (x : Shown) (h : Held) → WellFormedAt x h → ShownGood x → Stored h → Fits x h
fits_again (Shown.Lost floor) h w g t = record { formed = w; shown = refl; places = λ i l. fit_tested i (packet_at h i) (t.each i l) }
fits_again (Shown.Picture s) h w g t =
    record { formed = w; shown = pictured s.number s.display w.0 g; places = λ i l. fit_tested i (packet_at h i) (t.each i l) }

-- a packet within what a service writes
pub packet_fits : (f : Follower) (p : Packet) → image_fits f ≡ true → wire.well_formed p ≡ true → image_fits (taken f p) ≡ true
packet_fits f p e h =
    let a = fits f e in
    let g = taken_good f.shown f.held p (good_shown f.shown f.held a) (good_stored f.shown f.held a) (good_packet p h) in
    fitted (taken f p)
    (fits_again (taken f p).shown (taken f p).held (take_kept f p a.formed (readable p h)) g.shown g.stored)

-- a packet that is read from bytes is one
pub take_fits : (f : Follower) (b : List ℕ) (p : Packet) → image_fits f ≡ true → AllBytes b → read_packet b ≡ Ok p
    → image_fits (taken f p) ≡ true
take_fits f b p e a q = packet_fits f p e (write_read b p a q).fits
