-- Held packets in turn, with what is held left as it is: the events that follow have places of their own, so that dropping one changes none of those to come;
-- afterwards the slots past the last one applied are as they were, and those past the eighth event are empty.
-- Assumes nothing.
use Rattle.std.specs.Prelude.{None, Option, Some}
use mathlib.Core.Path.{◌≡◌, refl, ap, sym, subst, ◌∙◌}
use mathlib.Core.Bool.{Bool, true, false, cond}
use mathlib.Core.Logic.{◌⊎◌, inl, inr, ⊎_elim}
use Prim.Native.Nat.{ℕ, zero, suc, ◌+◌, ◌-◌, ◌%◌, ◌≤◌, ◌<◌, max}
use native.Mathlib.Nat.{le-max_left, le-max_right, max-le, max-eq_right}
use native.Mathlib.Omega.{arith}
use lib.Dec.{eqb, ltb}
use lib.ListN.{length, set, length-set}
use lib.Seq.{get_or-set_same, get_or-set_other, set-set, set-get_or, ext_get_or}
use borrow.Author.Tests.{eqb-true, eqb-false, eq-eqb, ne_eqb, ltb-true, ltb-false}
use Rattle.interface_display.specs.Notices.{all_applied}
use Rattle.interface_display.specs.declared.Display.{Display}
use Rattle.interface_display.specs.declared.packet.EventPacket.{EventPacket}
use Rattle.interface_display.specs.declared.packet.Packet.{Packet}
use Rattle.interface_display.specs.declared.packet.Picture.{Picture}
use Rattle.desk_follower.specs.Held.{none, packet_at, put, held_for, holds, placed, dropped, greatest, above}
use Rattle.desk_follower.specs.Follower.{lost, showing, at, in_turn, settled, taken_at}
use Rattle.desk_follower.specs.WellFormed.{InPlace, Within}
use Rattle.desk_follower.specs.declared.Follower.{Follower}
use Rattle.desk_follower.specs.declared.Shown.{Shown}
use Rattle.desk_follower.specs.declared.held.Held.{Held}
use Rattle.desk_follower.proofs.Kept.{mod8, seen}
use Rattle.desk_follower.proofs.Laws.{event_new, picture_new, greatest_base, greatest_held, greatest_le, above_stays}
use Rattle.desk_follower.proofs.Floor.{placed_floor}
use Rattle.bytes_follower_image.proofs.Rows.{owner, owned}
use Rattle.bytes_follower_image.proofs.OneImage.{held_next_lem}
use Rattle.bytes_take.specs.Turned.{turned, dropped_to, outcome}

-- a place that none of the events to come has does not matter

turned_put : (k m : ℕ) (d : Display) (h : Held) (j : ℕ) (p : EventPacket) → ((i : ℕ) → m < i → i ≤ m + k → i % 8 ≡ j → ⊥)
    → turned k m d (put h j p) ≡ turned k m d h
unfolding turned
turned_put zero m d h j p f = refl
turned_put (suc k) m d h j p f =
    let e : held_for (put h j p) (m + 1) ≡ held_for h (m + 1) =
    get_or-set_other h.packets j ((m + 1) % 8) p none (f (m + 1) (omega arith) (omega arith)) in
    go (held_for (put h j p) (m + 1)) e
    (λ x. turned_put k (m + 1) (all_applied x.notices d) h j p (λ i a b. f i (omega (arith, a)) (omega (arith, b))))
  where
    go : (y : EventPacket) → y ≡ held_for h (m + 1)
        → ((x : EventPacket) → turned k (m + 1) (all_applied x.notices d) (put h j p) ≡ turned k (m + 1) (all_applied x.notices d) h)
        → cond (eqb y.number (m + 1))
        (cond (eqb y.answer 0) (turned k (m + 1) (all_applied y.notices d) (put h j p)) None)
        (Some (at m d))
        ≡ cond (eqb (held_for h (m + 1)).number (m + 1))
        (cond (eqb (held_for h (m + 1)).answer 0) (turned k (m + 1) (all_applied (held_for h (m + 1)).notices d) h) None)
        (Some (at m d))
    go y q r =
        ap (λ (z : EventPacket).
        cond (eqb z.number (m + 1)) (cond (eqb z.answer 0) (turned k (m + 1) (all_applied z.notices d) (put h j p)) None)
        (Some (at m d))) q
        ∙ ap (λ (z : Option Picture).
        cond (eqb (held_for h (m + 1)).number (m + 1)) (cond (eqb (held_for h (m + 1)).answer 0) z None) (Some (at m d)))
        (r (held_for h (m + 1)))

-- the number does not fall

abbrev pub Grows : ℕ → Option Picture → Type 0
Grows m None = Unit {0}
Grows m (Some p) = m ≤ p.number

less : (m : ℕ) (o : Option Picture) → Grows (m + 1) o → Grows m o
less m None g = tt
less m (Some p) g = omega (arith, g)

grows_at : (m : ℕ) (d : Display) (o : Option Picture) (a b : Bool) → Grows m o → Grows m (cond a (cond b o None) (Some (at m d)))
grows_at m d o true true g = g
grows_at m d o true false g = tt
grows_at m d o false b g = omega arith

pub turned_grows : (k m : ℕ) (d : Display) (h : Held) → Grows m (turned k m d h)
unfolding turned
turned_grows zero m d h = omega arith
turned_grows (suc k) m d h =
    let d' = all_applied (held_for h (m + 1)).notices d in
    grows_at m d (turned k (m + 1) d' h) (holds h (m + 1)) (eqb (held_for h (m + 1)).answer 0) (less m (turned k (m + 1) d' h) (turned_grows k (m + 1) d' h))

pub some_above : (n : ℕ) (p q : Picture) → n < p.number → Some p ≡ Some q → n < q.number
some_above n p q l e =
    let z : p ≡ q = cc in
    let a : p.number ≡ q.number = ap (λ (x : Picture). x.number) z in
    omega (arith, l, a)

-- what is held then

later : (f m : ℕ) (h : Held) (o : Option Picture) → Grows (m + 1) o → outcome f o (m + 1) (dropped h (m + 1)) ≡ outcome f o m h
later f m h None g = refl
later f m h (Some p) g =
    let e : p.number - m ≡ suc (p.number - (m + 1)) = omega (arith, g) in
    ap (λ (j : ℕ). showing p (dropped_to j m h)) (sym e)

turn_at : (f m : ℕ) (d : Display) (h : Held) (x : Follower) (o : Option Picture) (a b : Bool) → x ≡ outcome f o m h
    → cond a (cond b x (lost f)) (showing (at m d) h) ≡ outcome f (cond a (cond b o None) (Some (at m d))) m h
turn_at f m d h x o true true e = e
turn_at f m d h x o true false e = refl
turn_at f m d h x o false b e =
    let z : m - m ≡ 0 = omega arith in
    ap (λ (j : ℕ). showing (at m d) (dropped_to j m h)) (sym z)

pub turn_outcome : (k f m : ℕ) (d : Display) (h : Held) → k ≤ 8 → in_turn k f m d h ≡ outcome f (turned k m d h) m h
unfolding in_turn turned
turn_outcome zero f m d h l =
    let z : m - m ≡ 0 = omega arith in
    ap (λ (j : ℕ). showing (at m d) (dropped_to j m h)) (sym z)
turn_outcome (suc k) f m d h l =
    let d' = all_applied (held_for h (m + 1)).notices d in
    let g = dropped h (m + 1) in
    let same : turned k (m + 1) d' g ≡ turned k (m + 1) d' h =
    turned_put k (m + 1) d' h ((m + 1) % 8) none (λ i a b e. omega (arith, l, a, b, e)) in
    turn_at f m d h (in_turn k f (m + 1) d' g) (turned k (m + 1) d' h) (holds h (m + 1)) (eqb (held_for h (m + 1)).answer 0)
    (turn_outcome k f (m + 1) d' g (omega (arith, l))
    ∙ (ap (λ (o : Option Picture). outcome f o (m + 1) g) same ∙ later f m h (turned k (m + 1) d' h) (turned_grows k (m + 1) d' h)))

-- packets at or below a number that is passed do not matter

module _ (m0 : ℕ) (h : Held) (size : length h.packets ≡ 8) where
  held_left : (m : ℕ) → m0 ≤ m → (t : Bool) → holds h (m + 1) ≡ t
      → (held_for (above m0 8 h) (m + 1) ≡ held_for h (m + 1)) ⊎ ((holds (above m0 8 h) (m + 1) ≡ false) × (holds h (m + 1) ≡ false))
  held_left m l true t =
      let e : (held_for h (m + 1)).number ≡ m + 1 = eqb-true _ _ t in
      inl (above_stays m0 8 h ((m + 1) % 8) (omega (arith, l, e)))
  held_left m l false t =
      let z : (held_for (above m0 8 h) (m + 1)).number ≡ m + 1 → ⊥ = λ e.
      ⊎_elim (λ y. let a : (held_for (above m0 8 h) (m + 1)).number ≡ 0 = ap (λ (p : EventPacket). p.number) y in omega (arith, a, e))
      (λ y. eqb-false _ _ t (sym (ap (λ (p : EventPacket). p.number) y.0) ∙ e))
      ((seen m0 8 h size (omega arith)).1 ((m + 1) % 8) (mod8 (m + 1))) in
      inr (ne_eqb _ _ z, t)

  abbrev step : ℕ → ℕ → Display → EventPacket → Held → Option Picture
  step k m d x g =
      cond (eqb x.number (m + 1)) (cond (eqb x.answer 0) (turned k (m + 1) (all_applied x.notices d) g) None) (Some (at m d))

  left_at : (k m : ℕ) (d : Display) (g : Held) (x y : EventPacket) → (x ≡ y) ⊎ ((eqb x.number (m + 1) ≡ false) × (eqb y.number (m + 1) ≡ false))
      → ((d' : Display) → turned k (m + 1) d' g ≡ turned k (m + 1) d' h) → step k m d x g ≡ step k m d y h
  left_at k m d g x y (inl e) r =
      ap (λ (z : EventPacket). step k m d z g) e
      ∙ ap (λ (o : Option Picture). cond (eqb y.number (m + 1)) (cond (eqb y.answer 0) o None) (Some (at m d)))
      (r (all_applied y.notices d))
  left_at k m d g x y (inr e) r = rw (e.0, e.1)

  pub turned_left : (k m : ℕ) (d : Display) → m0 ≤ m → turned k m d (above m0 8 h) ≡ turned k m d h
  unfolding turned
  turned_left zero m d l = refl
  turned_left (suc k) m d l =
      left_at k m d (above m0 8 h) (held_for (above m0 8 h) (m + 1)) (held_for h (m + 1)) (held_left m l (holds h (m + 1)) refl)
      (λ d'. turned_left k (m + 1) d' (omega (arith, l)))

  -- nor for the floor
  pub greatest_left : greatest m0 8 (above m0 8 h) ≡ greatest m0 8 h
  greatest_left =
      let a : greatest m0 8 (above m0 8 h) ≤ greatest m0 8 h =
      greatest_le m0 (greatest m0 8 h) 8 (above m0 8 h) (greatest_base m0 8 h) (λ i l.
      ⊎_elim (λ y. let z : (packet_at (above m0 8 h) i).number ≡ 0 = ap (λ (p : EventPacket). p.number) y in omega (arith, z))
      (λ y. let z : (packet_at (above m0 8 h) i).number ≡ (packet_at h i).number = ap (λ (p : EventPacket). p.number) y.0 in omega (arith, z, greatest_held m0 8 h i l))
      ((seen m0 8 h size (omega arith)).1 i l)) in
      let b : greatest m0 8 h ≤ greatest m0 8 (above m0 8 h) =
      greatest_le m0 (greatest m0 8 (above m0 8 h)) 8 h (greatest_base m0 8 (above m0 8 h)) (λ i l. there i l (ltb m0 (packet_at h i).number) refl) in
      omega (arith, a, b)
    where
      there : (i : ℕ) → i < 8 → (t : Bool) → ltb m0 (packet_at h i).number ≡ t → (packet_at h i).number ≤ greatest m0 8 (above m0 8 h)
      there i l true t =
          let z : (packet_at (above m0 8 h) i).number ≡ (packet_at h i).number =
          ap (λ (p : EventPacket). p.number) (above_stays m0 8 h i (ltb-true m0 (packet_at h i).number t)) in
          omega (arith, z, greatest_held m0 8 (above m0 8 h) i l)
      there i l false t = omega (arith, ltb-false m0 (packet_at h i).number t, greatest_base m0 8 (above m0 8 h))

-- turns beyond the greatest number held find nothing

module _ (hi : ℕ) (h : Held) (most : (i : ℕ) → i < 8 → (packet_at h i).number ≤ hi) where
  pub turned_fuel : (k m : ℕ) (d : Display) → hi ≤ m + k → turned (suc k) m d h ≡ turned k m d h
  unfolding turned
  turned_fuel zero m d l =
      let z : (held_for h (m + 1)).number ≡ m + 1 → ⊥ = λ e. omega (arith, l, e, most ((m + 1) % 8) (mod8 (m + 1))) in
      rw (ne_eqb (held_for h (m + 1)).number (m + 1) z)
  turned_fuel (suc k) m d l =
      ap (λ (o : Option Picture). cond (holds h (m + 1)) (cond (eqb (held_for h (m + 1)).answer 0) o None) (Some (at m d)))
      (turned_fuel k (m + 1) (all_applied (held_for h (m + 1)).notices d) (omega (arith, l)))

  pub turned_end : (k m : ℕ) (d : Display) → hi ≤ m → turned k m d h ≡ Some (at m d)
  unfolding turned
  turned_end zero m d l = refl
  turned_end (suc k) m d l =
      let z : (held_for h (m + 1)).number ≡ m + 1 → ⊥ = λ e. omega (arith, l, e, most ((m + 1) % 8) (mod8 (m + 1))) in
      rw (ne_eqb (held_for h (m + 1)).number (m + 1) z)

-- one turn, by the packet of the next event

module _ (k m : ℕ) (d : Display) (h : Held) where
  pub turned_stop : (held_for h (m + 1)).number ≡ 0 → turned (suc k) m d h ≡ Some (at m d)
  unfolding turned
  turned_stop e = rw (ne_eqb (held_for h (m + 1)).number (m + 1) (λ z. omega (arith, e, z)))

  pub turned_error : (held_for h (m + 1)).number ≡ m + 1 → ((held_for h (m + 1)).answer ≡ 0 → ⊥) → turned (suc k) m d h ≡ None
  unfolding turned
  turned_error e z = rw (eq-eqb (held_for h (m + 1)).number (m + 1) e, ne_eqb (held_for h (m + 1)).answer 0 z)

  pub turned_next : (held_for h (m + 1)).number ≡ m + 1 → (held_for h (m + 1)).answer ≡ 0
      → turned (suc k) m d h ≡ turned k (m + 1) (all_applied (held_for h (m + 1)).notices d) h
  unfolding turned
  turned_next e z = rw (eq-eqb (held_for h (m + 1)).number (m + 1) e, eq-eqb (held_for h (m + 1)).answer 0 z)

-- the two takes that go in turn, of a follower that shows s with h held

module _ (s : Picture) (h : Held) (w : Within (s.number + 2) (s.number + 8) h) where
  pub within_most : (i : ℕ) → i < 8 → (packet_at h i).number ≤ s.number + 8
  within_most i l =
      ⊎_elim (λ e. let a : (packet_at h i).number ≡ 0 = ap (λ (p : EventPacket). p.number) e in omega (arith, a)) (λ q. q.1) (w.1 i l)

  pub picture_turned : (p : Picture) → s.number < p.number
      → taken_at (Shown.Picture s) h (Packet.Picture p)
      ≡ outcome (greatest p.number 8 h) (turned 8 p.number p.display h) p.number (above p.number 8 h)
  picture_turned p l =
      let g = above p.number 8 h in
      picture_new s h p l
      ∙ (turn_outcome 8 (greatest p.number 8 g) p.number p.display g (omega arith)
      ∙ ((λ i. outcome (greatest_left p.number h w.0 i) (turned_left p.number h w.0 8 p.number p.display (omega arith) i) p.number g)))

  module _ (e : EventPacket) (q : e.number ≡ s.number + 1) where
    next-empty : packet_at h (e.number % 8) ≡ none
    next-empty = ap (λ (m : ℕ). packet_at h (m % 8)) q ∙ held_next_lem s.number h w

    next-free : (held_for h e.number).number ≡ e.number → ⊥
    next-free z = let a : (packet_at h (e.number % 8)).number ≡ 0 = ap (λ (p : EventPacket). p.number) next-empty in omega (arith, a, z, q)

    at_next : held_for (placed h e) (s.number + 1) ≡ e
    at_next =
        let x : (s.number + 1) % 8 ≡ e.number % 8 = ap (λ (m : ℕ). m % 8) (sym q) in
        ap (packet_at (placed h e)) x ∙ get_or-set_same h.packets (e.number % 8) e none (omega (arith, w.0, mod8 e.number))

    holds-next : holds (placed h e) (s.number + 1) ≡ true
    holds-next = eq-eqb _ _ (ap (λ (p : EventPacket). p.number) at_next ∙ q)

    dropped-next : dropped (placed h e) (s.number + 1) ≡ h
    dropped-next =
        let x : (s.number + 1) % 8 ≡ e.number % 8 = ap (λ (m : ℕ). m % 8) (sym q) in
        let y : set (set h.packets (e.number % 8) e) (e.number % 8) none ≡ h.packets =
        set-set h.packets (e.number % 8) e none
        ∙ (ap (λ (p : EventPacket). set h.packets (e.number % 8) p) (sym next-empty) ∙ set-get_or h.packets (e.number % 8) none) in
        ap (λ (m : ℕ). put (placed h e) m none) x ∙ (λ j. record { packets = y j })

    floor : greatest s.number 8 (placed h e) ≡ greatest e.number 8 h
    floor =
        placed_floor s.number h e (omega (arith, q)) (omega (arith, q)) w next-free
        ∙ ap (λ (m : ℕ). greatest m 8 h) (max-eq_right (omega (arith, q)))

    new-event : taken_at (Shown.Picture s) h (Packet.Event e) ≡ settled s (placed h e)
    new-event = event_new s h e (omega (arith, q)) (omega (arith, q)) next-free

    first-turn : (f : ℕ) → in_turn 8 f s.number s.display (placed h e)
        ≡ cond (eqb e.answer 0) (in_turn 7 f e.number (all_applied e.notices s.display) h) (lost f)
    unfolding in_turn
    first-turn f =
        let a : eqb (held_for (placed h e) (s.number + 1)).answer 0 ≡ eqb e.answer 0 = ap (λ (p : EventPacket). eqb p.answer 0) at_next in
        let b : in_turn 7 f (s.number + 1) (all_applied (held_for (placed h e) (s.number + 1)).notices s.display) (dropped (placed h e) (s.number + 1))
        ≡ in_turn 7 f e.number (all_applied e.notices s.display) h =
        λ i. in_turn 7 f (sym q i) (all_applied (at_next i).notices s.display) (dropped-next i) in
        rw (holds-next, a, b)

    -- what is held is above the next event already
    above_next : above e.number 8 h ≡ h
    above_next =
        let g = seen e.number 8 h w.0 (omega arith) in
        let x : (above e.number 8 h).packets ≡ h.packets =
        ext_get_or none (above e.number 8 h).packets h.packets (g.0 ∙ sym w.0) (λ i l. stays i (omega (arith, l, g.0))) in
        λ j. record { packets = x j }
      where
        stays : (i : ℕ) → i < 8 → packet_at (above e.number 8 h) i ≡ packet_at h i
        stays i l =
            ⊎_elim (λ z. ⊎_elim (λ y. y ∙ sym z) (λ y. y.0) ((seen e.number 8 h w.0 (omega arith)).1 i l))
            (λ z. above_stays e.number 8 h i (omega (arith, z.0, q))) (w.1 i l)

    pub event-turned : e.answer ≡ 0
        → taken_at (Shown.Picture s) h (Packet.Event e)
        ≡ outcome (greatest e.number 8 h) (turned 8 e.number (all_applied e.notices s.display) h) e.number (above e.number 8 h)
    event-turned z =
        let d = all_applied e.notices s.display in
        let f = greatest s.number 8 (placed h e) in
        let x : turned 8 e.number d h ≡ turned 7 e.number d h = turned_fuel (s.number + 8) h within_most 7 e.number d (omega (arith, q)) in
        new-event
        ∙ (first-turn f
        ∙ (rw (eq-eqb _ _ z)
        (turn_outcome 7 f e.number d h (omega arith)
        ∙ (λ i. outcome (floor i) (sym x i) e.number (sym above_next i)))))

    pub event-lost : (e.answer ≡ 0 → ⊥) → taken_at (Shown.Picture s) h (Packet.Event e) ≡ lost (greatest e.number 8 h)
    event-lost z = new-event ∙ (first-turn (greatest s.number 8 (placed h e)) ∙ rw (ne_eqb _ _ z) (ap lost floor))

-- the greatest of m and the numbers of k events from event e on, slot by slot: the invariant of `greatest`'s loop

unfoldable pub most_of : ℕ → ℕ → ℕ → Held → ℕ
most_of m e zero h = m
most_of m e (suc k) h = max (most_of m e k h) (held_for h (e + k)).number

pub most_start : (m e : ℕ) (h : Held) → most_of m e 0 h ≡ m
unfolding most_of
most_start m e h = refl

pub most_next : (m e k : ℕ) (h : Held) → most_of m e (k + 1) h ≡ max (most_of m e k h) (held_for h (e + k)).number
unfolding most_of
most_next m e k h = let q : k + 1 ≡ suc k = omega arith in ap (λ (j : ℕ). most_of m e j h) q

most_base : (m e k : ℕ) (h : Held) → m ≤ most_of m e k h
unfolding most_of
most_base m e zero h = omega arith
most_base m e (suc k) h = omega (arith, most_base m e k h, le-max_left (most_of m e k h) (held_for h (e + k)).number)

most_at : (m e k : ℕ) (h : Held) (i : ℕ) → i < k → (held_for h (e + i)).number ≤ most_of m e k h
unfolding most_of
most_at m e zero h i l = absurd (omega (arith, l))
most_at m e (suc k) h i l = by (eqb i k) refl (most_at m e k h i)
  where
    by : (t : Bool) → eqb i k ≡ t → (i < k → (held_for h (e + i)).number ≤ most_of m e k h)
        → (held_for h (e + i)).number ≤ max (most_of m e k h) (held_for h (e + k)).number
    by true t r =
        let q = eqb-true i k t in
        subst (λ (j : ℕ). (held_for h (e + j)).number ≤ max (most_of m e k h) (held_for h (e + k)).number) (sym q)
        (le-max_right (most_of m e k h) (held_for h (e + k)).number)
    by false t r = omega (arith, r (omega (arith, l, eqb-false i k t)), le-max_left (most_of m e k h) (held_for h (e + k)).number)

most_le : (m e k b : ℕ) (h : Held) → m ≤ b → ((j : ℕ) → (held_for h j).number ≤ b) → most_of m e k h ≤ b
unfolding most_of
most_le m e zero b h l f = l
most_le m e (suc k) b h l f = max-le (most_le m e k b h l f) (f (e + k))

pub most_greatest : (n m : ℕ) (h : Held) → Within (n + 2) (n + 8) h → most_of m (n + 2) 7 h ≡ greatest m 8 h
most_greatest n m h w =
    let a = most_le m (n + 2) 7 (greatest m 8 h) h (greatest_base m 8 h) (λ j. greatest_held m 8 h (j % 8) (mod8 j)) in
    let b = greatest_le m (most_of m (n + 2) 7 h) 8 h (most_base m (n + 2) 7 h) (λ i l. at_place i l (eqb i ((n + 1) % 8)) refl) in
    omega (arith, a, b)
  where
    at_place : (i : ℕ) → i < 8 → (t : Bool) → eqb i ((n + 1) % 8) ≡ t → (packet_at h i).number ≤ most_of m (n + 2) 7 h
    at_place i l true t =
        let z : (packet_at h i).number ≡ 0 = ap (λ (p : EventPacket). p.number) (ap (packet_at h) (eqb-true i ((n + 1) % 8) t) ∙ held_next_lem n h w) in
        omega (arith, z)
    at_place i l false t =
        let o = owned n i l (eqb-false i ((n + 1) % 8) t) in
        let k : ℕ = owner n i - (n + 2) in
        let c : n + 2 + k ≡ owner n i = omega (arith, o.1) in
        let z : held_for h (n + 2 + k) ≡ packet_at h i = ap (held_for h) c ∙ ap (packet_at h) o.0 in
        let y : (held_for h (n + 2 + k)).number ≡ (packet_at h i).number = ap (λ (p : EventPacket). p.number) z in
        omega (arith, y, most_at m (n + 2) 7 h k (omega (arith, o.1, o.2)))

-- what is held afterwards

-- each place of g holds none, or what it holds in h, and that is above m
record KeptAbove (m : ℕ) (h g : Held) : Type 0 where
  size : length g.packets ≡ 8
  each : (i : ℕ) → i < 8 → (packet_at g i ≡ none) ⊎ ((packet_at g i ≡ packet_at h i) × (m < (packet_at g i).number))

above_kept : (m : ℕ) (h : Held) → length h.packets ≡ 8 → KeptAbove m h (above m 8 h)
above_kept m h l =
    let s = seen m 8 h l (omega arith) in
    record { size = s.0; each = λ i k. ⊎_elim (λ z. inl z) (λ z. inr (z.0, z.1 k)) (s.1 i k) }

module _ (n : ℕ) (h : Held) (w : Within (n + 2) (n + 8) h) where
  -- a packet stands in its place
  in_place : (i : ℕ) → i < 8 → 0 < (packet_at h i).number → (packet_at h i).number % 8 ≡ i
  in_place i l p =
      ⊎_elim (λ z. absurd (let a : (packet_at h i).number ≡ 0 = ap (λ (x : EventPacket). x.number) z in omega (arith, a, p))) (λ z. z.3) (w.1 i l)

  drop_kept : (m : ℕ) (g : Held) → KeptAbove m h g → KeptAbove (m + 1) h (dropped g (m + 1))
  drop_kept m g k =
      record { size = length-set g.packets ((m + 1) % 8) none ∙ k.size; each = λ i l. by i l (eqb i ((m + 1) % 8)) refl }
    where
      by : (i : ℕ) → i < 8 → (t : Bool) → eqb i ((m + 1) % 8) ≡ t
          → (packet_at (dropped g (m + 1)) i ≡ none) ⊎ ((packet_at (dropped g (m + 1)) i ≡ packet_at h i) × (m + 1 < (packet_at (dropped g (m + 1)) i).number))
      by i l true t =
          inl (ap (packet_at (dropped g (m + 1))) (eqb-true i ((m + 1) % 8) t)
          ∙ get_or-set_same g.packets ((m + 1) % 8) none none (omega (arith, k.size, mod8 (m + 1))))
      by i l false t =
          let u : i ≡ (m + 1) % 8 → ⊥ = eqb-false i ((m + 1) % 8) t in
          let x : packet_at (dropped g (m + 1)) i ≡ packet_at g i = get_or-set_other g.packets ((m + 1) % 8) i none none u in
          ⊎_elim (λ z. inl (x ∙ z))
          (λ z.
          let y : (packet_at g i).number ≡ (packet_at h i).number = ap (λ (p : EventPacket). p.number) z.0 in
          let v : (packet_at (dropped g (m + 1)) i).number ≡ (packet_at g i).number = ap (λ (p : EventPacket). p.number) x in
          let c = in_place i l (omega (arith, y, z.1)) in
          inr (x ∙ z.0, omega (arith, y, v, z.1, c, u)))
          (k.each i l)

  to_kept : (j m : ℕ) (g : Held) → KeptAbove m h g → KeptAbove (m + j) h (dropped_to j m g)
  to_kept zero m g k = let e : m + 0 ≡ m = omega arith in subst (λ (x : ℕ). KeptAbove x h g) (sym e) k
  to_kept (suc j) m g k =
      let e : m + 1 + j ≡ m + suc j = omega arith in
      subst (λ (x : ℕ). KeptAbove x h (dropped_to j (m + 1) (dropped g (m + 1)))) e (to_kept j (m + 1) (dropped g (m + 1)) (drop_kept m g k))

  -- the places of other events are left
  to_stays : (j m : ℕ) (g : Held) (i : ℕ) → ((x : ℕ) → m < x → x ≤ m + j → i ≡ x % 8 → ⊥) → packet_at (dropped_to j m g) i ≡ packet_at g i
  to_stays zero m g i f = refl
  to_stays (suc j) m g i f =
      to_stays j (m + 1) (dropped g (m + 1)) i (λ x a b. f x (omega (arith, a)) (omega (arith, b)))
      ∙ get_or-set_other g.packets ((m + 1) % 8) i none none (f (m + 1) (omega arith) (omega arith))

  module _ (m q : ℕ) (a : n < m) (b : m ≤ q) where
    abbrev pub after : Held
    after = dropped_to (q - m) m (above m 8 h)

    kept : KeptAbove q h after
    kept =
        let e : m + (q - m) ≡ q = omega (arith, b) in
        subst (λ (x : ℕ). KeptAbove x h (dropped_to (q - m) m (above m 8 h))) e (to_kept (q - m) m (above m 8 h) (above_kept m h w.0))

    -- an event above q and up to n + 8 is held as before
    pub held_same : (t : ℕ) → q < t → t ≤ n + 8 → held_for after t ≡ held_for h t
    held_same t l u = by (w.1 (t % 8) (mod8 t))
      where
        by : InPlace (n + 2) (n + 8) (t % 8) (held_for h t) → held_for (dropped_to (q - m) m (above m 8 h)) t ≡ held_for h t
        by (inl z) = ⊎_elim (λ y. y ∙ sym z) (λ y. y.0) (kept.each (t % 8) (mod8 t))
        by (inr z) =
            let c : m < (held_for h t).number = omega (arith, a, b, l, u, z.0, z.1, z.3) in
            to_stays (q - m) m (above m 8 h) (t % 8) (λ x d e r. omega (arith, a, b, l, u, d, e, r)) ∙ above_stays m 8 h (t % 8) c

    -- one beyond n + 8 is not held
    pub held_none : (t : ℕ) → n + 8 < t → q < t → t ≤ q + 8 → held_for after t ≡ none
    held_none t l u v =
        ⊎_elim (λ y. y)
        (λ y.
        let c : (held_for (dropped_to (q - m) m (above m 8 h)) t).number ≡ (held_for h t).number = ap (λ (p : EventPacket). p.number) y.0 in
        ⊎_elim (λ z. y.0 ∙ z) (λ z. absurd (omega (arith, l, u, v, c, y.1, z.0, z.1, z.3))) (w.1 (t % 8) (mod8 t)))
        (kept.each (t % 8) (mod8 t))
