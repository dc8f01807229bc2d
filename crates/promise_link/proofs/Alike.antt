-- The code's follower does what the abstract one does: in turn, the ring's next place is the list's first packet; else a take changes the list at one number,
-- and a picture keeps what is above it. Over lists, take by take.
use Rattle.std.specs.Prelude.{Err, None, Ok, Option, Result, Some}
use mathlib.Core.Path.{◌≡◌, refl, ap, sym, ◌∙◌, subst}
use mathlib.Core.Bool.{Bool, true, false, cond, ◌&&◌}
use mathlib.Core.List.{List, [], ◌∷◌, ◌++◌}
use mathlib.Core.Logic.{◌↔◌, ⊎_elim}
use Prim.Native.Nat.{ℕ, zero, suc, ◌+◌, ◌%◌, ◌≤◌, ◌<◌}
use native.Mathlib.Nat.{max-eq_right}
use native.Mathlib.Omega.{arith}
use lib.Dec.{eqb, leb, ltb}
use lib.ListN.{get_or}
use borrow.Author.Tests.{eqb-true, eqb-false, ne_eqb, leb-true, leb-false, le-leb, lt-leb, ltb-true, ltb-false}
use Rattle.interface_display.specs.Notices.{all_applied}
use Rattle.interface_display.specs.declared.Display.{Display}
use Rattle.interface_display.specs.declared.packet.EventPacket.{EventPacket}
use Rattle.interface_display.specs.declared.packet.Packet.{Packet}
use Rattle.interface_display.specs.declared.packet.Picture.{Picture}
use Rattle.interface_display.specs.declared.State.{State}
use Rattle.wire.specs.Read.{read_packet}
use Rattle.wire.proofs.OnePacket.{write_read}
use Rattle.abstract_desk.specs.Follower as paper
use Rattle.abstract_desk.specs.Takes.{read_by, takes_by, EachBytes}
use Rattle.desk_follower.specs.Follower.{lost, showing, at, fresh, in_turn, settled, taken, taken_at, state_at}
use Rattle.desk_follower.specs.Held.{nothing, packet_at, held_for, holds, placed, dropped, none_held, greatest, above}
use Rattle.desk_follower.specs.WellFormed.{Within, WellFormedAt, WellFormed, Readable}
use Rattle.desk_follower.specs.declared.Follower.{Follower}
use Rattle.desk_follower.specs.declared.Shown.{Shown}
use Rattle.desk_follower.specs.declared.held.Held.{Held}
use Rattle.desk_follower.proofs.Floor.{placed_floor}
use Rattle.desk_follower.proofs.Kept.{mod8, nothing_within, go_within, event_within, picture_within, fresh_kept, take_kept}
use Rattle.desk_follower.proofs.Laws.{event_old, event_held, event_new, event_beyond, picture_old, picture_new}
use Rattle.promise_link.specs.Alike.{one, held_from, seen_at, seen, Rising, Alike}
use Rattle.promise_link.specs.Link.{follower_after}
use Rattle.promise_link.specs.Takes.{taken_read, take_bytes, takes_bytes}
use Rattle.promise_link.proofs.Places.{Has, has_bounds}
use Rattle.promise_link.proofs.Lists.{readable}
use Rattle.promise_link.proofs.Ring.{one_none, one_below, from_next, short, none_from, dropped_from, one_there, one_here, after_here}
use Rattle.promise_link.proofs.Order.{held_again, put-from, held-least, greatest-is, greatest_above, above_from}
use Rattle.desk_follower.proofs.Places.{each_none}

-- in turn

-- where the next is not there it stops
stays : (f n : ℕ) (d : Display) (h : Held) (k m : ℕ) → n + 1 < m → paper.in_turn f n d (held_from h m k) ≡ paper.showing n d (held_from h m k)
unfolding held_from
stays f n d h zero m l = refl
stays f n d h (suc k) m l = go (holds h m) refl (stays f n d h k (m + 1) (omega arith))
  where
    go : (t : Bool) → holds h m ≡ t → paper.in_turn f n d (held_from h (m + 1) k) ≡ paper.showing n d (held_from h (m + 1) k) →
        paper.in_turn f n d (cond t (held_for h m ∷ []) [] ++ held_from h (m + 1) k) ≡ paper.showing n d (cond t (held_for h m ∷ []) [] ++ held_from h (m + 1) k)
    go true t r =
        let x : (held_for h m).number ≡ m = eqb-true _ _ t in
        let z : (held_for h m).number ≡ n + 1 → ⊥ = λ q. absurd (omega arith) in
        rw (ne_eqb (held_for h m).number (n + 1) z)
    go false t r = r

turn : (k f n : ℕ) (d : Display) (h : Held) (hi : ℕ) → hi ≤ n + k → hi ≤ n + 8 → Within (n + 1) hi h →
    seen (in_turn k f n d h) ≡ paper.in_turn f n d (held_from h (n + 1) 8)
unfolding in_turn
turn zero f n d h hi lk lh w =
    ap (λ (l : List EventPacket). paper.showing n d l) (none_from (n + 1) hi h (n + 2) 7 w (omega arith))
    ∙ sym (ap (λ (l : List EventPacket). paper.in_turn f n d l) (none_from (n + 1) hi h (n + 1) 8 w (omega arith)))
turn (suc k) f n d h hi lk lh w =
    go (holds h (n + 1)) refl (eqb (held_for h (n + 1)).answer 0) refl
    (turn k f (n + 1) (all_applied (held_for h (n + 1)).notices d) (dropped h (n + 1)) hi (omega arith) (omega arith) again
    ∙ ap (λ (l : List EventPacket). paper.in_turn f (n + 1) (all_applied (held_for h (n + 1)).notices d) l) (dropped_from n hi h lh w))
    ∙ ap (λ (l : List EventPacket). paper.in_turn f n d l) (sym (from_next h (n + 1) 7))
  where
    again : Within (n + 1 + 1) hi (dropped h (n + 1))
    again =
        let e : n + 1 + 1 ≡ n + 2 = omega arith in
        subst (λ z. Within z hi (dropped h (n + 1))) (sym e) (go_within n hi h w)

    stop : paper.showing n d (held_from h (n + 2) 7) ≡ paper.in_turn f n d (held_from h (n + 1 + 1) 7)
    stop =
        let e : n + 2 ≡ n + 1 + 1 = omega arith in
        ap (λ (z : ℕ). paper.showing n d (held_from h z 7)) e ∙ sym (stays f n d h 7 (n + 1 + 1) (omega arith))

    go : (x : Bool) → holds h (n + 1) ≡ x → (y : Bool) → eqb (held_for h (n + 1)).answer 0 ≡ y →
        seen (in_turn k f (n + 1) (all_applied (held_for h (n + 1)).notices d) (dropped h (n + 1)))
        ≡ paper.in_turn f (n + 1) (all_applied (held_for h (n + 1)).notices d) (held_from h (n + 1 + 1) 7) →
        seen (cond x (cond y (in_turn k f (n + 1) (all_applied (held_for h (n + 1)).notices d) (dropped h (n + 1))) (lost f)) (showing (at n d) h))
        ≡ paper.in_turn f n d (cond x (held_for h (n + 1) ∷ []) [] ++ held_from h (n + 1 + 1) 7)
    go true ex true ey r = rw (ex, ey) r
    go true ex false ey r = rw (ex, ey)
    go false ex true ey r = stop
    go false ex false ey r = stop

settled_is : (s : Picture) (h : Held) → Within (s.number + 1) (s.number + 8) h →
    seen (settled s h) ≡ paper.in_turn (greatest s.number 8 h) s.number s.display (held_from h (s.number + 1) 8)
settled_is s h w = turn 8 (greatest s.number 8 h) s.number s.display h (s.number + 8) (omega arith) (omega arith) w

-- showing n, an event packet

module _ (s : Picture) (h : Held) (e : EventPacket) (w : Within (s.number + 2) (s.number + 8) h) (r : Readable (Packet.Event e)) where
  abbrev waiting : List EventPacket
  waiting = held_from h (s.number + 2) 7

  tests : (x y z : Bool) → leb e.number s.number ≡ x → eqb e.number (s.number + 1) ≡ y → leb e.number (s.number + 8) ≡ z →
      paper.taken_event s.number s.display waiting e
      ≡ cond x (paper.showing s.number s.display waiting)
      (cond y (paper.in_turn (paper.greatest e.number waiting) s.number s.display (e ∷ waiting))
      (cond z (paper.showing s.number s.display (paper.held_with e waiting)) (paper.lost (paper.greatest e.number waiting))))
  tests x y z p q o =
      λ i. cond (p i) (paper.showing s.number s.display waiting)
      (cond (q i) (paper.in_turn (paper.greatest e.number waiting) s.number s.display (e ∷ waiting))
      (cond (o i) (paper.showing s.number s.display (paper.held_with e waiting)) (paper.lost (paper.greatest e.number waiting))))

  floor_is : greatest e.number 8 h ≡ paper.greatest e.number waiting
  floor_is = greatest-is e.number h (s.number + 2) (s.number + 8) (s.number + 2) 7 w (omega arith) (omega arith)

  placed_is : s.number < e.number → e.number ≤ s.number + 8 → (Has h e.number → ⊥) →
      seen (taken (showing s h) (Packet.Event e)) ≡ paper.in_turn (greatest s.number 8 (placed h e)) s.number s.display (held_from (placed h e) (s.number + 1) 8)
  placed_is l u new = ap seen (event_new s h e l u new) ∙ settled_is s (placed h e) (event_within s.number h e l u r w)

  -- n + 1
  next : e.number ≡ s.number + 1 →
      seen (taken (showing s h) (Packet.Event e)) ≡ paper.in_turn (paper.greatest e.number waiting) s.number s.display (e ∷ waiting)
  next q =
      placed_is l u new
      ∙ (ap (λ (x : ℕ). paper.in_turn x s.number s.display (held_from (placed h e) (s.number + 1) 8)) floor
      ∙ ap (λ (x : List EventPacket). paper.in_turn (paper.greatest e.number waiting) s.number s.display x) list)
    where
      l : s.number < e.number
      l = omega (arith, q)

      u : e.number ≤ s.number + 8
      u = omega (arith, q)

      new : Has h e.number → ⊥
      new has = absurd (omega (arith, q, (has_bounds (s.number + 2) (s.number + 8) h e.number (omega (arith, q)) w has).0))

      floor : greatest s.number 8 (placed h e) ≡ paper.greatest e.number waiting
      floor =
          placed_floor s.number h e l u w new
          ∙ (ap (λ (x : ℕ). greatest x 8 h) (max-eq_right {n = s.number} {m = e.number} (omega (arith, q))) ∙ floor_is)

      here : one (placed h e) (s.number + 1) ≡ e ∷ []
      here = subst (λ (x : ℕ). one (placed h e) x ≡ e ∷ []) q (one_here s.number h e l u w.0)

      list : held_from (placed h e) (s.number + 1) 8 ≡ e ∷ waiting
      list =
          let p : s.number + 1 + 1 ≡ s.number + 2 = omega arith in
          from_next (placed h e) (s.number + 1) 7
          ∙ (ap (λ (x : List EventPacket). x ++ held_from (placed h e) (s.number + 1 + 1) 7) here
          ∙ (ap (λ (x : List EventPacket). e ∷ x) (after_here s.number h e l u (s.number + 1 + 1) 7 (omega (arith, q)) (omega arith))
          ∙ ap (λ (x : ℕ). e ∷ held_from h x 7) p))

  -- n + 2 to n + 8, not held yet
  waits : s.number + 2 ≤ e.number → e.number ≤ s.number + 8 → (Has h e.number → ⊥) →
      seen (taken (showing s h) (Packet.Event e)) ≡ paper.showing s.number s.display (paper.held_with e waiting)
  waits a u new =
      placed_is l u new
      ∙ (ap (λ (x : List EventPacket). paper.in_turn (greatest s.number 8 (placed h e)) s.number s.display x) list
      ∙ (stays (greatest s.number 8 (placed h e)) s.number s.display (placed h e) 7 (s.number + 2) (omega arith)
      ∙ ap (λ (x : List EventPacket). paper.showing s.number s.display x)
      (put-from e h s.number l u w.0 new 7 (s.number + 2) (omega arith) (omega arith) a (omega arith))))
    where
      l : s.number < e.number
      l = omega (arith, a)

      here : one (placed h e) (s.number + 1) ≡ []
      here =
          one_there s.number h e l u (s.number + 1) (omega arith) (omega arith) (λ q. absurd (omega (arith, q, a)))
          ∙ one_below (s.number + 2) (s.number + 8) h (s.number + 1) w (omega arith) (omega arith)

      list : held_from (placed h e) (s.number + 1) 8 ≡ held_from (placed h e) (s.number + 2) 7
      list =
          let p : s.number + 1 + 1 ≡ s.number + 2 = omega arith in
          from_next (placed h e) (s.number + 1) 7
          ∙ (ap (λ (x : List EventPacket). x ++ held_from (placed h e) (s.number + 1 + 1) 7) here
          ∙ ap (λ (x : ℕ). held_from (placed h e) x 7) p)

  -- n + 2 to n + 8, held or not
  waits_tested : s.number + 2 ≤ e.number → e.number ≤ s.number + 8 → (t : Bool) → holds h e.number ≡ t →
      seen (taken (showing s h) (Packet.Event e)) ≡ paper.showing s.number s.display (paper.held_with e waiting)
  waits_tested a u true t =
      ap seen (event_held s h e (omega (arith, a)) u (eqb-true _ _ t))
      ∙ ap (λ (x : List EventPacket). paper.showing s.number s.display x)
      (sym (held_again e h (eqb-true _ _ t) 7 (s.number + 2) a (omega (arith, u))))
  waits_tested a u false t = waits a u (eqb-false _ _ t)

  event_alike : seen (taken (showing s h) (Packet.Event e)) ≡ paper.taken_event s.number s.display waiting e
  event_alike =
      go (leb e.number s.number) refl (eqb e.number (s.number + 1)) refl (leb e.number (s.number + 8)) refl
    where
      go : (x : Bool) → leb e.number s.number ≡ x → (y : Bool) → eqb e.number (s.number + 1) ≡ y → (z : Bool) → leb e.number (s.number + 8) ≡ z →
          seen (taken (showing s h) (Packet.Event e)) ≡ paper.taken_event s.number s.display waiting e
      go true p y q z o = ap seen (event_old s h e (leb-true _ _ p)) ∙ sym (tests true y z p q o)
      go false p true q z o = next (eqb-true _ _ q) ∙ sym (tests false true z p q o)
      go false p false q true o =
          let a : s.number < e.number = leb-false _ _ p in
          let b : e.number ≡ s.number + 1 → ⊥ = eqb-false _ _ q in
          waits_tested (omega (arith, a, b)) (leb-true _ _ o) (holds h e.number) refl ∙ sym (tests false false true p q o)
      go false p false q false o =
          ap seen (event_beyond s h e (leb-false _ _ o))
          ∙ (ap (λ (x : ℕ). paper.lost x) floor_is ∙ sym (tests false false false p q o))

-- showing n, a picture

picture_tests : (n : ℕ) (d : Display) (l : List EventPacket) (p : Picture) (x : Bool) → leb p.number n ≡ x →
    paper.taken_picture n d l p
    ≡ cond x (paper.showing n d l) (paper.in_turn (paper.greatest p.number l) p.number p.display (paper.above p.number l))
picture_tests n d l p x e =
    λ i. cond (e i) (paper.showing n d l) (paper.in_turn (paper.greatest p.number l) p.number p.display (paper.above p.number l))

picture_alike : (s : Picture) (h : Held) (p : Picture) → Within (s.number + 2) (s.number + 8) h →
    seen (taken (showing s h) (Packet.Picture p)) ≡ paper.taken_picture s.number s.display (held_from h (s.number + 2) 7) p
picture_alike s h p w = go (leb p.number s.number) refl
  where
    go : (x : Bool) → leb p.number s.number ≡ x →
        seen (taken (showing s h) (Packet.Picture p)) ≡ paper.taken_picture s.number s.display (held_from h (s.number + 2) 7) p
    go true x = ap seen (picture_old s h p (leb-true _ _ x)) ∙ sym (picture_tests s.number s.display (held_from h (s.number + 2) 7) p true x)
    go false x =
        let l : s.number < p.number = leb-false _ _ x in
        let v : Within (p.number + 1) (p.number + 8) (above p.number 8 h) = picture_within s.number p.number h l w in
        let list : held_from (above p.number 8 h) (p.number + 1) 8 ≡ paper.above p.number (held_from h (s.number + 2) 7) =
        above_from s.number p.number h l w in
        let floor : greatest p.number 8 (above p.number 8 h) ≡ paper.greatest p.number (held_from h (s.number + 2) 7) =
        greatest-is p.number (above p.number 8 h) (p.number + 1) (p.number + 8) (p.number + 1) 8 v (omega arith) (omega arith)
        ∙ (ap (λ (y : List EventPacket). paper.greatest p.number y) list ∙ greatest_above p.number (held_from h (s.number + 2) 7)) in
        ap seen (picture_new s h p l)
        ∙ (settled_is p (above p.number 8 h) v
        ∙ (ap (λ (y : ℕ). paper.in_turn y p.number p.display (held_from (above p.number 8 h) (p.number + 1) 8)) floor
        ∙ (ap (λ (y : List EventPacket). paper.in_turn (paper.greatest p.number (held_from h (s.number + 2) 7)) p.number p.display y) list
        ∙ sym (picture_tests s.number s.display (held_from h (s.number + 2) 7) p false x))))

-- lost

lost_picture : (floor : ℕ) (h : Held) (p : Picture) →
    seen (taken_at (Shown.Lost floor) h (Packet.Picture p)) ≡ paper.taken (paper.lost floor) (Packet.Picture p)
lost_picture floor h p = go (ltb p.number floor) refl
  where
    go : (t : Bool) → ltb p.number floor ≡ t →
        seen (cond t (record { shown = Shown.Lost floor; held = h }) (showing p nothing)) ≡ paper.taken (paper.lost floor) (Packet.Picture p)
    go true t = rw (lt-leb floor p.number (ltb-true _ _ t))
    go false t =
        ap (λ (l : List EventPacket). paper.showing p.number p.display l)
        (none_from 0 0 nothing (p.number + 2) 7 (nothing_within 0 0) (omega arith))
        ∙ sym (ap (λ (b : Bool). cond b (paper.showing p.number p.display []) (paper.lost floor)) (le-leb floor p.number (ltb-false _ _ t)))

-- one take

taken_at_lem : (x : Shown) (h : Held) (p : Packet) → WellFormedAt x h → Readable p → seen (taken_at x h p) ≡ paper.taken (seen_at x h) p
taken_at_lem (Shown.Lost floor) h (Packet.Event e) w r = refl
taken_at_lem (Shown.Lost floor) h (Packet.Picture p) w r = lost_picture floor h p
taken_at_lem (Shown.Picture s) h (Packet.Event e) w r = event_alike s h e w.1 r
taken_at_lem (Shown.Picture s) h (Packet.Picture p) w r = picture_alike s h p w.1

taken_alike : (f : Follower) (p : Packet) → WellFormed f → Readable p → seen (taken f p) ≡ paper.taken (seen f) p
taken_alike f p w r = taken_at_lem f.shown f.held p w r

-- the state

some_held : (k : ℕ) (h : Held) → none_held k h ≡ false → (i : ℕ) × (i < k) × ((packet_at h i).number ≡ 0 → ⊥)
unfolding none_held
some_held zero h e = absurd (cc)
some_held (suc k) h e = go (none_held k h) refl (eqb (packet_at h k).number 0) refl (some_held k h) e
  where
    go : (x : Bool) → none_held k h ≡ x → (y : Bool) → eqb (packet_at h k).number 0 ≡ y →
        (none_held k h ≡ false → (i : ℕ) × (i < k) × ((packet_at h i).number ≡ 0 → ⊥)) → x && y ≡ false → (i : ℕ) × (i < suc k) × ((packet_at h i).number ≡ 0 → ⊥)
    go true p true q r z = absurd (cc)
    go true p false q r z = (k, omega arith, eqb-false _ _ q)
    go false p y q r z =
        let v = r p in
        (v.0, omega (arith, v.1), v.2)

module _ (s : Picture) (h : Held) (w : Within (s.number + 2) (s.number + 8) h) where
  none_waits : none_held 8 h ≡ true → held_from h (s.number + 2) 7 ≡ []
  unfolding held_from
  none_waits e =
      short h 7 zero (s.number + 2) (omega arith)
      (λ m l. one_none h m (λ has. absurd (omega (arith, l, has, each_none 8 h e (m % 8) (mod8 m)))))

  some_wait : none_held 8 h ≡ false → held_from h (s.number + 2) 7 ≡ [] → ⊥
  some_wait e z =
      let v = some_held 8 h e in
      ⊎_elim (λ q. v.2 (ap (λ (p : EventPacket). p.number) q))
      (λ q.
      let a = held-least 0 h (packet_at h v.0).number (ap (λ (j : ℕ). (packet_at h j).number) q.3) 7 (s.number + 2) q.0 (omega (arith, q.1)) in
      let b : paper.greatest 0 (held_from h (s.number + 2) 7) ≡ 0 = ap (λ (l : List EventPacket). paper.greatest 0 l) z in
      absurd (omega (arith, a, b, q.0)))
      (w.1 v.0 v.1)

  listed_state : (l : List EventPacket) → (t : Bool) → (t ≡ true → l ≡ []) → (t ≡ false → l ≡ [] → ⊥) →
      cond t State.Level State.Waiting ≡ paper.state (paper.showing s.number s.display l)
  listed_state [] true a b = refl
  listed_state [] false a b = absurd (b refl refl)
  listed_state (e ∷ l) true a b = absurd (let q : e ∷ l ≡ [] = a refl in cc)
  listed_state (e ∷ l) false a b = refl

state_at_lem : (x : Shown) (h : Held) → WellFormedAt x h → state_at x (none_held 8 h) ≡ paper.state (seen_at x h)
state_at_lem (Shown.Lost floor) h w = refl
state_at_lem (Shown.Picture s) h w =
    listed_state s h w.1 (held_from h (s.number + 2) 7) (none_held 8 h) (none_waits s h w.1) (some_wait s h w.1)

-- what is shown

lost_at : (x : Shown) (h : Held) → ((floor : ℕ) × (x ≡ Shown.Lost floor)) ↔ (paper.shown (seen_at x h) ≡ None)
lost_at (Shown.Lost floor) h = (λ q. refl, λ e. (floor, refl))
lost_at (Shown.Picture s) h = (
  λ q. absurd (let p : Shown.Picture s ≡ Shown.Lost q.0 = q.1 in cc),
  λ e. absurd (cc),
)

abbrev pictured : Shown → Option Picture
pictured (Shown.Lost floor) = None
pictured (Shown.Picture p) = Some p

abbrev unpictured : Option Picture → Shown
unpictured None = Shown.Lost 0
unpictured (Some p) = Shown.Picture p

shows_at : (x : Shown) (h : Held) (n : ℕ) (d : Display) → (x ≡ Shown.Picture (at n d)) ↔ (paper.shown (seen_at x h) ≡ Some (at n d))
shows_at (Shown.Lost floor) h n d = (
  λ e. absurd (cc),
  λ e. absurd (cc),
)
shows_at (Shown.Picture s) h n d = (λ e. ap pictured e, λ e. ap unpictured e)

-- lists of takes

read_formed : (b : List ℕ) (f : Follower) → ((k : ℕ) → get_or b k 0 < 256) → WellFormed f → (x : Result Packet ℕ) → read_packet b ≡ x → WellFormed (taken_read f x)
read_formed b f a w (Err n) e = w
read_formed b f a w (Ok p) e = take_kept f p w (readable p (write_read b p a e).fits)

read_alike : (b : List ℕ) (f : Follower) → ((k : ℕ) → get_or b k 0 < 256) → WellFormed f → (x : Result Packet ℕ) → read_packet b ≡ x →
    seen (taken_read f x) ≡ read_by (seen f) x
read_alike b f a w (Err n) e = refl
read_alike b f a w (Ok p) e = taken_alike f p w (readable p (write_read b p a e).fits)

takes_formed : (l : List (List ℕ)) (f : Follower) → EachBytes l → WellFormed f → WellFormed (takes_bytes f l)
takes_formed [] f a w = w
takes_formed (b ∷ l) f a w = takes_formed l (take_bytes f b) a.1 (read_formed b f a.0 w (read_packet b) refl)

takes_alike : (l : List (List ℕ)) (f : Follower) → EachBytes l → WellFormed f → seen (takes_bytes f l) ≡ takes_by (seen f) l
takes_alike [] f a w = refl
takes_alike (b ∷ l) f a w =
    takes_alike l (take_bytes f b) a.1 (read_formed b f a.0 w (read_packet b) refl)
    ∙ ap (λ (x : paper.Follower). takes_by x l) (read_alike b f a.0 w (read_packet b) refl)

-- what waits

wider : (lo lo' hi : ℕ) (l : List EventPacket) → lo ≤ lo' → Rising lo' hi l → Rising lo hi l
wider lo lo' hi [] a r = r
wider lo lo' hi (e ∷ l) a r = (omega (arith, a, r.0), r.1, r.2)

from_rises : (h : Held) (hi k m : ℕ) → m + k ≤ hi + 1 → Rising m hi (held_from h m k)
unfolding held_from
from_rises h hi zero m l = tt
from_rises h hi (suc k) m l = go (holds h m) refl (from_rises h hi k (m + 1) (omega arith))
  where
    go : (t : Bool) → holds h m ≡ t → Rising (m + 1) hi (held_from h (m + 1) k) → Rising m hi (cond t (held_for h m ∷ []) [] ++ held_from h (m + 1) k)
    go true t r =
        let x : (held_for h m).number ≡ m = eqb-true _ _ t in
        (omega arith, omega arith, subst (λ (z : ℕ). Rising (z + 1) hi (held_from h (m + 1) k)) (sym x) r)
    go false t r = wider m (m + 1) hi (held_from h (m + 1) k) (omega arith) r

abbrev Waits : paper.Follower → Type 0
Waits (paper.lost floor) = Unit {0}
Waits (paper.showing n d held) = Rising (n + 2) (n + 8) held

seen_waits : (x : Shown) (h : Held) → Waits (seen_at x h)
seen_waits (Shown.Lost floor) h = tt
seen_waits (Shown.Picture s) h = from_rises h (s.number + 8) 7 (s.number + 2) (omega arith)

pub alike : Alike
alike = record {
  start = refl;
  one_take = taken_alike;
  state = λ f w. state_at_lem f.shown f.held w;
  lost = λ f. lost_at f.shown f.held;
  shows = λ f n d. shows_at f.shown f.held n d;
  takes_alike = λ l a. takes_alike l fresh a fresh_kept;
  takes_state = λ l a.
      state_at_lem (follower_after l).shown (follower_after l).held (takes_formed l fresh a fresh_kept)
      ∙ ap (λ (x : paper.Follower). paper.state x) (takes_alike l fresh a fresh_kept);
  rising = λ l a n d held e. subst Waits (takes_alike l fresh a fresh_kept ∙ e) (seen_waits (follower_after l).shown (follower_after l).held);
}
