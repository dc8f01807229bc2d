-- The floor on becoming lost: the greatest of what was shown, an event packet's number and the numbers held. The packet's own place
-- was empty, so putting it there adds its number and takes none away; with a picture, the error is held above it.
-- Assumes nothing.
use mathlib.Core.Path.{◌≡◌, refl, ap, sym, ◌∙◌}
use mathlib.Core.Bool.{Bool, true, false, cond}
use mathlib.Core.Logic.{⊎_elim}
use Prim.Native.Nat.{ℕ, ◌+◌, ◌%◌, ◌≤◌, ◌<◌, max}
use native.Mathlib.Nat.{le-max_left, le-max_right, max-le, max-eq_right, mod-lt}
use native.Mathlib.Omega.{arith}
use lib.Dec.{eqb, leb, ltb, lit<}
use lib.Seq.{get_or-set_same, get_or-set_other}
use borrow.Author.Tests.{eqb-true, eqb-false, leb-false, ltb-true, ltb-false}
use Rattle.interface_display.specs.declared.packet.EventPacket.{EventPacket}
use Rattle.interface_display.specs.declared.packet.Packet.{Packet}
use Rattle.interface_display.specs.declared.packet.Picture.{Picture}
use Rattle.desk_follower.specs.declared.Follower.{Follower}
use Rattle.desk_follower.specs.declared.Shown.{Shown}
use Rattle.desk_follower.specs.declared.held.Held.{Held}
use Rattle.desk_follower.specs.Held.{none, packet_at, held_for, holds, placed, greatest, above}
use Rattle.desk_follower.specs.Follower.{lost, showing, settled, taken}
use Rattle.desk_follower.specs.WellFormed.{Within, WellFormed}
use Rattle.desk_follower.proofs.Laws.{greatest_base, greatest_held, greatest_le, floor_of, turn_floor, above_stays, lost_held}
use Rattle.desk_follower.proofs.Kept.{seen}

never : {A : Type 0} (s : Picture) (h : Held) (f : ℕ) → showing s h ≡ lost f → A
never s h f e =
    let q : Shown.Picture s ≡ Shown.Lost f = ap (λ (x : Follower). x.shown) e in
    absurd (cc)

-- in turn, the floor is the greatest of the number shown and those held then
pub settled_floor : (s : Picture) (h : Held) (f : ℕ) → settled s h ≡ lost f → f ≡ greatest s.number 8 h
settled_floor s h f e =
    sym (ap (λ (x : Follower). floor_of x.shown (greatest s.number 8 h)) e)
    ∙ turn_floor 8 (greatest s.number 8 h) s.number s.display h

module _ (n : ℕ) (h : Held) (e : EventPacket) (a : n < e.number) (b : e.number ≤ n + 8) (w : Within (n + 2) (n + 8) h)
    (z : (held_for h e.number).number ≡ e.number → ⊥) where
  j_lt : e.number % 8 < 8
  j_lt = mod-lt e.number {m = 8} (lit< tt)

  -- the packet's place holds none
  empty : (packet_at h (e.number % 8)).number ≡ 0
  empty =
      ⊎_elim (λ q. ap (λ (p : EventPacket). p.number) q)
      (λ q. absurd (z (omega (arith, q.0, q.1, q.3))))
      (w.1 (e.number % 8) j_lt)

  here : (packet_at (placed h e) (e.number % 8)).number ≡ e.number
  here = ap (λ (p : EventPacket). p.number) (get_or-set_same h.packets (e.number % 8) e none (omega (arith, w.0, j_lt)))

  there : (i : ℕ) → eqb i (e.number % 8) ≡ false → (packet_at (placed h e) i).number ≡ (packet_at h i).number
  there i t = ap (λ (p : EventPacket). p.number) (get_or-set_other h.packets (e.number % 8) i e none (eqb-false _ _ t))

  most : ℕ
  most = greatest (max n e.number) 8 h

  most' : ℕ
  most' = greatest n 8 (placed h e)

  up : (i : ℕ) → i < 8 → (t : Bool) → eqb i (e.number % 8) ≡ t → (packet_at (placed h e) i).number ≤ most
  unfolding most
  up i l true t =
      let s : i ≡ e.number % 8 = eqb-true _ _ t in
      let x : (packet_at (placed h e) i).number ≡ e.number = ap (λ (k : ℕ). (packet_at (placed h e) k).number) s ∙ here in
      omega (arith, x, greatest_base (max n e.number) 8 h, le-max_right n e.number)
  up i l false t = omega (arith, there i t, greatest_held (max n e.number) 8 h i l)

  down : (i : ℕ) → i < 8 → (t : Bool) → eqb i (e.number % 8) ≡ t → (packet_at h i).number ≤ most'
  unfolding most'
  down i l true t =
      let s : i ≡ e.number % 8 = eqb-true _ _ t in
      let x : (packet_at h i).number ≡ 0 = ap (λ (k : ℕ). (packet_at h k).number) s ∙ empty in
      omega (arith, x)
  down i l false t = omega (arith, there i t, greatest_held n 8 (placed h e) i l)

  pub placed_floor : greatest n 8 (placed h e) ≡ greatest (max n e.number) 8 h
  unfolding most most'
  placed_floor =
      let p : most' ≤ most =
      greatest_le n most 8 (placed h e) (omega (arith, greatest_base (max n e.number) 8 h, le-max_left n e.number))
      (λ i l. up i l (eqb i (e.number % 8)) refl) in
      let q : most ≤ most' =
      greatest_le (max n e.number) most' 8 h
      (max-le (greatest_base n 8 (placed h e)) (omega (arith, here, greatest_held n 8 (placed h e) (e.number % 8) j_lt)))
      (λ i l. down i l (eqb i (e.number % 8)) refl) in
      omega (arith, p, q)

tested : (s : Picture) (h : Held) (e : EventPacket) (f : ℕ) → Within (s.number + 2) (s.number + 8) h → (x y z : Bool)
    → leb e.number s.number ≡ x → ltb (s.number + 8) e.number ≡ y → holds h e.number ≡ z
    → cond x (showing s h) (cond y (lost (greatest e.number 8 h)) (cond z (showing s h) (settled s (placed h e)))) ≡ lost f
    → f ≡ greatest (max s.number e.number) 8 h
tested s h e f w true y z p q r k = never s h f k
tested s h e f w false true z p q r k =
    let m : s.number ≤ e.number = omega (arith, leb-false e.number s.number p) in
    let l : Shown.Lost (greatest e.number 8 h) ≡ Shown.Lost f = ap (λ (x : Follower). x.shown) k in
    let g : f ≡ greatest e.number 8 h = cc in
    g ∙ ap (λ (o : ℕ). greatest o 8 h) (sym (max-eq_right m))
tested s h e f w false false true p q r k = never s h f k
tested s h e f w false false false p q r k =
    settled_floor s (placed h e) f k
    ∙ placed_floor s.number h e (leb-false _ _ p) (ltb-false _ _ q) w (eqb-false _ _ r)

pub event_floor : (s : Picture) (h : Held) (e : EventPacket) (f : ℕ) → WellFormed (showing s h)
    → taken (showing s h) (Packet.Event e) ≡ lost f → f ≡ greatest (max s.number e.number) 8 h
event_floor s h e f w k =
    tested s h e f w.1 (leb e.number s.number) (ltb (s.number + 8) e.number) (holds h e.number) refl refl refl k

module _ (n : ℕ) (p : Picture) (h : Held) (a : n < p.number) (w : Within (n + 2) (n + 8) h)
    (z : (held_for (above p.number 8 h) (p.number + 1)).number ≡ p.number + 1) where
  left : Held
  left = above p.number 8 h

  -- what is left at a place is none, or what was held there
  left_le : (i : ℕ) → i < 8 → (packet_at left i).number ≤ (packet_at h i).number
  unfolding left
  left_le i l =
      ⊎_elim (λ e. let x : (packet_at left i).number ≡ 0 = ap (λ (q : EventPacket). q.number) e in omega (arith, x))
      (λ q. let x : (packet_at left i).number ≡ (packet_at h i).number = ap (λ (r : EventPacket). r.number) q.0 in omega (arith, x))
      ((seen p.number 8 h w.0 (omega arith)).1 i l)

  right : (i : ℕ) → (t : Bool) → i < 8 → ltb p.number (packet_at h i).number ≡ t → (packet_at h i).number ≤ greatest p.number 8 left
  unfolding left
  right i true l t =
      let x : (packet_at left i).number ≡ (packet_at h i).number =
      ap (λ (q : EventPacket). q.number) (above_stays p.number 8 h i (ltb-true _ _ t)) in
      omega (arith, x, greatest_held p.number 8 left i l)
  right i false l t = omega (arith, ltb-false p.number (packet_at h i).number t, greatest_base p.number 8 left)

  pub above_floor : greatest p.number 8 (above p.number 8 h) ≡ greatest n 8 h
  unfolding left
  above_floor =
      let j : ℕ = (p.number + 1) % 8 in
      let lj : j < 8 = mod-lt (p.number + 1) {m = 8} (lit< tt) in
      let c : p.number ≤ greatest n 8 h = omega (arith, z, left_le j lj, greatest_held n 8 h j lj) in
      let b : greatest p.number 8 left ≤ greatest n 8 h =
      greatest_le p.number (greatest n 8 h) 8 left c (λ i l. omega (arith, left_le i l, greatest_held n 8 h i l)) in
      let d : greatest n 8 h ≤ greatest p.number 8 left =
      greatest_le n (greatest p.number 8 left) 8 h (omega (arith, greatest_base p.number 8 left))
      (λ i l. right i (ltb p.number (packet_at h i).number) l refl) in
      omega (arith, b, d)

picture_tested : (s : Picture) (h : Held) (p : Picture) (f : ℕ) → Within (s.number + 2) (s.number + 8) h → (x : Bool)
    → leb p.number s.number ≡ x → cond x (showing s h) (settled p (above p.number 8 h)) ≡ lost f → f ≡ greatest s.number 8 h
picture_tested s h p f w true e k = never s h f k
picture_tested s h p f w false e k =
    settled_floor p (above p.number 8 h) f k
    ∙ above_floor s.number p h (leb-false _ _ e) w
    (lost_held 7 (greatest p.number 8 (above p.number 8 h)) p.number f p.display (above p.number 8 h) k)

pub picture_floor : (s : Picture) (h : Held) (p : Picture) (f : ℕ) → WellFormed (showing s h)
    → taken (showing s h) (Packet.Picture p) ≡ lost f → f ≡ greatest s.number 8 h
picture_floor s h p f w k = picture_tested s h p f w.1 (leb p.number s.number) refl k
