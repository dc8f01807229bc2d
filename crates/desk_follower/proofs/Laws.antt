-- What the definition of a take says, case by case: what is dropped changes nothing, what is shown, and the floor on becoming lost.
-- Assumes nothing.
use mathlib.Core.Path.{◌≡◌, refl, ap, sym, ◌∙◌}
use mathlib.Core.Bool.{Bool, true, false, cond}
use Prim.Native.Nat.{ℕ, zero, suc, ◌+◌, ◌≤◌, ◌<◌, max}
use native.Mathlib.Nat.{le-max_left, le-max_right, max-le}
use native.Mathlib.Omega.{arith}
use lib.Dec.{eqb, leb, ltb}
use lib.Seq.{get_or-set_other}
use borrow.Author.Tests.{le-leb, lt-leb, lt-ltb, le-ltb, eq-eqb, ne_eqb, ltb-true, ltb-false, leb-true, eqb-true, eqb-false}
use Rattle.interface_display.specs.Notices.{all_applied}
use Rattle.interface_display.specs.declared.Display.{Display}
use Rattle.interface_display.specs.declared.packet.EventPacket.{EventPacket}
use Rattle.interface_display.specs.declared.packet.Packet.{Packet}
use Rattle.interface_display.specs.declared.packet.Picture.{Picture}
use Rattle.desk_follower.specs.declared.Follower.{Follower}
use Rattle.desk_follower.specs.declared.Shown.{Shown}
use Rattle.desk_follower.specs.declared.held.Held.{Held}
use Rattle.desk_follower.specs.Held.{none, nothing, packet_at, put, held_for, holds, placed, dropped, greatest, above}
use Rattle.desk_follower.specs.Follower.{lost, showing, at, in_turn, settled, taken}

-- lost: the floor is raised to each event number; a picture is shown exactly if its number is at least the floor
pub raised : (floor : ℕ) (e : EventPacket) → taken (lost floor) (Packet.Event e) ≡ lost (max floor e.number)
raised floor e = refl

pub picture_shown : (floor : ℕ) (p : Picture) → floor ≤ p.number → taken (lost floor) (Packet.Picture p) ≡ showing p nothing
picture_shown floor p l = rw (le-ltb _ _ l)

pub picture_low : (floor : ℕ) (p : Picture) → p.number < floor → taken (lost floor) (Packet.Picture p) ≡ lost floor
picture_low floor p l = rw (lt-ltb _ _ l)

module _ (s : Picture) (h : Held) where
  -- showing n: what is numbered n or less is dropped, and so is the second of equal numbers
  pub event_old : (e : EventPacket) → e.number ≤ s.number → taken (showing s h) (Packet.Event e) ≡ showing s h
  event_old e l = rw (le-leb _ _ l)

  pub picture_old : (p : Picture) → p.number ≤ s.number → taken (showing s h) (Packet.Picture p) ≡ showing s h
  picture_old p l = rw (le-leb _ _ l)

  pub event_held : (e : EventPacket) → s.number < e.number → e.number ≤ s.number + 8 → (held_for h e.number).number ≡ e.number
      → taken (showing s h) (Packet.Event e) ≡ showing s h
  event_held e l m q = rw (lt-leb _ _ l, le-ltb _ _ m, eq-eqb _ _ q)

  -- n + 1 to n + 8, not held yet: held, and then in turn; beyond, lost
  pub event_new : (e : EventPacket) → s.number < e.number → e.number ≤ s.number + 8
      → ((held_for h e.number).number ≡ e.number → ⊥) → taken (showing s h) (Packet.Event e) ≡ settled s (placed h e)
  event_new e l m q = rw (lt-leb _ _ l, le-ltb _ _ m, ne_eqb _ _ q)

  pub event_beyond : (e : EventPacket) → s.number + 8 < e.number → taken (showing s h) (Packet.Event e) ≡ lost (greatest e.number 8 h)
  event_beyond e l =
      let k : s.number < e.number = omega arith in
      rw (lt-leb _ _ k, lt-ltb _ _ l)

  pub picture_new : (p : Picture) → s.number < p.number → taken (showing s h) (Packet.Picture p) ≡ settled p (above p.number 8 h)
  picture_new p l = rw (lt-leb _ _ l)

-- the greatest number met: at least the number given and each number held, and one of them
pub greatest_base : (m k : ℕ) (h : Held) → m ≤ greatest m k h
unfolding greatest
greatest_base m zero h = omega arith
greatest_base m (suc k) h = omega (arith, greatest_base m k h, le-max_right (packet_at h k).number (greatest m k h))

held_tested : (m k : ℕ) (h : Held) (i : ℕ) (t : Bool) → ltb i k ≡ t → i < suc k → (i < k → (packet_at h i).number ≤ greatest m k h)
    → (packet_at h i).number ≤ max (packet_at h k).number (greatest m k h)
held_tested m k h i true e l r = omega (arith, r (ltb-true i k e), le-max_right (packet_at h k).number (greatest m k h))
held_tested m k h i false e l r =
    let q : i ≡ k = omega (arith, ltb-false i k e) in
    rw q (le-max_left (packet_at h k).number (greatest m k h))

pub greatest_held : (m k : ℕ) (h : Held) (i : ℕ) → i < k → (packet_at h i).number ≤ greatest m k h
unfolding greatest
greatest_held m zero h i l = absurd (omega arith)
greatest_held m (suc k) h i l = held_tested m k h i (ltb i k) refl l (greatest_held m k h i)

-- a bound on the number given and on each number held is one on the greatest
pub greatest_le : (m b k : ℕ) (h : Held) → m ≤ b → ((i : ℕ) → i < k → (packet_at h i).number ≤ b) → greatest m k h ≤ b
unfolding greatest
greatest_le m b zero h l f = l
greatest_le m b (suc k) h l f = max-le (f k (omega arith)) (greatest_le m b k h l (λ i q. f i (omega arith)))

-- in turn, the floor on becoming lost is the one given
abbrev pub floor_of : Shown → ℕ → ℕ
floor_of (Shown.Lost floor) f = floor
floor_of (Shown.Picture s) f = f

floor_tested : (f : ℕ) (a b : Bool) (x y : Follower) → floor_of x.shown f ≡ f → floor_of y.shown f ≡ f
    → floor_of (cond a (cond b x (lost f)) y).shown f ≡ f
floor_tested f true true x y p q = p
floor_tested f true false x y p q = refl
floor_tested f false true x y p q = q
floor_tested f false false x y p q = q

pub turn_floor : (k f n : ℕ) (d : Display) (h : Held) → floor_of (in_turn k f n d h).shown f ≡ f
unfolding in_turn
turn_floor zero f n d h = refl
turn_floor (suc k) f n d h =
    floor_tested f (holds h (n + 1)) (eqb (held_for h (n + 1)).answer 0)
    (in_turn k f (n + 1) (all_applied (held_for h (n + 1)).notices d) (dropped h (n + 1))) (showing (at n d) h)
    (turn_floor k f (n + 1) (all_applied (held_for h (n + 1)).notices d) (dropped h (n + 1))) refl

-- held packets above a picture's number stay
stays_other : (m k : ℕ) (h g : Held) (i : ℕ) → m < (packet_at h i).number → packet_at g i ≡ packet_at h i → leb (packet_at g k).number m ≡ true
    → (t : Bool) → eqb i k ≡ t → packet_at (put g k none) i ≡ packet_at h i
stays_other m k h g i l e f true t =
    let s : i ≡ k = eqb-true i k t in
    let a : (packet_at g k).number ≡ (packet_at h i).number = ap (λ (j : ℕ). (packet_at g j).number) (sym s) ∙ ap (λ (p : EventPacket). p.number) e in
    absurd (omega (arith, leb-true (packet_at g k).number m f, a))
stays_other m k h g i l e f false t = get_or-set_other g.packets k i none none (eqb-false i k t) ∙ e

stays_tested : (m k : ℕ) (h g : Held) (i : ℕ) → m < (packet_at h i).number → packet_at g i ≡ packet_at h i
    → (t : Bool) → leb (packet_at g k).number m ≡ t → packet_at (cond t (put g k none) g) i ≡ packet_at h i
stays_tested m k h g i l e true t = stays_other m k h g i l e t (eqb i k) refl
stays_tested m k h g i l e false t = e

pub above_stays : (m k : ℕ) (h : Held) (i : ℕ) → m < (packet_at h i).number → packet_at (above m k h) i ≡ packet_at h i
unfolding above
above_stays m zero h i l = refl
above_stays m (suc k) h i l =
    stays_tested m k h (above m k h) i l (above_stays m k h i l) (leb (packet_at (above m k h) k).number m) refl

-- in turn, it is lost only if the next event is held
turn_held : (n : ℕ) (x : Follower) (a : Bool) (g : ℕ) (d : Display) (h : Held) → holds h (n + 1) ≡ a → cond a x (showing (at n d) h) ≡ lost g
    → (held_for h (n + 1)).number ≡ n + 1
turn_held n x true g d h e k = eqb-true _ _ e
turn_held n x false g d h e k =
    let q : Shown.Picture (at n d) ≡ Shown.Lost g = ap (λ (z : Follower). z.shown) k in
    absurd (cc)

pub lost_held : (k f n g : ℕ) (d : Display) (h : Held) → in_turn (suc k) f n d h ≡ lost g → (held_for h (n + 1)).number ≡ n + 1
unfolding in_turn
lost_held k f n g d h e =
    turn_held n
    (cond (eqb (held_for h (n + 1)).answer 0) (in_turn k f (n + 1) (all_applied (held_for h (n + 1)).notices d) (dropped h (n + 1))) (lost f))
    (holds h (n + 1)) g d h refl e
