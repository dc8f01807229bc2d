-- The recursions over the eight places, one place further.
-- Assumes nothing.
use mathlib.Core.Path.{◌≡◌, refl, ap, sym, ◌∙◌}
use mathlib.Core.Bool.{Bool, true, false}
use mathlib.Core.Logic.{◌↔◌}
use Prim.Native.Nat.{ℕ, zero, suc, ◌+◌, ◌≤◌, ◌<◌, max}
use native.Mathlib.Numerals.{add-one}
use native.Mathlib.Omega.{arith}
use lib.Dec.{eqb, ltb}
use lib.ListN.{get_or, length, set}
use mathlib.Core.List.{List}
use borrow.Author.Tests.{eqb-true, ltb-true, ltb-false, le-leb, lt-leb}
use Rattle.std.proofs.lemmas.List.{get_or_default}
use Rattle.std.proofs.lemmas.Bool.{and_parts}
use Rattle.interface_display.specs.declared.packet.EventPacket.{EventPacket}
use Rattle.desk_follower.specs.declared.held.Held.{Held}
use Rattle.desk_follower.specs.Held.{none, packet_at, kept_above, none_held, greatest, above}

none_each : (k : ℕ) (h : Held) → ((i : ℕ) → i < k → (packet_at h i).number ≡ 0) → none_held k h ≡ true
unfolding none_held
none_each zero h f = refl
none_each (suc k) h f = rw (none_each k h (λ i l. f i (omega arith)), f k (omega arith))

pub each_none : (k : ℕ) (h : Held) → none_held k h ≡ true → (i : ℕ) → i < k → (packet_at h i).number ≡ 0
unfolding none_held
each_none zero h e i l = absurd (omega arith)
each_none (suc k) h e i l =
    let a = and_parts (none_held k h) (eqb (packet_at h k).number 0) e in
    tested (ltb i k) refl (each_none k h a.0 i) (eqb-true _ _ a.1)
  where
    tested : (t : Bool) → ltb i k ≡ t → (i < k → (packet_at h i).number ≡ 0) → (packet_at h k).number ≡ 0 → (packet_at h i).number ≡ 0
    tested true q f g = f (ltb-true i k q)
    tested false q f g =
        let r : i ≡ k = omega (arith, ltb-false i k q) in
        rw r g

-- a test that holds exactly if every place is empty
pub none_told : (b : Bool) (h : Held) → length h.packets ≡ 8 → ((b ≡ true) ↔ ((i : ℕ) → i < length h.packets → (packet_at h i).number ≡ 0))
    → b ≡ none_held 8 h
none_told true h e f = sym (none_each 8 h (λ i l. f.0 refl i (omega arith)))
none_told false h e f = other (none_held 8 h) refl
  where
    other : (t : Bool) → none_held 8 h ≡ t → false ≡ t
    other true q = f.1 (λ i l. each_none 8 h q i (omega arith))
    other false q = refl

pub greatest_start : (m : ℕ) (h : Held) → greatest m 0 h ≡ m
unfolding greatest
greatest_start m h = refl

greatest_next : (m i : ℕ) (h : Held) → greatest m (i + 1) h ≡ max (packet_at h i).number (greatest m i h)
unfolding greatest
greatest_next m i h = rw add-one

-- what is read at a place, whatever stands past the last
pub greatest_more : (m i most more : ℕ) (h : Held) (z : EventPacket) → i < length h.packets → most ≡ greatest m i h
    → more ≡ max most (get_or h.packets i z).number → more ≡ greatest m (i + 1) h
greatest_more m i most more h z l e f =
    let q : (get_or h.packets i z).number ≡ (packet_at h i).number = ap (λ (p : EventPacket). p.number) (get_or_default h.packets i z none l) in
    omega (arith, greatest_next m i h, q)

pub above_start : (m : ℕ) (h : Held) → above m 0 h ≡ h
unfolding above
above_start m h = refl

pub above_next : (m i : ℕ) (h : Held) → above m (i + 1) h ≡ kept_above m i (above m i h)
unfolding above
above_next m i h = rw add-one

module _ (m i : ℕ) (xs ys : List EventPacket) (h : Held) (e : record { packets = xs } ≡ above m i h) where
  pub above_drop : (p z : EventPacket) → p ≡ none → i < length xs → (get_or xs i z).number ≤ m → ys ≡ set xs i p
      → record { packets = ys } ≡ above m (i + 1) h
  above_drop p z q j l f =
      let k : (get_or xs i none).number ≤ m = rw (get_or_default xs i z none j) at l in
      rw (above_next, ← e, le-leb _ _ k) (ap (λ (zs : List EventPacket). record { packets = zs }) (f ∙ ap (set xs i) q))

  pub above_keep : (z : EventPacket) → i < length xs → m < (get_or xs i z).number → ys ≡ xs → record { packets = ys } ≡ above m (i + 1) h
  above_keep z j l f =
      let k : m < (get_or xs i none).number = rw (get_or_default xs i z none j) at l in
      rw (above_next, ← e, lt-leb _ _ k) (ap (λ (zs : List EventPacket). record { packets = zs }) f)
