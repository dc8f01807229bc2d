-- The bytes after turns: the slots past the last event applied move to the front, and zeros come in at the end.
-- Assumes nothing.
use Rattle.std.specs.Prelude.{None, Option, Some}
use Rattle.std.specs.Option.{unwrap_or}
use mathlib.Core.Path.{◌≡◌, refl, ap, sym, ◌∙◌}
use mathlib.Core.Bool.{Bool, true, false, cond}
use mathlib.Core.List.{List, [], ◌∷◌, ◌++◌, append_assoc}
use Prim.Native.Nat.{ℕ, zero, suc, ◌+◌, ◌*◌, ◌-◌, ◌≤◌, ◌<◌, min}
use native.Mathlib.Omega.{arith}
use lib.Dec.{leb}
use lib.ListN.{length, get_or, take, drop, replicate, replicate-append-replicate, length-append, drop_of_length-le}
use lib.Seq.{sets, sets-eq, take_at, drop_at, drop-drop, length-take-le}
use borrow.Author.Tests.{leb-true, leb-false}
use Rattle.interface_records.specs.Row.{written}
use Rattle.interface_display.specs.declared.packet.EventPacket.{EventPacket}
use Rattle.interface_display.specs.declared.packet.Picture.{Picture}
use Rattle.desk_follower.specs.Held.{none, held_for}
use Rattle.desk_follower.specs.Follower.{showing}
use Rattle.desk_follower.specs.declared.held.Held.{Held}
use Rattle.bytes_follower_image.specs.Slot.{slot_bytes, notices_from, packet_of, head_fits, zeros, slot_cases, slot_from}
use Rattle.bytes_follower_image.specs.Held.{slots, held_bytes}
use Rattle.bytes_follower_image.specs.Image.{showing_bytes, ImageOf, shown_head}
use Rattle.interface_display.specs.declared.notices.Notices.{Notices}
use Rattle.bytes_follower_image.proofs.Slots.{slot_length, slot_back}
use Rattle.bytes_follower_image.proofs.Rows.{row_length}
use Rattle.bytes_follower_image.proofs.OneImage.{fits, held_told}
use Rattle.bytes_take.proofs.Turns.{after, held_same, held_none}

-- rows of slots

row_same : (m c : ℕ) (g h : Held) → ((t : ℕ) → m ≤ t → t < m + c → held_for g t ≡ held_for h t) → slots m c g ≡ slots m c h
row_same m zero g h f = refl
row_same m (suc c) g h f =
    let x = f m (omega arith) (omega arith) in
    let y = row_same (suc m) c g h (λ t a b. f t (omega (arith, a)) (omega (arith, b))) in
    λ i. x i ∷ y i

row_none : (m c : ℕ) (g : Held) → ((t : ℕ) → m ≤ t → t < m + c → held_for g t ≡ none) → written slot_bytes (slots m c g) ≡ replicate (c * 32) 0
row_none m zero g f = refl
row_none m (suc c) g f =
    let x : slot_bytes (held_for g m) ≡ replicate 32 0 = ap slot_bytes (f m (omega arith) (omega arith)) in
    let y = row_none (suc m) c g (λ t a b. f t (omega (arith, a)) (omega (arith, b))) in
    let z : 32 + c * 32 ≡ suc c * 32 = omega arith in
    (λ i. x i ++ y i) ∙ (replicate-append-replicate 32 (c * 32) 0 ∙ ap (λ (k : ℕ). replicate k 0) z)

row_split : (m a b : ℕ) (g : Held) → written slot_bytes (slots m (a + b) g) ≡ written slot_bytes (slots m a g) ++ written slot_bytes (slots (m + a) b g)
row_split m zero b g =
    let x : 0 + b ≡ b = omega arith in
    let y : m ≡ m + 0 = omega arith in
    ap (λ (k : ℕ). written slot_bytes (slots m k g)) x ∙ ap (λ (k : ℕ). written slot_bytes (slots k b g)) y
row_split m (suc a) b g =
    let x : suc a + b ≡ suc (a + b) = omega arith in
    let y : suc m + a ≡ m + suc a = omega arith in
    ap (λ (k : ℕ). written slot_bytes (slots m k g)) x
    ∙ (ap (λ (l : List ℕ). slot_bytes (held_for g m) ++ l) (row_split (suc m) a b g ∙ ap (λ (k : ℕ). written slot_bytes (slots (suc m) a g) ++ written slot_bytes (slots k b g)) y)
    ∙ sym (append_assoc (slot_bytes (held_for g m)) (written slot_bytes (slots (suc m) a g)) (written slot_bytes (slots (m + suc a) b g))))

-- what is left of a row after its first j slots
row_drop : (m c j : ℕ) (h : Held) → j ≤ c → drop (j * 32) (written slot_bytes (slots m c h)) ≡ written slot_bytes (slots (m + j) (c - j) h)
row_drop m c j h l =
    let e : c ≡ j + (c - j) = omega (arith, l) in
    ap (λ (k : ℕ). drop (j * 32) (written slot_bytes (slots m k h))) e
    ∙ (ap (drop (j * 32)) (row_split m j (c - j) h)
    ∙ drop_at (written slot_bytes (slots m j h)) (written slot_bytes (slots (m + j) (c - j) h)) (j * 32) (row_length m j h))

module _ (b : List ℕ) (s : Picture) (h : Held) (i : ImageOf b s h) (m : ℕ) (p : Picture) (l : s.number < m) (u : m ≤ p.number) where
  g : Held
  g = after s.number h (fits (showing s h) i.fits).formed.1 m p.number l u

  row_few : (j : ℕ) → p.number ≡ s.number + j → j ≤ 7 → held_bytes p.number g ≡ drop (j * 32) (held_bytes s.number h) ++ replicate (j * 32) 0
  unfolding g
  row_few j e c =
      let x : p.number + 2 ≡ s.number + 2 + j = omega (arith, e) in
      let y : 7 ≡ 7 - j + j = omega (arith, c) in
      let same = row_same (s.number + 2 + j) (7 - j) g h (λ t a d.
      held_same s.number h (fits (showing s h) i.fits).formed.1 m p.number l u t (omega (arith, e, a)) (omega (arith, c, d))) in
      let none_at = row_none (s.number + 2 + j + (7 - j)) j g (λ t a d.
      held_none s.number h (fits (showing s h) i.fits).formed.1 m p.number l u t (omega (arith, c, a)) (omega (arith, e, c, a)) (omega (arith, e, c, d))) in
      ap (λ (k : ℕ). written slot_bytes (slots k 7 g)) x
      ∙ (ap (λ (k : ℕ). written slot_bytes (slots (s.number + 2 + j) k g)) y
      ∙ (row_split (s.number + 2 + j) (7 - j) j g
      ∙ ((λ k. written slot_bytes (same k) ++ none_at k)
      ∙ ap (λ (r : List ℕ). r ++ replicate (j * 32) 0) (sym (row_drop (s.number + 2) 7 j h c)))))

  row_many : s.number + 7 ≤ p.number → held_bytes p.number g ≡ replicate 224 0
  unfolding g
  row_many c =
      row_none (p.number + 2) 7 g (λ t a d.
      held_none s.number h (fits (showing s h) i.fits).formed.1 m p.number l u t (omega (arith, c, a)) (omega (arith, a)) (omega (arith, d)))

  -- the slots of the image, so many dropped
  slots_dropped : (j : ℕ) → p.number ≡ s.number + j → drop (17 + j * 32) b ++ replicate (min 224 (j * 32)) 0 ≡ held_bytes p.number g
  slots_dropped j e = by (leb j 7) refl
    where
      head : drop 17 b ≡ held_bytes s.number h
      head = ap (drop 17) i.bytes

      tail : drop (17 + j * 32) b ≡ drop (j * 32) (held_bytes s.number h)
      tail = sym (drop-drop (j * 32) 17 b) ∙ ap (drop (j * 32)) head

      by : (t : Bool) → leb j 7 ≡ t → drop (17 + j * 32) b ++ replicate (min 224 (j * 32)) 0 ≡ held_bytes p.number g
      by true t =
          let c = leb-true j 7 t in
          let x : min 224 (j * 32) ≡ j * 32 = omega (arith, c) in
          (λ k. tail k ++ replicate (x k) 0) ∙ sym (row_few j e c)
      by false t =
          let c = leb-false j 7 t in
          let x : min 224 (j * 32) ≡ 224 = omega (arith, c) in
          let y : drop (j * 32) (held_bytes s.number h) ≡ [] = drop_of_length-le (held_bytes s.number h) {i = j * 32} (omega (arith, c, row_length (s.number + 2) 7 h)) in
          let z : drop (17 + j * 32) b ≡ [] = tail ∙ y in
          (λ k. z k ++ replicate (x k) 0) ∙ sym (row_many (omega (arith, c, e)))

  -- number and display over them
  pub shown_after : (j : ℕ) (c o : List ℕ) → p.number ≡ s.number + j → c ≡ take 17 b ++ (drop (17 + j * 32) b ++ replicate (min 224 (j * 32)) 0)
      → o ≡ sets c 0 (shown_head p.number p.display) → length b ≡ 241
      → o ≡ showing_bytes p (after s.number h (fits (showing s h) i.fits).formed.1 m p.number l u)
  unfolding g
  shown_after j c o e q r z =
      let t : length (take 17 b) ≡ 17 = length-take-le 17 b (omega (arith, z)) in
      let x : c ≡ take 17 b ++ held_bytes p.number g = q ∙ ap (λ (k : List ℕ). take 17 b ++ k) (slots_dropped j e) in
      let head = shown_head p.number p.display in
      let row = held_bytes p.number g in
      let v : 0 + length head ≤ length (take 17 b ++ row) = omega (arith, length-append (take 17 b) row, t) in
      r
      ∙ (ap (λ (k : List ℕ). sets k 0 head) x
      ∙ (sets-eq head (take 17 b ++ row) 0 v ∙ ap (λ (k : List ℕ). head ++ k) (drop_at (take 17 b) row 17 t)))

-- slot k is that of the packet held

pub slot_there : (b : List ℕ) (s : Picture) (h : Held) (k : ℕ) → ImageOf b s h → k < 7
    → slot_from (s.number + 2 + k) (take 32 (drop (17 + k * 32) b)) ≡ Some (held_for h (s.number + 2 + k))
slot_there b s h k i l =
    let f = fits (showing s h) i.fits in
    let j : ℕ = s.number + 2 + k in
    let e : 7 - k ≡ suc (7 - k - 1) = omega (arith, l) in
    let r = written slot_bytes (slots (suc j) (7 - k - 1) h) in
    let x : drop (17 + k * 32) b ≡ slot_bytes (held_for h j) ++ r =
    sym (drop-drop (k * 32) 17 b)
    ∙ (ap (λ (z : List ℕ). drop (k * 32) (drop 17 z)) i.bytes
    ∙ (row_drop (s.number + 2) 7 k h (omega (arith, l)) ∙ ap (λ (c : ℕ). written slot_bytes (slots j c h)) e)) in
    let y : take 32 (drop (17 + k * 32) b) ≡ slot_bytes (held_for h j) = ap (take 32) x ∙ take_at (slot_bytes (held_for h j)) r 32 (slot_length (held_for h j)) in
    ap (slot_from j) y
    ∙ slot_back j (held_for h j) (held_told s.number h f.formed.1 f.places j (omega arith) (omega (arith, l)))

-- a slot of an event holds that event's packet or none

numbered : (m : ℕ) (s : List ℕ) (p : EventPacket) (c : ℕ) → get_or (slot_cases m s) c None ≡ Some p → (p.number ≡ 0 → ⊥) → p.number ≡ m
numbered m s p zero e z = empty (zeros s) e
  where
    empty : (t : Bool) → cond t (Some none) None ≡ Some p → p.number ≡ m
    empty true q = absurd (z (let y : none ≡ p = cc in ap (λ (x : EventPacket). x.number) (sym y)))
    empty false q = absurd (cc)
numbered m s p (suc zero) e z = full (head_fits m (get_or s 1 0) (get_or s 2 0) (get_or s 3 0)) (notices_from (get_or s 3 0) s) e
  where
    full : (t : Bool) (n : Option Notices) → cond t (packet_of m (get_or s 1 0) (get_or s 2 0) n) None ≡ Some p → p.number ≡ m
    full true None q = absurd (cc)
    full true (Some n) q =
        let y : record { number = m; answer = get_or s 1 0; orders = get_or s 2 0; notices = n } ≡ p = cc in
        ap (λ (x : EventPacket). x.number) (sym y)
    full false n q = absurd (cc)
numbered m s p (suc (suc c)) e z = absurd (cc)

slot_number : (m : ℕ) (s : List ℕ) (p : EventPacket) → slot_from m s ≡ Some p → (p.number ≡ 0 → ⊥) → p.number ≡ m
slot_number m s p e z = numbered m s p (get_or s 0 0) e z

pub slot_or_none : (m : ℕ) (s : List ℕ) (p z : EventPacket) (o : Option EventPacket) → slot_from m s ≡ o → z ≡ none → p ≡ unwrap_or o z
    → (p.number ≡ 0 → ⊥) → p.number ≡ m
slot_or_none m s p z None e n q f = absurd (f (ap (λ (x : EventPacket). x.number) (q ∙ n)))
slot_or_none m s p z (Some r) e n q f =
    let w : p.number ≡ r.number = ap (λ (x : EventPacket). x.number) q in
    w ∙ slot_number m s r e (λ v. f (w ∙ v))
