-- A packet in its slot: the slots' first bytes say what is held, and a packet stored there is the packet held at its place.
-- Assumes nothing.
use mathlib.Core.Path.{◌≡◌, refl, ap, sym, ◌∙◌}
use mathlib.Core.Bool.{Bool, true, false, cond}
use mathlib.Core.List.{List, [], ◌∷◌, ◌++◌}
use mathlib.Core.Logic.{◌⊎◌, inl, inr}
use Prim.Native.Nat.{ℕ, zero, suc, ◌+◌, ◌*◌, ◌-◌, ◌%◌, ◌≤◌, ◌<◌}
use native.Mathlib.Nat.{suc-mul}
use native.Mathlib.Omega.{arith}
use lib.Dec.{eqb}
use lib.ListN.{length, get_or, set, drop, length-append, get_or-append}
use lib.Seq.{sets, sets-eq, drop_at, get_or-append-add, get_or-set_same, get_or-set_other, ext_get_or}
use borrow.Author.Tests.{eqb-true, eqb-false, eq-eqb, ne_eqb, leb-true}
use Rattle.power_policy_interface.specs.Limits.{largest}
use Rattle.interface_records.specs.Row.{written}
use Rattle.interface_display.specs.declared.packet.EventPacket.{EventPacket}
use Rattle.interface_display.specs.declared.packet.Packet.{Packet}
use Rattle.interface_display.specs.declared.packet.Picture.{Picture}
use Rattle.wire.specs.WellFormed.{event_fits}
use Rattle.desk_follower.specs.Held as held
use Rattle.desk_follower.specs.Held.{nothing, packet_at, held_for, placed, none_held}
use Rattle.desk_follower.specs.Follower.{showing, in_turn, settled, taken_at}
use Rattle.desk_follower.specs.declared.Shown.{Shown}
use Rattle.desk_follower.specs.declared.held.Held.{Held}
use Rattle.desk_follower.proofs.Kept.{mod8, none_at}
use Rattle.desk_follower.proofs.Laws.{event_new, event_held}
use Rattle.bytes_follower_image.specs.Slot.{slot_bytes}
use Rattle.bytes_follower_image.specs.Held.{slots, held_bytes}
use Rattle.bytes_follower_image.specs.Fits.{image_fits}
use Rattle.bytes_follower_image.specs.Image.{showing_bytes, follower_bytes, ImageOf, shown_head}
use Rattle.bytes_follower_image.proofs.Slots.{parts, Told, slot_length}
use Rattle.bytes_follower_image.proofs.Rows.{owner, owned}
use Rattle.bytes_follower_image.proofs.OneImage.{Fits, fits, held_told, held_next_lem}
use Rattle.bytes_take.specs.Taken.{none_in}
use Rattle.desk_follower.proofs.Places.{each_none}
use Rattle.std.proofs.lemmas.List.{set-append_right}

-- lists

sets_after : (xs ys : List ℕ) (i : ℕ) (vs : List ℕ) → sets (xs ++ ys) (length xs + i) vs ≡ xs ++ sets ys i vs
sets_after xs ys i [] = refl
sets_after xs ys i (v ∷ vs) =
    let e : suc (length xs + i) ≡ length xs + suc i = omega arith in
    let d : length xs + i - length xs ≡ i = omega arith in
    ap (λ (l : List ℕ). sets l (suc (length xs + i)) vs) (set-append_right xs ys (length xs) (length xs + i) v refl (omega arith) ∙ ap (λ (j : ℕ). xs ++ set ys j v) d)
    ∙ (ap (λ (j : ℕ). sets (xs ++ set ys i v) j vs) e ∙ sets_after xs (set ys i v) (suc i) vs)

-- the first byte of slot k

row_first : (m c k : ℕ) (h : Held) → k < c → get_or (written slot_bytes (slots m c h)) (k * 32) 0 ≡ get_or (slot_bytes (held_for h (m + k))) 0 0
row_first m zero k h l = absurd (omega (arith, l))
row_first m (suc c) zero h l =
    let e : m + 0 ≡ m = omega arith in
    let q : 0 < length (slot_bytes (held_for h m)) = omega (arith, slot_length (held_for h m)) in
    get_or-append (slot_bytes (held_for h m)) (written slot_bytes (slots (suc m) c h)) 0 0 q ∙ ap (λ (j : ℕ). get_or (slot_bytes (held_for h j)) 0 0) (sym e)
row_first m (suc c) (suc k) h l =
    let e : suc k * 32 ≡ length (slot_bytes (held_for h m)) + k * 32 = omega (arith, slot_length (held_for h m), suc-mul k 32) in
    let f : suc m + k ≡ m + suc k = omega arith in
    ap (λ (j : ℕ). get_or (slot_bytes (held_for h m) ++ written slot_bytes (slots (suc m) c h)) j 0) e
    ∙ (get_or-append-add (slot_bytes (held_for h m)) (written slot_bytes (slots (suc m) c h)) (k * 32) 0
    ∙ (row_first (suc m) c k h (omega (arith, l)) ∙ ap (λ (j : ℕ). get_or (slot_bytes (held_for h j)) 0 0) f))

pub first_byte : (b : List ℕ) (s : Picture) (h : Held) (k : ℕ) → ImageOf b s h → k < 7
    → get_or b (17 + k * 32) 0 ≡ get_or (slot_bytes (held_for h (s.number + 2 + k))) 0 0
first_byte b s h k i l =
    ap (λ (x : List ℕ). get_or x (17 + k * 32) 0) i.bytes
    ∙ (get_or-append-add (shown_head s.number s.display) (held_bytes s.number h) (k * 32) 0 ∙ row_first (s.number + 2) 7 k h l)

-- it is 0 where none is held, else 1, and then an event can have the number
pub data Byte (m : ℕ) (p : EventPacket) : Type 0 where
  empty : p ≡ held.none → get_or (slot_bytes p) 0 0 ≡ 0 → Byte m p
  full : p.number ≡ m → m ≤ 4294967295 → get_or (slot_bytes p) 0 0 ≡ 1 → Byte m p

told_byte : (m : ℕ) (p : EventPacket) → Told m p → Byte m p
told_byte m p t = by t.told
  where
    by : (p ≡ held.none) ⊎ ((p.number ≡ m) × (event_fits p ≡ true)) → Byte m p
    by (inl e) = empty e (ap (λ (x : EventPacket). get_or (slot_bytes x) 0 0) e)
    by (inr q) =
        let k = parts p q.1 in
        let l : p.number ≡ 0 → ⊥ = λ z. omega (arith, z, k.positive) in
        full q.0 (omega (arith, leb-true p.number largest k.number, q.0)) (rw (ne_eqb p.number 0 l))

-- nothing held

nothing_none : none_held 8 nothing ≡ true
unfolding none_held
nothing_none = refl

module _ (b : List ℕ) (s : Picture) (h : Held) (i : ImageOf b s h) where
  formed : Fits (Shown.Picture s) h
  formed = fits (showing s h) i.fits

  slot_byte : (k : ℕ) → k < 7 → Byte (s.number + 2 + k) (held_for h (s.number + 2 + k))
  slot_byte k l =
      told_byte (s.number + 2 + k) (held_for h (s.number + 2 + k))
      (held_told s.number h formed.formed.1 formed.places (s.number + 2 + k) (omega arith) (omega (arith, l)))

  pub slot_empty : (k : ℕ) → k < 7 → get_or b (17 + k * 32) 0 ≡ 0 → held_for h (s.number + 2 + k) ≡ held.none
  slot_empty k l e = by (slot_byte k l)
    where
      by : Byte (s.number + 2 + k) (held_for h (s.number + 2 + k)) → held_for h (s.number + 2 + k) ≡ held.none
      by (empty z q) = z
      by (full z u q) = absurd (omega (arith, q, e, first_byte b s h k i l))

  pub slot_full : (k : ℕ) → k < 7 → (get_or b (17 + k * 32) 0 ≡ 0 → ⊥) → (held_for h (s.number + 2 + k)).number ≡ s.number + 2 + k
  slot_full k l e = by (slot_byte k l)
    where
      by : Byte (s.number + 2 + k) (held_for h (s.number + 2 + k)) → (held_for h (s.number + 2 + k)).number ≡ s.number + 2 + k
      by (empty z q) = absurd (e (first_byte b s h k i l ∙ q))
      by (full z u q) = z

  pub slot_low : (k : ℕ) → k < 7 → (get_or b (17 + k * 32) 0 ≡ 0 → ⊥) → s.number + 2 + k ≤ 4294967295
  slot_low k l e = by (slot_byte k l)
    where
      by : Byte (s.number + 2 + k) (held_for h (s.number + 2 + k)) → s.number + 2 + k ≤ 4294967295
      by (empty z q) = absurd (e (first_byte b s h k i l ∙ q))
      by (full z u q) = u

  -- nothing is held where every first byte is 0

  bytes_zero : none_in b ≡ true → (k : ℕ) → k < 7 → get_or b (17 + k * 32) 0 ≡ 0
  bytes_zero e k l = at k l
    where
      sum : get_or b 17 0 + get_or b 49 0 + get_or b 81 0 + get_or b 113 0 + get_or b 145 0 + get_or b 177 0 + get_or b 209 0 ≡ 0
      sum = eqb-true _ _ e

      at : (k : ℕ) → k < 7 → get_or b (17 + k * 32) 0 ≡ 0
      at zero l = omega (arith, sum)
      at (suc zero) l = omega (arith, sum)
      at (suc (suc zero)) l = omega (arith, sum)
      at (suc (suc (suc zero))) l = omega (arith, sum)
      at (suc (suc (suc (suc zero)))) l = omega (arith, sum)
      at (suc (suc (suc (suc (suc zero))))) l = omega (arith, sum)
      at (suc (suc (suc (suc (suc (suc zero)))))) l = omega (arith, sum)
      at (suc (suc (suc (suc (suc (suc (suc k))))))) l = absurd (omega (arith, l))

  pub all_empty : none_in b ≡ true → h ≡ nothing
  all_empty e =
      let x : h.packets ≡ nothing.packets =
      ext_get_or held.none h.packets nothing.packets formed.formed.1.0 (λ j l. at j (omega (arith, l, formed.formed.1.0)) (eqb j ((s.number + 1) % 8)) refl) in
      λ j. record { packets = x j }
    where
      at : (j : ℕ) → j < 8 → (t : Bool) → eqb j ((s.number + 1) % 8) ≡ t → packet_at h j ≡ packet_at nothing j
      at j l true t = (ap (packet_at h) (eqb-true j ((s.number + 1) % 8) t) ∙ held_next_lem s.number h formed.formed.1) ∙ sym (none_at 8 j)
      at j l false t =
          let o = owned s.number j l (eqb-false j ((s.number + 1) % 8) t) in
          let k : ℕ = owner s.number j - (s.number + 2) in
          let m : s.number + 2 + k ≡ owner s.number j = omega (arith, o.1) in
          let z = slot_empty k (omega (arith, o.2, o.1)) (bytes_zero e k (omega (arith, o.2, o.1))) in
          (ap (packet_at h) (sym o.0) ∙ (ap (held_for h) (sym m) ∙ z)) ∙ sym (none_at 8 j)

  -- and something where one is not

  none_bytes : none_held 8 h ≡ true → (k : ℕ) → k < 7 → get_or b (17 + k * 32) 0 ≡ 0
  none_bytes e k l = by (slot_byte k l)
    where
      by : Byte (s.number + 2 + k) (held_for h (s.number + 2 + k)) → get_or b (17 + k * 32) 0 ≡ 0
      by (empty z q) = first_byte b s h k i l ∙ q
      by (full z u q) = absurd (omega (arith, z, each_none 8 h e ((s.number + 2 + k) % 8) (mod8 (s.number + 2 + k))))

  sum_zero : none_held 8 h ≡ true → none_in b ≡ true
  sum_zero e =
      let a = none_bytes e 0 (omega arith) in
      let c = none_bytes e 1 (omega arith) in
      let d = none_bytes e 2 (omega arith) in
      let f = none_bytes e 3 (omega arith) in
      let g = none_bytes e 4 (omega arith) in
      let j = none_bytes e 5 (omega arith) in
      let k = none_bytes e 6 (omega arith) in
      let z : get_or b 17 0 + get_or b 49 0 + get_or b 81 0 + get_or b 113 0 + get_or b 145 0 + get_or b 177 0 + get_or b 209 0 ≡ 0 = omega (arith, a, c, d, f, g, j, k) in
      eq-eqb _ _ z

  pub none_same : none_in b ≡ none_held 8 h
  none_same = by (none_in b) refl (none_held 8 h) refl
    where
      by : (x : Bool) → none_in b ≡ x → (y : Bool) → none_held 8 h ≡ y → x ≡ y
      by true p true q = refl
      by false p false q = refl
      by true p false q =
          let z : none_held 8 nothing ≡ false = ap (none_held 8) (sym (all_empty p)) ∙ q in
          sym nothing_none ∙ z
      by false p true q = sym p ∙ sum_zero q

-- the packet of event m + k stored in slot k of those from event m on

row_other : (m c : ℕ) (h : Held) (e : EventPacket) → ((j : ℕ) → m ≤ j → j < m + c → j % 8 ≡ e.number % 8 → ⊥)
    → slots m c (placed h e) ≡ slots m c h
row_other m zero h e f = refl
row_other m (suc c) h e f =
    let x : held_for (placed h e) m ≡ held_for h m = get_or-set_other h.packets (e.number % 8) (m % 8) e held.none (f m (omega arith) (omega arith)) in
    let y = row_other (suc m) c h e (λ j a b. f j (omega (arith, a)) (omega (arith, b))) in
    λ i. x i ∷ y i

row_put : (m c k : ℕ) (h : Held) (e : EventPacket) → e.number ≡ m + k → k < c → c ≤ 8 → length h.packets ≡ 8
    → sets (written slot_bytes (slots m c h)) (k * 32) (slot_bytes e) ≡ written slot_bytes (slots m c (placed h e))
row_put m zero k h e q l u z = absurd (omega (arith, l))
row_put m (suc c) zero h e q l u z =
    let a = slot_bytes (held_for h m) in
    let w = written slot_bytes (slots (suc m) c h) in
    let p : m % 8 ≡ e.number % 8 = ap (λ (j : ℕ). j % 8) (omega (arith, q)) in
    let x : held_for (placed h e) m ≡ e = ap (packet_at (placed h e)) p ∙ get_or-set_same h.packets (e.number % 8) e held.none (omega (arith, z, mod8 e.number)) in
    let y = row_other (suc m) c h e (λ j s t r. omega (arith, s, t, r, q, u)) in
    let v : 0 + length (slot_bytes e) ≤ length (a ++ w) = omega (arith, length-append a w, slot_length e, slot_length (held_for h m)) in
    let r : 0 + length (slot_bytes e) ≡ 32 = omega (arith, slot_length e) in
    sets-eq (slot_bytes e) (a ++ w) 0 v
    ∙ (ap (λ (n : ℕ). slot_bytes e ++ drop n (a ++ w)) r
    ∙ (ap (λ (t : List ℕ). slot_bytes e ++ t) (drop_at a w 32 (slot_length (held_for h m)))
    ∙ sym (λ i. slot_bytes (x i) ++ written slot_bytes (y i))))
row_put m (suc c) (suc k) h e q l u z =
    let a = slot_bytes (held_for h m) in
    let w = written slot_bytes (slots (suc m) c h) in
    let x : held_for (placed h e) m ≡ held_for h m = get_or-set_other h.packets (e.number % 8) (m % 8) e held.none (λ r. omega (arith, r, q, l, u)) in
    let n : suc k * 32 ≡ length a + k * 32 = omega (arith, slot_length (held_for h m), suc-mul k 32) in
    let r = row_put (suc m) c k h e (omega (arith, q)) (omega (arith, l)) (omega (arith, u)) z in
    ap (λ (j : ℕ). sets (a ++ w) j (slot_bytes e)) n ∙ (sets_after a w (k * 32) (slot_bytes e) ∙ sym (λ i. slot_bytes (x i) ++ sym r i))

pub slot_stored : (b : List ℕ) (s : Picture) (h : Held) (e : EventPacket) (k : ℕ) → ImageOf b s h → k < 7 → e.number ≡ s.number + 2 + k
    → sets b (17 + k * 32) (slot_bytes e) ≡ showing_bytes s (placed h e)
slot_stored b s h e k i l q =
    ap (λ (x : List ℕ). sets x (17 + k * 32) (slot_bytes e)) i.bytes
    ∙ (sets_after (shown_head s.number s.display) (held_bytes s.number h) (k * 32) (slot_bytes e)
    ∙ ap (λ (x : List ℕ). shown_head s.number s.display ++ x)
    (row_put (s.number + 2) 7 k h e q l (omega arith) (fits (showing s h) i.fits).formed.1.0))

-- such a packet is held, and none follows in turn: the next event is not held
turn_stays : (s : Picture) (g : Held) → ((held_for g (s.number + 1)).number ≡ s.number + 1 → ⊥) → settled s g ≡ showing s g
unfolding in_turn
turn_stays s g z = rw (ne_eqb _ _ z)

pub hold_new : (s : Picture) (h : Held) (e : EventPacket) (k : ℕ) → image_fits (showing s h) ≡ true → k < 7 → e.number ≡ s.number + 2 + k → held_for h e.number ≡ held.none
    → taken_at (Shown.Picture s) h (Packet.Event e) ≡ showing s (placed h e)
hold_new s h e k f l q z =
    let w = (fits (showing s h) f).formed.1 in
    let zero_number : (held_for h e.number).number ≡ 0 = ap (λ (p : EventPacket). p.number) z in
    let x : held_for (placed h e) (s.number + 1) ≡ held.none =
    get_or-set_other h.packets (e.number % 8) ((s.number + 1) % 8) e held.none (λ r. omega (arith, r, q, l)) ∙ held_next_lem s.number h w in
    event_new s h e (omega (arith, q)) (omega (arith, q, l)) (λ y. omega (arith, y, zero_number, q))
    ∙ turn_stays s (placed h e) (λ y. let a : (held_for (placed h e) (s.number + 1)).number ≡ 0 = ap (λ (p : EventPacket). p.number) x in omega (arith, a, y))

pub hold_again : (s : Picture) (h : Held) (e : EventPacket) (k : ℕ) → k < 7 → e.number ≡ s.number + 2 + k → (held_for h e.number).number ≡ e.number
    → taken_at (Shown.Picture s) h (Packet.Event e) ≡ showing s h
hold_again s h e k l q z = event_held s h e (omega (arith, q)) (omega (arith, q, l)) z

-- whichever it is
pub slot_taken : (b : List ℕ) (s : Picture) (h : Held) (e : EventPacket) (k : ℕ) → ImageOf b s h → k < 7 → e.number ≡ s.number + 2 + k
    → cond (eqb (get_or b (17 + k * 32) 0) 0) (sets b (17 + k * 32) (slot_bytes e)) b ≡ follower_bytes (taken_at (Shown.Picture s) h (Packet.Event e))
slot_taken b s h e k i l q = by (eqb (get_or b (17 + k * 32) 0) 0) refl
  where
    by : (t : Bool) → eqb (get_or b (17 + k * 32) 0) 0 ≡ t
        → cond t (sets b (17 + k * 32) (slot_bytes e)) b ≡ follower_bytes (taken_at (Shown.Picture s) h (Packet.Event e))
    by true t =
        let z = ap (held_for h) q ∙ slot_empty b s h i k l (eqb-true _ _ t) in
        slot_stored b s h e k i l q ∙ sym (ap follower_bytes (hold_new s h e k i.fits l q z))
    by false t =
        let z = ap (λ (m : ℕ). (held_for h m).number) q ∙ (slot_full b s h i k l (eqb-false _ _ t) ∙ sym q) in
        i.bytes ∙ sym (ap follower_bytes (hold_again s h e k l q z))
