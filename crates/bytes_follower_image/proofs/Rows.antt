-- The row of slots has one encoding: the places of up to eight events one after the other differ, so each slot is put where it is found
-- again, and a place that no slot is put into stays.
-- Assumes nothing.
use Rattle.std.specs.Prelude.{None, Option, Some}
use Rattle.std.specs.List.{list_all, enumerate_from}
use Rattle.std.specs.Simd.{first_chunks}
use mathlib.Core.Path.{◌≡◌, refl, ap, sym, subst, ◌∙◌}
use mathlib.Core.Bool.{Bool, true, false, ◌&&◌}
use mathlib.Core.List.{List, [], ◌∷◌, ◌++◌}
use Prim.Native.Nat.{ℕ, zero, suc, ◌+◌, ◌*◌, ◌-◌, ◌%◌, ◌≤◌, ◌<◌}
use native.Mathlib.Nat.{suc-mul}
use native.Mathlib.Omega.{arith}
use lib.Dec.{eqb}
use lib.ListN.{length, take, drop, length-append, length-set, length-drop, take-append-drop}
use lib.Seq.{take_at, drop_at, get_or-set_same, get_or-set_other, length-take-le, ext_get_or}
use borrow.Author.Tests.{eqb-true, eqb-false}
use Rattle.interface_records.specs.Row.{AllBytes, written}
use Rattle.interface_display.specs.declared.packet.EventPacket.{EventPacket}
use Rattle.desk_follower.specs.Held as held
use Rattle.desk_follower.specs.Held.{nothing, packet_at, put, held_for}
use Rattle.desk_follower.specs.declared.held.Held.{Held}
use Rattle.desk_follower.proofs.Kept.{mod8, none_at}
use Rattle.bytes_groups.proofs.Places as places
use Rattle.bytes_groups.proofs.Places.{Below}
use Rattle.bytes_follower_image.specs.Slot.{slot_bytes, slot_from, is_read}
use Rattle.bytes_follower_image.specs.Held.{slots, slot_then, slots_from, is_held}
use Rattle.interface_records.proofs.OneRow.{drop_bytes, take_bytes_lem}
use Rattle.bytes_follower_image.proofs.Slots.{Told, slot_length, slot_back, slot_read, slot_below}

-- event m and the k - 1 after it have places of their own
apart : (m j k : ℕ) → k ≤ 8 → m < j → j < m + k → j % 8 ≡ m % 8 → ⊥
apart m j k l a b e = omega (arith, l, a, b, e)

pub row_length : (m k : ℕ) (h : Held) → length (written slot_bytes (slots m k h)) ≡ k * 32
row_length m zero h = omega arith
row_length m (suc k) h =
    length-append (slot_bytes (held_for h m)) (written slot_bytes (slots (suc m) k h))
    ∙ omega (arith, slot_length (held_for h m), row_length (suc m) k h, suc-mul k 32)

pub row_below : (m k : ℕ) (h : Held) → ((j : ℕ) → m ≤ j → j < m + k → Told j (held_for h j)) → Below (written slot_bytes (slots m k h))
row_below m zero h t = places.none
row_below m (suc k) h t =
    places.both (slot_below m (held_for h m) (t m (omega arith) (omega arith)))
    (row_below (suc m) k h (λ j a b. t j (omega (arith, a)) (omega (arith, b))))

-- reading what was written

-- the places of k events from event m on, as they are in h, the others as in g
abbrev pub restored : ℕ → ℕ → Held → Held → Held
restored m zero h g = g
restored m (suc k) h g = restored (suc m) k h (put g (m % 8) (held_for h m))

pub row_back : (m k : ℕ) (h g : Held) → ((j : ℕ) → m ≤ j → j < m + k → Told j (held_for h j))
    → slots_from m k (written slot_bytes (slots m k h)) g ≡ Some (restored m k h g)
row_back m zero h g t = refl
row_back m (suc k) h g t =
    let p = held_for h m in
    let r = written slot_bytes (slots (suc m) k h) in
    rw (take_at (slot_bytes p) r 32 (slot_length p), drop_at (slot_bytes p) r 32 (slot_length p), slot_back m p (t m (omega arith) (omega arith)))
    (row_back (suc m) k h (put g (m % 8) p) (λ j a b. t j (omega (arith, a)) (omega (arith, b))))

restored_length : (m k : ℕ) (h g : Held) → length (restored m k h g).packets ≡ length g.packets
restored_length m zero h g = refl
restored_length m (suc k) h g =
    restored_length (suc m) k h (put g (m % 8) (held_for h m)) ∙ length-set g.packets (m % 8) (held_for h m)

missed : (m k : ℕ) (h g : Held) (i : ℕ) → ((j : ℕ) → m ≤ j → j < m + k → i ≡ j % 8 → ⊥) → packet_at (restored m k h g) i ≡ packet_at g i
missed m zero h g i f = refl
missed m (suc k) h g i f =
    missed (suc m) k h (put g (m % 8) (held_for h m)) i (λ j a b. f j (omega (arith, a)) (omega (arith, b)))
    ∙ get_or-set_other g.packets (m % 8) i (held_for h m) held.none (f m (omega arith) (omega arith))

hit : (m k : ℕ) (h g : Held) (j : ℕ) → k ≤ 8 → length g.packets ≡ 8 → m ≤ j → j < m + k → packet_at (restored m k h g) (j % 8) ≡ held_for h j
hit m zero h g j l e a b = absurd (omega (arith, a, b))
hit m (suc k) h g j l e a b =
    by (eqb j m) refl
    (λ c.
    hit (suc m) k h (put g (m % 8) (held_for h m)) j (omega (arith, l)) (length-set g.packets (m % 8) (held_for h m) ∙ e) c
    (omega (arith, b)))
  where
    by : (t : Bool) → eqb j m ≡ t
        → (suc m ≤ j → packet_at (restored (suc m) k h (put g (m % 8) (held_for h m))) (j % 8) ≡ held_for h j)
        → packet_at (restored (suc m) k h (put g (m % 8) (held_for h m))) (j % 8) ≡ held_for h j
    by true t r =
        let q = eqb-true j m t in
        let x = missed (suc m) k h (put g (m % 8) (held_for h m)) (m % 8)
        (λ i c d z. apart m i (suc k) l (omega (arith, c)) (omega (arith, d)) (sym z)) in
        let y = get_or-set_same g.packets (m % 8) (held_for h m) held.none (omega (arith, e, mod8 m)) in
        subst (λ (i : ℕ). packet_at (restored (suc m) k h (put g (m % 8) (held_for h m))) (i % 8) ≡ held_for h i) (sym q) (x ∙ y)
    by false t r = r (omega (arith, a, eqb-false j m t))

-- when n is shown, a place is that of n + 1 or of one of the seven events after it
pub owner : ℕ → ℕ → ℕ
owner n i = n + 2 + (i + 8 - (n + 2) % 8) % 8

pub owned : (n i : ℕ) → i < 8 → (i ≡ (n + 1) % 8 → ⊥) → (owner n i % 8 ≡ i) × (n + 2 ≤ owner n i) × (owner n i < n + 2 + 7)
unfolding owner
owned n i l f = (omega (arith, l), omega arith, omega (arith, l, f))

pub not_owned : (n j : ℕ) → n + 2 ≤ j → j < n + 2 + 7 → (n + 1) % 8 ≡ j % 8 → ⊥
not_owned n j a b e = omega (arith, a, b, e)

pub row_restored : (n : ℕ) (h : Held) → length h.packets ≡ 8 → packet_at h ((n + 1) % 8) ≡ held.none → restored (n + 2) 7 h nothing ≡ h
row_restored n h e z =
    ap (λ (l : List EventPacket). record { packets = l })
    (ext_get_or held.none (restored (n + 2) 7 h nothing).packets h.packets (restored_length (n + 2) 7 h nothing ∙ sym e)
    (λ i l. at i (omega (arith, l, restored_length (n + 2) 7 h nothing)) (eqb i ((n + 1) % 8)) refl))
  where
    at : (i : ℕ) → i < 8 → (t : Bool) → eqb i ((n + 1) % 8) ≡ t → packet_at (restored (n + 2) 7 h nothing) i ≡ packet_at h i
    at i l true t =
        let q = eqb-true i ((n + 1) % 8) t in
        missed (n + 2) 7 h nothing i (λ j a b x. not_owned n j a b (sym q ∙ x)) ∙ (none_at 8 i ∙ sym (ap (packet_at h) q ∙ z))
    at i l false t =
        let o = owned n i l (eqb-false i ((n + 1) % 8) t) in
        ap (packet_at (restored (n + 2) 7 h nothing)) (sym o.0)
        ∙ (hit (n + 2) 7 h nothing (owner n i) (omega arith) refl o.1 o.2 ∙ ap (packet_at h) o.0)

-- what was read was written so

-- k slots from event m on, read over h
pub record Rowed (m k : ℕ) (s : List ℕ) (h g : Held) : Type 0 where
  pub bytes : s ≡ written slot_bytes (slots m k g)
  pub told : (j : ℕ) → m ≤ j → j < m + k → Told j (held_for g j)
  pub others : (i : ℕ) → ((j : ℕ) → m ≤ j → j < m + k → i ≡ j % 8 → ⊥) → packet_at g i ≡ packet_at h i
  pub size : length g.packets ≡ 8

none_rowed : (m : ℕ) (s : List ℕ) (h g : Held) → length s ≡ 0 * 32 → length h.packets ≡ 8 → Some h ≡ Some g → Rowed m 0 s h g
none_rowed m [] h g e l q =
    let k : h ≡ g = cc in
    subst (λ (x : Held). Rowed m 0 [] h x) k
    (record { bytes = refl; told = λ j a b. absurd (omega (arith, a, b)); others = λ i f. refl; size = l })
none_rowed m (x ∷ s) h g e l q = absurd (omega (arith, e))

one_rowed : (m k : ℕ) (s : List ℕ) (h g : Held) (p : EventPacket) → 0 < m → suc k ≤ 8 → AllBytes s → length s ≡ suc k * 32
    → length h.packets ≡ 8 → slot_from m (take 32 s) ≡ Some p → Rowed (suc m) k (drop 32 s) (put h (m % 8) p) g
    → Rowed m (suc k) s h g
one_rowed m k s h g p l c a e z q r =
    let f : length s ≡ k * 32 + 32 = e ∙ suc-mul k 32 in
    let t : length (take 32 s) ≡ 32 = length-take-le 32 s (omega (arith, f)) in
    let w = slot_read m (take 32 s) p l (take_bytes_lem 32 s a) t q in
    let y : held_for g m ≡ p =
    r.others (m % 8) (λ i u v x. apart m i (suc k) c (omega (arith, u)) (omega (arith, v)) (sym x))
    ∙ get_or-set_same h.packets (m % 8) p held.none (omega (arith, z, mod8 m)) in
    let b0 : take 32 s ≡ slot_bytes (held_for g m) = w.bytes ∙ ap slot_bytes (sym y) in
    let b1 = r.bytes in
    record {
      bytes = sym (take-append-drop 32 s) ∙ (λ i. b0 i ++ b1 i);
      told = λ j u v. told j u v (eqb j m) refl y w.told;
      others = λ i x.
          r.others i (λ j u v. x j (omega (arith, u)) (omega (arith, v)))
          ∙ get_or-set_other h.packets (m % 8) i p held.none (x m (omega arith) (omega arith));
      size = r.size;
    }
  where
    told : (j : ℕ) → m ≤ j → j < m + suc k → (t : Bool) → eqb j m ≡ t → held_for g m ≡ p → Told m p → Told j (held_for g j)
    told j u v true t y w =
        let x = eqb-true j m t in
        subst (λ (i : ℕ). Told i (held_for g i)) (sym x) (subst (λ (i : EventPacket). Told m i) (sym y) w)
    told j u v false t y w = r.told j (omega (arith, u, eqb-false j m t)) (omega (arith, v))

then_told : (x : Option EventPacket) (f : EventPacket → Option Held) (g : Held) → slot_then x f ≡ Some g
    → (p : EventPacket) × (x ≡ Some p) × (f p ≡ Some g)
then_told None f g e = absurd (cc)
then_told (Some p) f g e = (p, refl, e)

pub row_read : (m k : ℕ) (s : List ℕ) (h g : Held) → 0 < m → k ≤ 8 → AllBytes s → length s ≡ k * 32 → length h.packets ≡ 8
    → slots_from m k s h ≡ Some g → Rowed m k s h g
row_read m zero s h g l c a e z q = none_rowed m s h g e z q
row_read m (suc k) s h g l c a e z q =
    let t = then_told (slot_from m (take 32 s)) (λ p. slots_from (suc m) k (drop 32 s) (put h (m % 8) p)) g q in
    let d : length (drop 32 s) ≡ k * 32 = rw length-drop (omega (arith, e, suc-mul k 32)) in
    let r = row_read (suc m) k (drop 32 s) (put h (m % 8) t.0) g (omega arith) (omega (arith, c)) (drop_bytes 32 s a) d
    (length-set h.packets (m % 8) t.0 ∙ z) t.2 in
    one_rowed m k s h g t.0 l c a e z t.1 r

-- the slots are tested in turn; whether they are slots does not rest on what they are put into

then_tested : (x : Option EventPacket) (r : Bool) (f : EventPacket → Option Held) → ((p : EventPacket) → r ≡ is_held (f p))
    → (is_read x && r) ≡ is_held (slot_then x f)
then_tested None r f e = refl
then_tested (Some p) r f e = e p

pub slots_tested : (m k i : ℕ) (s : List ℕ) (h : Held)
    → list_all (λ p. is_read (slot_from (m + p.0) p.1)) (enumerate_from i (first_chunks 32 k s)) ≡ is_held (slots_from (m + i) k s h)
slots_tested m zero i s h = refl
slots_tested m (suc k) i s h =
    let e : m + (i + 1) ≡ suc (m + i) = omega arith in
    then_tested (slot_from (m + i) (take 32 s)) _ (λ p. slots_from (suc (m + i)) k (drop 32 s) (put h ((m + i) % 8) p))
    (λ p. slots_tested m k (i + 1) (drop 32 s) (put h ((m + i) % 8) p)
    ∙ ap (λ (j : ℕ). is_held (slots_from j k (drop 32 s) (put h ((m + i) % 8) p))) e)
