-- What is held in the eight places, by the packets put there and taken away: a place holds what it held, or what was put there.
use mathlib.Core.Path.{◌≡◌, refl, ap, sym, ◌∙◌, subst}
use mathlib.Core.Bool.{Bool, true, false}
use mathlib.Core.Logic.{◌⊎◌, inl, inr, ⊎_elim}
use Prim.Native.Nat.{ℕ, zero, suc, ◌+◌, ◌%◌, ◌≤◌, ◌<◌, max}
use native.Mathlib.Nat.{max-eq_left, max-eq_right}
use native.Mathlib.Omega.{arith}
use lib.Dec.{eqb, ltb}
use lib.ListN.{length}
use lib.Seq.{get_or-set_same, get_or-set_other}
use borrow.Author.Tests.{eqb-true, eqb-false, ltb-true, ltb-false}
use Rattle.interface_display.specs.declared.packet.EventPacket.{EventPacket}
use Rattle.desk_follower.specs.Held.{none, nothing, packet_at, put, held_for, placed, dropped, greatest, above}
use Rattle.desk_follower.specs.WellFormed.{Within}
use Rattle.desk_follower.specs.declared.held.Held.{Held}
use Rattle.desk_follower.proofs.Kept.{mod8, none_at, seen}

-- each packet that is held has a property
abbrev pub AllHeld : (EventPacket → Type 0) → Held → Type 0
AllHeld P h = (i : ℕ) → i < 8 → (packet_at h i ≡ none) ⊎ P (packet_at h i)

pub all_nothing : (P : EventPacket → Type 0) → AllHeld P nothing
all_nothing P i l = inl (none_at 8 i)

pub all_map : (P Q : EventPacket → Type 0) (h : Held) → ((e : EventPacket) → P e → Q e) → AllHeld P h → AllHeld Q h
all_map P Q h f a i l = ⊎_elim (λ e. inl e) (λ q. inr (f _ q)) (a i l)

pub all_put : (P : EventPacket → Type 0) (h : Held) (j : ℕ) (p : EventPacket) → j < 8 → length h.packets ≡ 8 → (p ≡ none) ⊎ P p → AllHeld P h → AllHeld P (put h j p)
all_put P h j p lj len q a i l = go (eqb i j) refl
  where
    go : (t : Bool) → eqb i j ≡ t → (packet_at (put h j p) i ≡ none) ⊎ P (packet_at (put h j p) i)
    go true t =
        let s : i ≡ j = eqb-true i j t in
        let x : packet_at (put h j p) i ≡ p = ap (λ (k : ℕ). packet_at (put h j p) k) s ∙ get_or-set_same h.packets j p none (omega (arith, len)) in
        subst (λ z. (z ≡ none) ⊎ P z) (sym x) q
    go false t =
        let x : packet_at (put h j p) i ≡ packet_at h i = get_or-set_other h.packets j i p none (eqb-false i j t) in
        subst (λ z. (z ≡ none) ⊎ P z) (sym x) (a i l)

pub all_above : (P : EventPacket → Type 0) (m : ℕ) (h : Held) → length h.packets ≡ 8 → AllHeld P h → AllHeld P (above m 8 h)
all_above P m h len a i l =
    ⊎_elim (λ e. inl e) (λ q. subst (λ z. (z ≡ none) ⊎ P z) (sym q.0) (a i l)) ((seen m 8 h len (omega arith)).1 i l)

-- the packet of event m is held
abbrev pub Has : Held → ℕ → Type 0
Has h m = (held_for h m).number ≡ m

-- two of eight numbers in a row have different places
apart : (n a b : ℕ) → n < a → a ≤ n + 8 → n < b → b ≤ n + 8 → (a ≡ b → ⊥) → a % 8 ≡ b % 8 → ⊥
apart n a b la ha lb hb d e = d (omega (arith, la, ha, lb, hb, e))

pub placed_here : (h : Held) (e : EventPacket) → length h.packets ≡ 8 → held_for (placed h e) e.number ≡ e
placed_here h e len = get_or-set_same h.packets (e.number % 8) e none (omega (arith, len, mod8 e.number))

pub placed_there : (h : Held) (e : EventPacket) (n m : ℕ) → n < m → m ≤ n + 8 → n < e.number → e.number ≤ n + 8 → (m ≡ e.number → ⊥) →
    held_for (placed h e) m ≡ held_for h m
placed_there h e n m lm hm le he d =
    get_or-set_other h.packets (e.number % 8) (m % 8) e none (apart n m e.number lm hm le he d)

pub dropped_there : (h : Held) (n m : ℕ) → n + 1 < m → m ≤ n + 8 → held_for (dropped h (n + 1)) m ≡ held_for h m
dropped_there h n m lm hm =
    get_or-set_other h.packets ((n + 1) % 8) (m % 8) none none
    (apart n m (n + 1) (omega (arith, lm)) hm (omega arith) (omega arith) (λ e. absurd (omega (arith, lm, e))))

-- what is dropped is not held any more, and nothing else is held instead
pub dropped_less : (h : Held) (n m : ℕ) → 0 < m → length h.packets ≡ 8 → Has (dropped h (n + 1)) m → held_for (dropped h (n + 1)) m ≡ held_for h m
dropped_less h n m pos len has = go (eqb (m % 8) ((n + 1) % 8)) refl
  where
    go : (t : Bool) → eqb (m % 8) ((n + 1) % 8) ≡ t → held_for (dropped h (n + 1)) m ≡ held_for h m
    go true t =
        let s : m % 8 ≡ (n + 1) % 8 = eqb-true _ _ t in
        let x : held_for (dropped h (n + 1)) m ≡ none =
        ap (λ (k : ℕ). packet_at (dropped h (n + 1)) k) s ∙ get_or-set_same h.packets ((n + 1) % 8) none none (omega (arith, len, mod8 (n + 1))) in
        let y : (held_for (dropped h (n + 1)) m).number ≡ 0 = ap (λ (z : EventPacket). z.number) x in
        absurd (omega (arith, pos, has, y))
    go false t = get_or-set_other h.packets ((n + 1) % 8) (m % 8) none none (eqb-false _ _ t)

-- what is held lies where the bounds say
pub has_bounds : (lo hi : ℕ) (h : Held) (m : ℕ) → 0 < m → Within lo hi h → Has h m → (lo ≤ m) × (m ≤ hi)
has_bounds lo hi h m pos w has =
    ⊎_elim
    (λ e. let x : (held_for h m).number ≡ 0 = ap (λ (z : EventPacket). z.number) e in absurd (omega (arith, pos, has, x)))
    (λ q. (omega (arith, has, q.0), omega (arith, has, q.1)))
    (w.1 (m % 8) (mod8 m))

-- what is held for a number has the property
pub all_has : (P : EventPacket → Type 0) (h : Held) (m : ℕ) → 0 < m → AllHeld P h → Has h m → P (held_for h m)
all_has P h m pos a has =
    ⊎_elim
    (λ e. let x : (held_for h m).number ≡ 0 = ap (λ (z : EventPacket). z.number) e in absurd (omega (arith, pos, has, x)))
    (λ q. q)
    (a (m % 8) (mod8 m))

-- the greatest is the number given, or one that is held
abbrev OneOf : ℕ → ℕ → Held → ℕ → Type 0
OneOf m k h g = (g ≡ m) ⊎ ((i : ℕ) × (i < k) × (g ≡ (packet_at h i).number))

later_one : (m k : ℕ) (h : Held) (g : ℕ) → OneOf m k h g → OneOf m (suc k) h g
later_one m k h g o = ⊎_elim (λ e. inl e) (λ q. inr (q.0, omega (arith, q.1), q.2)) o

pub greatest_one : (m k : ℕ) (h : Held) → OneOf m k h (greatest m k h)
unfolding greatest
greatest_one m zero h = inl refl
greatest_one m (suc k) h = go (ltb (packet_at h k).number (greatest m k h)) refl (later_one m k h (greatest m k h) (greatest_one m k h))
  where
    go : (t : Bool) → ltb (packet_at h k).number (greatest m k h) ≡ t → OneOf m (suc k) h (greatest m k h) →
        OneOf m (suc k) h (max (packet_at h k).number (greatest m k h))
    go true t o =
        let l : (packet_at h k).number < greatest m k h = ltb-true _ _ t in
        let e : max (packet_at h k).number (greatest m k h) ≡ greatest m k h = max-eq_right (omega (arith, l)) in
        subst (λ z. OneOf m (suc k) h z) (sym e) o
    go false t o = inr (k, omega arith, max-eq_left (ltb-false _ _ t))
