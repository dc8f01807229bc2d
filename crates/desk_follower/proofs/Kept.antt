-- A take keeps a follower well formed. In turn, what is held lies between the next event and the eighth after the one shown.
-- Assumes nothing.
use mathlib.Core.Path.{◌≡◌, refl, ap, sym, ◌∙◌}
use mathlib.Core.Bool.{Bool, true, false, cond}
use mathlib.Core.Logic.{◌⊎◌, inl, inr, ⊎_elim}
use Prim.Native.Nat.{ℕ, zero, suc, ◌+◌, ◌%◌, ◌≤◌, ◌<◌}
use native.Mathlib.Nat.{mod-lt, max-le}
use native.Mathlib.Omega.{arith}
use lib.Dec.{eqb, leb, ltb, lit<}
use lib.ListN.{length, get_or, set, replicate, length-set}
use lib.Seq.{get_or-set_same, get_or-set_other}
use borrow.Author.Tests.{eqb-true, eqb-false, leb-false, ltb-false}
use Rattle.power_policy_interface.specs.Limits.{largest}
use Rattle.interface_display.specs.Notices.{all_applied, padded}
use Rattle.interface_display.specs.declared.Display.{Display}
use Rattle.interface_display.specs.declared.packet.EventPacket.{EventPacket}
use Rattle.interface_display.specs.declared.packet.Packet.{Packet}
use Rattle.interface_display.specs.declared.packet.Picture.{Picture}
use Rattle.desk_follower.specs.Held.{none, nothing, packet_at, held_for, holds, put, placed, dropped, greatest, above}
use Rattle.desk_follower.specs.Follower.{lost, showing, at, fresh, in_turn, settled, taken_at, taken}
use Rattle.desk_follower.specs.WellFormed.{InPlace, Within, WellFormedAt, WellFormed, Readable}
use Rattle.desk_follower.specs.declared.Follower.{Follower}
use Rattle.desk_follower.specs.declared.Shown.{Shown}
use Rattle.desk_follower.specs.declared.held.Held.{Held}
use Rattle.desk_follower.proofs.Laws.{greatest_le}

pub mod8 : (m : ℕ) → m % 8 < 8
mod8 m = mod-lt m {m = 8} (lit< tt)

pub none_at : (k i : ℕ) → get_or (replicate k none) i none ≡ none
none_at zero i = refl
none_at (suc k) zero = refl
none_at (suc k) (suc i) = none_at k i

pub nothing_within : (lo hi : ℕ) → Within lo hi nothing
nothing_within lo hi = (refl, λ i l. inl (none_at 8 i))

-- wider bounds
wider : (lo hi lo' hi' : ℕ) (h : Held) → lo' ≤ lo → hi ≤ hi' → Within lo hi h → Within lo' hi' h
wider lo hi lo' hi' h a b w =
    (w.0, λ i l. ⊎_elim (λ e. inl e) (λ q. inr (omega (arith, q.0), omega (arith, q.1), q.2, q.3, q.4)) (w.1 i l))

-- a packet at its place, the others as they were
put_tested : (lo hi : ℕ) (h : Held) (j : ℕ) (p : EventPacket) → j < 8 → length h.packets ≡ 8 → InPlace lo hi j p
    → (i : ℕ) (t : Bool) → eqb i j ≡ t → ((eqb i j ≡ false) → InPlace lo hi i (packet_at h i)) → InPlace lo hi i (packet_at (put h j p) i)
put_tested lo hi h j p l e q i true t r =
    let s : i ≡ j = eqb-true i j t in
    let x : get_or (set h.packets j p) j none ≡ p = get_or-set_same h.packets j p none (omega arith) in
    rw (s, x) q
put_tested lo hi h j p l e q i false t r =
    let x : get_or (set h.packets j p) i none ≡ get_or h.packets i none = get_or-set_other h.packets j i p none (eqb-false i j t) in
    rw x (r t)

put_within : (lo hi : ℕ) (h : Held) (j : ℕ) (p : EventPacket) → j < 8 → length h.packets ≡ 8 → InPlace lo hi j p
    → ((i : ℕ) → i < 8 → (eqb i j ≡ false) → InPlace lo hi i (packet_at h i)) → Within lo hi (put h j p)
put_within lo hi h j p l e q r =
    (length-set h.packets j p ∙ e, λ i m. put_tested lo hi h j p l e q i (eqb i j) refl (r i m))

-- the next event is not held: what is held comes after it
stop_within : (n hi : ℕ) (h : Held) → ((held_for h (n + 1)).number ≡ n + 1 → ⊥) → Within (n + 1) hi h → Within (n + 2) hi h
stop_within n hi h z w =
    (w.0, λ i l. ⊎_elim (λ e. inl e) (λ q. inr (later i q.3 q.0, q.1, q.2, q.3, q.4)) (w.1 i l))
  where
    later : (i : ℕ) → (packet_at h i).number % 8 ≡ i → n + 1 ≤ (packet_at h i).number → n + 2 ≤ (packet_at h i).number
    later i e l = tested (eqb (packet_at h i).number (n + 1)) refl
      where
        tested : (t : Bool) → eqb (packet_at h i).number (n + 1) ≡ t → n + 2 ≤ (packet_at h i).number
        tested true t =
            let a : (packet_at h i).number ≡ n + 1 = eqb-true _ _ t in
            let b : (n + 1) % 8 ≡ i = ap (λ (m : ℕ). m % 8) (sym a) ∙ e in
            absurd (z (ap (λ (j : ℕ). (packet_at h j).number) b ∙ a))
        tested false t =
            let a : (packet_at h i).number ≡ n + 1 → ⊥ = eqb-false _ _ t in
            omega (arith, a)

-- the next event is dropped: what is left comes after it
pub go_within : (n hi : ℕ) (h : Held) → Within (n + 1) hi h → Within (n + 2) hi (dropped h (n + 1))
go_within n hi h w =
    put_within (n + 2) hi h ((n + 1) % 8) none (mod8 (n + 1)) w.0 (inl refl)
    (λ i l t. ⊎_elim (λ e. inl e) (λ q. inr (later i t q.3 q.0, q.1, q.2, q.3, q.4)) (w.1 i l))
  where
    later : (i : ℕ) → eqb i ((n + 1) % 8) ≡ false → (packet_at h i).number % 8 ≡ i → n + 1 ≤ (packet_at h i).number → n + 2 ≤ (packet_at h i).number
    later i t e l =
        let a : i ≡ (n + 1) % 8 → ⊥ = eqb-false _ _ t in
        omega (arith, a)

-- numbers held are of 32 bits
held_small : (lo hi : ℕ) (h : Held) → Within lo hi h → (i : ℕ) → i < 8 → (packet_at h i).number ≤ largest
held_small lo hi h w i l =
    ⊎_elim (λ e. let a : (packet_at h i).number ≡ 0 = ap (λ (p : EventPacket). p.number) e in omega arith) (λ q. q.2) (w.1 i l)

turn_tested : (k f n : ℕ) (d : Display) (h : Held) (hi : ℕ) (a b : Bool) → holds h (n + 1) ≡ a → f ≤ largest → n ≤ largest → hi ≤ n + 8
    → Within (n + 1) hi h
    → (n + 1 ≤ largest → WellFormed (in_turn k f (n + 1) (all_applied (held_for h (n + 1)).notices d) (dropped h (n + 1))))
    → WellFormed (cond a (cond b (in_turn k f (n + 1) (all_applied (held_for h (n + 1)).notices d) (dropped h (n + 1))) (lost f)) (showing (at n d) h))
turn_tested k f n d h hi true true e lf ln lh w r =
    let a : (held_for h (n + 1)).number ≡ n + 1 = eqb-true _ _ e in
    r (omega (arith, held_small (n + 1) hi h w ((n + 1) % 8) (mod8 (n + 1))))
turn_tested k f n d h hi true false e lf ln lh w r = (lf, refl)
turn_tested k f n d h hi false true e lf ln lh w r =
    (ln, wider (n + 2) hi (n + 2) (n + 8) h (omega arith) lh (stop_within n hi h (eqb-false _ _ e) w))
turn_tested k f n d h hi false false e lf ln lh w r =
    (ln, wider (n + 2) hi (n + 2) (n + 8) h (omega arith) lh (stop_within n hi h (eqb-false _ _ e) w))

-- with turns for all that may be held, the end is well formed
turn_kept : (k f n : ℕ) (d : Display) (h : Held) (hi : ℕ) → f ≤ largest → n ≤ largest → hi ≤ n + k → hi ≤ n + 8 → Within (n + 1) hi h
    → WellFormed (in_turn k f n d h)
unfolding in_turn
turn_kept zero f n d h hi lf ln lk lh w =
    (ln, (w.0, λ i l. ⊎_elim (λ e. inl e) (λ q. absurd (omega (arith, q.0, q.1))) (w.1 i l)))
turn_kept (suc k) f n d h hi lf ln lk lh w =
    turn_tested k f n d h hi (holds h (n + 1)) (eqb (held_for h (n + 1)).answer 0) refl lf ln lh w
    (λ l.
    turn_kept k f (n + 1) (all_applied (held_for h (n + 1)).notices d) (dropped h (n + 1)) hi lf l (omega arith) (omega arith)
    (wider (n + 2) hi (n + 1 + 1) hi (dropped h (n + 1)) (omega arith) (omega arith) (go_within n hi h w)))

settled_kept : (s : Picture) (h : Held) → s.number ≤ largest → Within (s.number + 1) (s.number + 8) h → WellFormed (settled s h)
settled_kept s h l w =
    turn_kept 8 (greatest s.number 8 h) s.number s.display h (s.number + 8)
    (greatest_le s.number largest 8 h l (held_small (s.number + 1) (s.number + 8) h w)) l (omega arith) (omega arith) w

-- after the first k places were looked at, each place holds none, or what it held, and that is above m where it was looked at
abbrev pub Seen : ℕ → ℕ → Held → Held → Type 0
Seen m k h g =
    (length g.packets ≡ 8)
    × ((i : ℕ) → i < 8 → (packet_at g i ≡ none) ⊎ ((packet_at g i ≡ packet_at h i) × (i < k → m < (packet_at g i).number)))

module _ (m k : ℕ) (h g : Held) (l : k < 8) (w : Seen m k h g) where
  drop_tested : (i : ℕ) → i < 8 → (t : Bool) → eqb i k ≡ t
      → (packet_at (put g k none) i ≡ none) ⊎ ((packet_at (put g k none) i ≡ packet_at h i) × (i < suc k → m < (packet_at (put g k none) i).number))
  drop_tested i li true t =
      let s : i ≡ k = eqb-true i k t in
      inl (rw s (get_or-set_same g.packets k none none (omega (arith, w.0))))
  drop_tested i li false t =
      let s : i ≡ k → ⊥ = eqb-false i k t in
      let x : get_or (set g.packets k none) i none ≡ get_or g.packets i none = get_or-set_other g.packets k i none none s in
      rw x (⊎_elim (λ e. inl e) (λ q. inr (q.0, λ y. q.1 (omega (arith, s)))) (w.1 i li))

  keep_tested : (i : ℕ) → m < (packet_at g k).number → (i < k → m < (packet_at g i).number) → i < suc k → (t : Bool) → eqb i k ≡ t
      → m < (packet_at g i).number
  keep_tested i z q y true t =
      let s : i ≡ k = eqb-true i k t in
      rw s z
  keep_tested i z q y false t =
      let s : i ≡ k → ⊥ = eqb-false i k t in
      q (omega (arith, s))

  seen_next : (t : Bool) → leb (packet_at g k).number m ≡ t → Seen m (suc k) h (cond t (put g k none) g)
  seen_next true t = (length-set g.packets k none ∙ w.0, λ i li. drop_tested i li (eqb i k) refl)
  seen_next false t = (
    w.0,
    λ i li.
        ⊎_elim (λ e. inl e) (λ q. inr (q.0, λ y. keep_tested i (leb-false _ _ t) q.1 y (eqb i k) refl)) (w.1 i li),
  )

pub seen : (m k : ℕ) (h : Held) → length h.packets ≡ 8 → k ≤ 8 → Seen m k h (above m k h)
unfolding above
seen m zero h e l = (e, λ i li. inr (refl, λ y. absurd (omega arith)))
seen m (suc k) h e l =
    seen_next m k h (above m k h) (omega arith) (seen m k h e (omega arith)) (leb (packet_at (above m k h) k).number m) refl

pub picture_within : (n m : ℕ) (h : Held) → n < m → Within (n + 2) (n + 8) h → Within (m + 1) (m + 8) (above m 8 h)
picture_within n m h l w =
    let s = seen m 8 h w.0 (omega arith) in
    (s.0, λ i li. ⊎_elim (λ e. inl e) (λ q. ⊎_elim (λ e. inl (q.0 ∙ e)) (λ z. inr (stays i li q z)) (w.1 i li)) (s.1 i li))
  where
    stays : (i : ℕ) → i < 8 → (packet_at (above m 8 h) i ≡ packet_at h i) × (i < 8 → m < (packet_at (above m 8 h) i).number)
        → (n + 2 ≤ (packet_at h i).number) × ((packet_at h i).number ≤ n + 8) × ((packet_at h i).number ≤ largest)
        × ((packet_at h i).number % 8 ≡ i) × (padded (packet_at h i).notices ≡ true)
        → (m + 1 ≤ (packet_at (above m 8 h) i).number) × ((packet_at (above m 8 h) i).number ≤ m + 8)
        × ((packet_at (above m 8 h) i).number ≤ largest) × ((packet_at (above m 8 h) i).number % 8 ≡ i)
        × (padded (packet_at (above m 8 h) i).notices ≡ true)
    stays i li q z =
        let a : (packet_at (above m 8 h) i).number ≡ (packet_at h i).number = ap (λ (p : EventPacket). p.number) q.0 in
        (omega (arith, q.1 li), omega (arith, z.1), omega (arith, z.2), ap (λ (x : ℕ). x % 8) a ∙ z.3, ap (λ (p : EventPacket). padded p.notices) q.0 ∙ z.4)

pub event_within : (n : ℕ) (h : Held) (e : EventPacket) → n < e.number → e.number ≤ n + 8
    → (e.number ≤ largest) × (padded e.notices ≡ true) → Within (n + 2) (n + 8) h → Within (n + 1) (n + 8) (placed h e)
event_within n h e a b c w =
    put_within (n + 1) (n + 8) h (e.number % 8) e (mod8 e.number) w.0 (inr (omega arith, b, c.0, refl, c.1))
    (λ i l t. (wider (n + 2) (n + 8) (n + 1) (n + 8) h (omega arith) (omega arith) w).1 i l)

event_tested : (s : Picture) (h : Held) (e : EventPacket) → WellFormed (showing s h) → Readable (Packet.Event e) → (x y z : Bool)
    → leb e.number s.number ≡ x → ltb (s.number + 8) e.number ≡ y
    → WellFormed (cond x (showing s h) (cond y (lost (greatest e.number 8 h)) (cond z (showing s h) (settled s (placed h e)))))
event_tested s h e w l true y z p q = w
event_tested s h e w l false true z p q =
    (greatest_le e.number largest 8 h l.0 (held_small (s.number + 2) (s.number + 8) h w.1), refl)
event_tested s h e w l false false true p q = w
event_tested s h e w l false false false p q =
    settled_kept s (placed h e) w.0 (event_within s.number h e (leb-false _ _ p) (ltb-false _ _ q) l w.1)

picture_tested : (s : Picture) (h : Held) (p : Picture) → WellFormed (showing s h) → p.number ≤ largest → (x : Bool)
    → leb p.number s.number ≡ x → WellFormed (cond x (showing s h) (settled p (above p.number 8 h)))
picture_tested s h p w l true e = w
picture_tested s h p w l false e = settled_kept p (above p.number 8 h) l (picture_within s.number p.number h (leb-false _ _ e) w.1)

lost_tested : (floor : ℕ) (h : Held) (p : Picture) → WellFormedAt (Shown.Lost floor) h → p.number ≤ largest → (x : Bool)
    → WellFormed (cond x (record { shown = Shown.Lost floor; held = h }) (showing p nothing))
lost_tested floor h p w l true = w
lost_tested floor h p w l false = (l, nothing_within (p.number + 2) (p.number + 8))

kept_at : (x : Shown) (h : Held) (p : Packet) → WellFormedAt x h → Readable p → WellFormed (taken_at x h p)
kept_at (Shown.Lost floor) h (Packet.Event e) w l = (max-le w.0 l.0, refl)
kept_at (Shown.Lost floor) h (Packet.Picture p) w l = lost_tested floor h p w l (ltb p.number floor)
kept_at (Shown.Picture s) h (Packet.Event e) w l =
    event_tested s h e w l (leb e.number s.number) (ltb (s.number + 8) e.number) (holds h e.number) refl refl
kept_at (Shown.Picture s) h (Packet.Picture p) w l = picture_tested s h p w l (leb p.number s.number) refl

pub fresh_kept : WellFormed fresh
fresh_kept = (omega arith, refl)

pub take_kept : (f : Follower) (p : Packet) → WellFormed f → Readable p → WellFormed (taken f p)
take_kept f p w l = kept_at f.shown f.held p w l
