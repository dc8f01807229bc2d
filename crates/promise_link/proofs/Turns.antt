-- Held packets applied in turn: what is shown stays what the writer held, everything met above it stays held, and the floor on becoming lost
-- is the greatest number met. Without errors nothing is lost, and nothing passes the greatest number met.
use mathlib.Core.Path.{◌≡◌, refl, ap, sym, ◌∙◌, subst}
use mathlib.Core.Bool.{Bool, true, false, cond}
use mathlib.Core.Logic.{◌⊎◌, inl, inr, ⊎_elim}
use Prim.Native.Nat.{ℕ, zero, suc, ◌+◌, ◌%◌, ◌≤◌, ◌<◌}
use native.Mathlib.Omega.{arith}
use lib.Dec.{eqb, ltb}
use lib.ListN.{length, length-set}
use borrow.Author.Tests.{eqb-true, eqb-false, ltb-true, ltb-false}
use Rattle.interface_display.specs.Notices.{all_applied}
use Rattle.interface_display.specs.declared.Display.{Display}
use Rattle.interface_display.specs.declared.packet.EventPacket.{EventPacket}
use Rattle.interface_display.specs.declared.packet.Packet.{Packet}
use Rattle.interface_display.specs.declared.packet.Picture.{Picture}
use Rattle.desk_follower.specs.Follower.{lost, showing, in_turn, settled}
use Rattle.desk_follower.specs.Follower as follower
use Rattle.desk_follower.specs.Held.{none, packet_at, held_for, holds, dropped, greatest}
use Rattle.desk_follower.specs.WellFormed.{Within}
use Rattle.desk_follower.specs.declared.Follower.{Follower}
use Rattle.desk_follower.specs.declared.Shown.{Shown}
use Rattle.desk_follower.specs.declared.held.Held.{Held}
use Rattle.desk_follower.proofs.Kept.{mod8, go_within}
use Rattle.desk_follower.proofs.Laws.{greatest_base, greatest_held}
use Rattle.promise_link.specs.Source.{Source}
use Rattle.promise_link.proofs.Places.{AllHeld, all_put, all_has, Has, has_bounds, dropped_there, dropped_less, greatest_one}

module _ (source : Source) (Seen : EventPacket → Type 0) where
  -- a packet of the writer's that has been handed over
  abbrev pub Known : EventPacket → Type 0
  Known e = source.Written (Packet.Event e) × Seen e

  -- the floor: no number met is above it, and it is one of them
  abbrev pub Upper : ℕ → Type 0
  Upper floor = (e : EventPacket) → Seen e → e.number ≤ floor

  abbrev pub Reached : ℕ → Type 0
  Reached floor = (e : EventPacket) × Seen e × (e.number ≡ floor)

  -- everything met above what is shown is held
  abbrev pub Waits : ℕ → Held → Type 0
  Waits n h = (e : EventPacket) → Seen e → n < e.number → Has h e.number

  abbrev pub GoodAt : Shown → Held → Type 0
  GoodAt (Shown.Lost floor) h = Upper floor × ((floor ≡ 0) ⊎ Reached floor)
  GoodAt (Shown.Picture s) h = (s.display ≡ source.held s.number) × AllHeld Known h × Waits s.number h × source.Closed s.number

  abbrev pub Good : Follower → Type 0
  Good f = GoodAt f.shown f.held

  waits_on : (n hi : ℕ) (h : Held) → hi ≤ n + 8 → Within (n + 1) hi h → Waits n h → Waits (n + 1) (dropped h (n + 1))
  waits_on n hi h lh w u e k l =
      let has : Has h e.number = u e k (omega (arith, l)) in
      let b : (n + 1 ≤ e.number) × (e.number ≤ hi) = has_bounds (n + 1) hi h e.number (omega (arith, l)) w has in
      let x : (held_for (dropped h (n + 1)) e.number).number ≡ (held_for h e.number).number =
      ap (λ (z : EventPacket). z.number) (dropped_there h n e.number l (omega (arith, lh, b.1))) in
      x ∙ has

  right_on : (n : ℕ) (d : Display) (h : Held) → d ≡ source.held n → AllHeld Known h → Has h (n + 1) → (held_for h (n + 1)).answer ≡ 0 →
      all_applied (held_for h (n + 1)).notices d ≡ source.held (n + 1)
  right_on n d h r a has z =
      let e : n + 1 ≡ suc n = omega arith in
      ap (λ (x : Display). all_applied (held_for h (n + 1)).notices x) r
      ∙ source.event n (held_for h (n + 1)) (all_has Known h (n + 1) (omega arith) a has).0 (has ∙ e) z
      ∙ ap (λ (x : ℕ). source.held x) (sym e)

  closed_on : (n : ℕ) (h : Held) → AllHeld Known h → Has h (n + 1) → source.Closed (n + 1)
  closed_on n h a has =
      subst (λ z. source.Closed z) has (source.closed (Packet.Event (held_for h (n + 1))) (all_has Known h (n + 1) (omega arith) a has).0)

  pub turn_good : (k floor n : ℕ) (d : Display) (h : Held) (hi : ℕ) → hi ≤ n + 8 → Within (n + 1) hi h → d ≡ source.held n → AllHeld Known h → Waits n h →
      source.Closed n → Upper floor → (Has h (n + 1) → Reached floor) → Good (in_turn k floor n d h)
  unfolding in_turn
  turn_good zero floor n d h hi lh w r a u cl up at = (r, a, u, cl)
  turn_good (suc k) floor n d h hi lh w r a u cl up at =
      go (holds h (n + 1)) refl (eqb (held_for h (n + 1)).answer 0) refl
      (λ has z. turn_good k floor (n + 1) (all_applied (held_for h (n + 1)).notices d) (dropped h (n + 1)) hi (omega (arith, lh))
      (again w) (right_on n d h r a has z)
      (all_put Known h ((n + 1) % 8) none (mod8 (n + 1)) w.0 (inl refl) a) (waits_on n hi h lh w u) (closed_on n h a has) up (λ q. at has))
    where
      again : Within (n + 1) hi h → Within (n + 1 + 1) hi (dropped h (n + 1))
      again v =
          let e : n + 1 + 1 ≡ n + 2 = omega arith in
          subst (λ z. Within z hi (dropped h (n + 1))) (sym e) (go_within n hi h v)

      go : (x : Bool) → holds h (n + 1) ≡ x → (y : Bool) → eqb (held_for h (n + 1)).answer 0 ≡ y →
          (Has h (n + 1) → (held_for h (n + 1)).answer ≡ 0 → Good (in_turn k floor (n + 1) (all_applied (held_for h (n + 1)).notices d) (dropped h (n + 1)))) →
          Good (cond x (cond y (in_turn k floor (n + 1) (all_applied (held_for h (n + 1)).notices d) (dropped h (n + 1))) (lost floor)) (showing (follower.at n d) h))
      go true ex true ey ih = ih (eqb-true _ _ ex) (eqb-true _ _ ey)
      go true ex false ey ih = (up, inr (at (eqb-true _ _ ex)))
      go false ex true ey ih = (r, a, u, cl)
      go false ex false ey ih = (r, a, u, cl)

  -- everything met is at most the greatest of what is shown and held
  pub upper_held : (m n : ℕ) (h : Held) → n ≤ m → Waits n h → Upper (greatest m 8 h)
  upper_held m n h l u e k = go (ltb n e.number) refl
    where
      go : (t : Bool) → ltb n e.number ≡ t → e.number ≤ greatest m 8 h
      go true t =
          let has : Has h e.number = u e k (ltb-true _ _ t) in
          omega (arith, has, greatest_held m 8 h (e.number % 8) (mod8 e.number))
      go false t = omega (arith, ltb-false n e.number t, l, greatest_base m 8 h)

  -- the greatest was met, if it is above the number given
  pub reached_held : (m : ℕ) (h : Held) → AllHeld Known h → m < greatest m 8 h → Reached (greatest m 8 h)
  reached_held m h a l = ⊎_elim (λ e. absurd (omega (arith, l, e))) (λ q. one q.0 q.1 q.2) (greatest_one m 8 h)
    where
      one : (i : ℕ) → i < 8 → greatest m 8 h ≡ (packet_at h i).number → Reached (greatest m 8 h)
      one i li e =
          ⊎_elim (λ z. let x : (packet_at h i).number ≡ 0 = ap (λ (y : EventPacket). y.number) z in absurd (omega (arith, l, e, x)))
          (λ q. (packet_at h i, q.1, sym e)) (a i li)

  pub settled_good : (s : Picture) (h : Held) → Within (s.number + 1) (s.number + 8) h → s.display ≡ source.held s.number → AllHeld Known h → Waits s.number h →
      source.Closed s.number → Good (settled s h)
  settled_good s h w r a u cl =
      turn_good 8 (greatest s.number 8 h) s.number s.display h (s.number + 8) (omega arith) w r a u cl
      (upper_held s.number s.number h (omega arith) u)
      (λ has. reached_held s.number h a (omega (arith, has, greatest_held s.number 8 h ((s.number + 1) % 8) (mod8 (s.number + 1)))))

-- without errors

module _ (most : ℕ) where
  -- shown from n on, up to the greatest
  abbrev pub ShownFrom : ℕ → Shown → Type 0
  ShownFrom n (Shown.Lost floor) = ⊥
  ShownFrom n (Shown.Picture s) = (n ≤ s.number) × (s.number ≤ most)

  pub from_less : (n m : ℕ) (x : Shown) → n ≤ m → ShownFrom m x → ShownFrom n x
  from_less n m (Shown.Lost floor) l p = p
  from_less n m (Shown.Picture s) l p = (omega (arith, l, p.0), p.1)

  -- what is held above n has no error and is no more than the greatest
  abbrev pub NoErrors : ℕ → Held → Type 0
  NoErrors n h = (m : ℕ) → n < m → Has h m → ((held_for h m).answer ≡ 0) × (m ≤ most)

  no_errors_on : (n : ℕ) (h : Held) → length h.packets ≡ 8 → NoErrors n h → NoErrors (n + 1) (dropped h (n + 1))
  no_errors_on n h len p m l has =
      let x : held_for (dropped h (n + 1)) m ≡ held_for h m = dropped_less h n m (omega (arith, l)) len has in
      let y : Has h m = ap (λ (z : EventPacket). z.number) (sym x) ∙ has in
      let q = p m (omega (arith, l)) y in
      (ap (λ (z : EventPacket). z.answer) x ∙ q.0, q.1)

  pub turn_shown : (k floor n : ℕ) (d : Display) (h : Held) → length h.packets ≡ 8 → n ≤ most → NoErrors n h → ShownFrom n (in_turn k floor n d h).shown
  unfolding in_turn
  turn_shown zero floor n d h len l p = (omega arith, l)
  turn_shown (suc k) floor n d h len l p =
      go (holds h (n + 1)) refl (eqb (held_for h (n + 1)).answer 0) refl
      (λ has. from_less n (n + 1) (in_turn k floor (n + 1) (all_applied (held_for h (n + 1)).notices d) (dropped h (n + 1))).shown (omega arith)
      (turn_shown k floor (n + 1) (all_applied (held_for h (n + 1)).notices d) (dropped h (n + 1))
      (length-set h.packets ((n + 1) % 8) none ∙ len) (p (n + 1) (omega arith) has).1 (no_errors_on n h len p)))
    where
      go : (x : Bool) → holds h (n + 1) ≡ x → (y : Bool) → eqb (held_for h (n + 1)).answer 0 ≡ y →
          (Has h (n + 1) → ShownFrom n (in_turn k floor (n + 1) (all_applied (held_for h (n + 1)).notices d) (dropped h (n + 1))).shown) →
          ShownFrom n (cond x (cond y (in_turn k floor (n + 1) (all_applied (held_for h (n + 1)).notices d) (dropped h (n + 1))) (lost floor)) (showing (follower.at n d) h)).shown
      go true ex true ey ih = ih (eqb-true _ _ ex)
      go true ex false ey ih = absurd (eqb-false _ _ ey (p (n + 1) (omega arith) (eqb-true _ _ ex)).0)
      go false ex true ey ih = (omega arith, l)
      go false ex false ey ih = (omega arith, l)
