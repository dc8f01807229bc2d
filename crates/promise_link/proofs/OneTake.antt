-- One take keeps what Turns.antt says of a follower, with the packet handed over among those met.
use mathlib.Core.Path.{◌≡◌, refl, ap, sym, ◌∙◌, subst}
use mathlib.Core.Bool.{Bool, true, false, cond}
use mathlib.Core.Logic.{◌⊎◌, inl, inr, ⊎_elim}
use Prim.Native.Nat.{ℕ, ◌+◌, ◌%◌, ◌≤◌, ◌<◌, max}
use native.Mathlib.Nat.{le-max_left, le-max_right, max-eq_left, max-eq_right}
use native.Mathlib.Omega.{arith}
use lib.Dec.{eqb, leb, ltb}
use lib.ListN.{length-set}
use borrow.Author.Tests.{eqb-true, eqb-false, leb-true, leb-false, ltb-true, ltb-false}
use Rattle.interface_display.specs.declared.packet.EventPacket.{EventPacket}
use Rattle.interface_display.specs.declared.packet.Packet.{Packet}
use Rattle.interface_display.specs.declared.packet.Picture.{Picture}
use Rattle.desk_follower.specs.Follower.{lost, showing, settled, taken, taken_at, taken_event, taken_picture}
use Rattle.desk_follower.specs.Held.{nothing, packet_at, held_for, holds, placed, greatest, above}
use Rattle.desk_follower.specs.WellFormed.{Within, WellFormedAt, WellFormed, Readable}
use Rattle.desk_follower.specs.declared.Follower.{Follower}
use Rattle.desk_follower.specs.declared.Shown.{Shown}
use Rattle.desk_follower.specs.declared.held.Held.{Held}
use Rattle.desk_follower.proofs.Kept.{mod8, picture_within, event_within, seen, take_kept}
use Rattle.desk_follower.proofs.Laws.{greatest_base, above_stays}
use Rattle.promise_link.specs.Source.{Source}
use Rattle.promise_link.proofs.Places.{AllHeld, all_nothing, all_map, all_put, all_above, all_has, Has, has_bounds, placed_here, placed_there}
use Rattle.promise_link.proofs.Turns.{Known, Upper, Reached, Waits, GoodAt, Good, upper_held, reached_held, settled_good, ShownFrom, NoErrors, turn_shown, from_less}

-- the event packets met, with one more
abbrev pub With : (EventPacket → Type 0) → EventPacket → EventPacket → Type 0
With Seen e x = Seen x ⊎ (x ≡ e)

module _ (source : Source) (Seen : EventPacket → Type 0) where
  -- the one that is handed over changes nothing, where it is not above what is shown, or held
  unchanged : (s : Picture) (h : Held) (e : EventPacket) → (s.number < e.number → Has h e.number) → GoodAt source Seen (Shown.Picture s) h →
      GoodAt source (With Seen e) (Shown.Picture s) h
  unchanged s h e has g = (
    g.0,
    all_map (Known source Seen) (Known source (With Seen e)) h (λ x q. (q.0, inl q.1)) g.1,
    λ x m l. ⊎_elim (λ k. g.2 x k l) (λ q. at x q l) m,
    g.3,
  )
    where
      at : (x : EventPacket) → x ≡ e → s.number < x.number → Has h x.number
      at x q l = subst (λ (z : EventPacket). Has h z.number) (sym q) (has (subst (λ (z : EventPacket). s.number < z.number) q l))

  -- lost: the floor is raised to the number
  raised : (floor : ℕ) (e : EventPacket) → Upper source Seen floor × ((floor ≡ 0) ⊎ Reached source Seen floor) →
      Upper source (With Seen e) (max floor e.number) × ((max floor e.number ≡ 0) ⊎ Reached source (With Seen e) (max floor e.number))
  raised floor e g = (λ x m. ⊎_elim (λ k. omega (arith, g.0 x k, le-max_left floor e.number)) (λ q. self x q) m, go (ltb e.number floor) refl)
    where
      self : (x : EventPacket) → x ≡ e → x.number ≤ max floor e.number
      self x q =
          let n : x.number ≡ e.number = ap (λ (z : EventPacket). z.number) q in
          omega (arith, n, le-max_right floor e.number)

      go : (t : Bool) → ltb e.number floor ≡ t → (max floor e.number ≡ 0) ⊎ Reached source (With Seen e) (max floor e.number)
      go true t =
          let m : max floor e.number ≡ floor = max-eq_left (omega (arith, ltb-true e.number floor t)) in
          ⊎_elim (λ z. absurd (omega (arith, z, ltb-true e.number floor t))) (λ q. inr (q.0, inl q.1, q.2 ∙ sym m)) g.1
      go false t = inr (e, inr refl, sym (max-eq_right (ltb-false _ _ t)))

  -- beyond the eighth: lost, with the greatest number met
  beyond : (s : Picture) (h : Held) (e : EventPacket) → s.number + 8 < e.number → source.Written (Packet.Event e) → GoodAt source Seen (Shown.Picture s) h →
      GoodAt source (With Seen e) (Shown.Lost (greatest e.number 8 h)) nothing
  beyond s h e l w g = (upper, inr (go (ltb e.number (greatest e.number 8 h)) refl))
    where
      upper : Upper source (With Seen e) (greatest e.number 8 h)
      upper x m =
          ⊎_elim (λ k. upper_held source Seen e.number s.number h (omega (arith, l)) g.2 x k)
          (λ q. let n : x.number ≡ e.number = ap (λ (z : EventPacket). z.number) q in omega (arith, n, greatest_base e.number 8 h)) m

      go : (t : Bool) → ltb e.number (greatest e.number 8 h) ≡ t → Reached source (With Seen e) (greatest e.number 8 h)
      go true t =
          let q = reached_held source Seen e.number h g.1 (ltb-true _ _ t) in
          (q.0, inl q.1, q.2)
      go false t = (e, inr refl, omega (arith, ltb-false e.number (greatest e.number 8 h) t, greatest_base e.number 8 h))

  -- held, and then in turn
  put_in : (s : Picture) (h : Held) (e : EventPacket) → s.number < e.number → e.number ≤ s.number + 8 → Within (s.number + 2) (s.number + 8) h →
      Readable (Packet.Event e) → source.Written (Packet.Event e) → GoodAt source Seen (Shown.Picture s) h → Good source (With Seen e) (settled s (placed h e))
  put_in s h e l m w r wr g =
      settled_good source (With Seen e) s (placed h e) (event_within s.number h e l m r w) g.0
      (all_put (Known source (With Seen e)) h (e.number % 8) e (mod8 e.number) w.0 (inr (wr, inr refl))
      (all_map (Known source Seen) (Known source (With Seen e)) h (λ x q. (q.0, inl q.1)) g.1))
      (λ x k lx. waits x k lx (eqb x.number e.number) refl) g.3
    where
      here : Has (placed h e) e.number
      here = ap (λ (z : EventPacket). z.number) (placed_here h e w.0)

      waits : (x : EventPacket) → With Seen e x → s.number < x.number → (t : Bool) → eqb x.number e.number ≡ t → Has (placed h e) x.number
      waits x k lx true t = subst (λ (z : ℕ). Has (placed h e) z) (sym (eqb-true _ _ t)) here
      waits x k lx false t =
          ⊎_elim
          (λ q.
          let has : Has h x.number = g.2 x q lx in
          let b = has_bounds (s.number + 2) (s.number + 8) h x.number (omega (arith, lx)) w has in
          ap (λ (z : EventPacket). z.number) (placed_there h e s.number x.number lx b.1 l m (eqb-false _ _ t)) ∙ has)
          (λ q. absurd (eqb-false _ _ t (ap (λ (z : EventPacket). z.number) q)))
          k

  event_good : (s : Picture) (h : Held) (e : EventPacket) → Within (s.number + 2) (s.number + 8) h → Readable (Packet.Event e) → source.Written (Packet.Event e) →
      GoodAt source Seen (Shown.Picture s) h → Good source (With Seen e) (taken_event s h e)
  event_good s h e w r wr g = go (leb e.number s.number) refl (ltb (s.number + 8) e.number) refl (holds h e.number) refl
    where
      go : (x : Bool) → leb e.number s.number ≡ x → (y : Bool) → ltb (s.number + 8) e.number ≡ y → (z : Bool) → holds h e.number ≡ z →
          Good source (With Seen e) (cond x (showing s h) (cond y (lost (greatest e.number 8 h)) (cond z (showing s h) (settled s (placed h e)))))
      go true p y q z o = unchanged s h e (λ l. absurd (omega (arith, l, leb-true e.number s.number p))) g
      go false p true q z o = beyond s h e (ltb-true _ _ q) wr g
      go false p false q true o = unchanged s h e (λ l. eqb-true _ _ o) g
      go false p false q false o = put_in s h e (leb-false _ _ p) (ltb-false _ _ q) w r wr g

  picture_good : (s : Picture) (h : Held) (p : Picture) → Within (s.number + 2) (s.number + 8) h → source.Written (Packet.Picture p) →
      GoodAt source Seen (Shown.Picture s) h → Good source Seen (taken_picture s h p)
  picture_good s h p w wr g = go (leb p.number s.number) refl
    where
      waits : s.number < p.number → Waits source Seen p.number (above p.number 8 h)
      waits l x k lx =
          let has : Has h x.number = g.2 x k (omega (arith, l, lx)) in
          let big : p.number < (packet_at h (x.number % 8)).number = omega (arith, has, lx) in
          ap (λ (z : EventPacket). z.number) (above_stays p.number 8 h (x.number % 8) big) ∙ has

      go : (x : Bool) → leb p.number s.number ≡ x → Good source Seen (cond x (showing s h) (settled p (above p.number 8 h)))
      go true e = g
      go false e =
          let l : s.number < p.number = leb-false _ _ e in
          settled_good source Seen p (above p.number 8 h) (picture_within s.number p.number h l w) (source.picture p wr)
          (all_above (Known source Seen) p.number h w.0 g.1) (waits l) (source.closed (Packet.Picture p) wr)

  lost_picture_good : (floor : ℕ) (h : Held) (p : Picture) → source.Written (Packet.Picture p) → GoodAt source Seen (Shown.Lost floor) h →
      Good source Seen (cond (ltb p.number floor) (record { shown = Shown.Lost floor; held = h }) (showing p nothing))
  lost_picture_good floor h p wr g = go (ltb p.number floor) refl
    where
      go : (t : Bool) → ltb p.number floor ≡ t → Good source Seen (cond t (record { shown = Shown.Lost floor; held = h }) (showing p nothing))
      go true t = g
      go false t = (
        source.picture p wr,
        all_nothing (Known source Seen),
        λ x k l. absurd (omega (arith, l, g.0 x k, ltb-false p.number floor t)),
        source.closed (Packet.Picture p) wr,
      )

  -- a follower of these packets
  pub record Kept (f : Follower) : Type 0 where
    pub formed : WellFormed f
    pub good : Good source Seen f

  event_at : (x : Shown) (h : Held) (e : EventPacket) → WellFormedAt x h → Readable (Packet.Event e) → source.Written (Packet.Event e) → GoodAt source Seen x h →
      Good source (With Seen e) (taken_at x h (Packet.Event e))
  event_at (Shown.Lost floor) h e w r wr g = raised floor e g
  event_at (Shown.Picture s) h e w r wr g = event_good s h e w.1 r wr g

  picture_at : (x : Shown) (h : Held) (p : Picture) → WellFormedAt x h → source.Written (Packet.Picture p) → GoodAt source Seen x h →
      Good source Seen (taken_at x h (Packet.Picture p))
  picture_at (Shown.Lost floor) h p w wr g = lost_picture_good floor h p wr g
  picture_at (Shown.Picture s) h p w wr g = picture_good s h p w.1 wr g

pub event_kept : (source : Source) (Seen : EventPacket → Type 0) (f : Follower) (e : EventPacket) → Readable (Packet.Event e) → source.Written (Packet.Event e) →
    Kept source Seen f → Kept source (With Seen e) (taken f (Packet.Event e))
event_kept source Seen f e r wr k = record {
  formed = take_kept f (Packet.Event e) k.formed r;
  good = event_at source Seen f.shown f.held e k.formed r wr k.good;
}

pub picture_kept : (source : Source) (Seen : EventPacket → Type 0) (f : Follower) (p : Picture) → Readable (Packet.Picture p) → source.Written (Packet.Picture p) →
    Kept source Seen f → Kept source Seen (taken f (Packet.Picture p))
picture_kept source Seen f p r wr k = record {
  formed = take_kept f (Packet.Picture p) k.formed r;
  good = picture_at source Seen f.shown f.held p k.formed wr k.good;
}

-- without errors, up to a greatest number: shown stays shown

module _ (most n : ℕ) (source : Source) (Seen : EventPacket → Type 0)
    (near : most ≤ n + 8)
    (bounded : (e : EventPacket) → Seen e → e.number ≤ most)
    (fine : (e : EventPacket) → source.Written (Packet.Event e) → n < e.number → e.number ≤ most → e.answer ≡ 0) where
  fine_held : (m : ℕ) (h : Held) → n ≤ m → AllHeld (Known source Seen) h → NoErrors most m h
  fine_held m h l a j lj has =
      let q = all_has (Known source Seen) h j (omega (arith, lj)) a has in
      let b : (held_for h j).number ≤ most = bounded (held_for h j) q.1 in
      (fine (held_for h j) q.0 (omega (arith, has, l, lj)) b, omega (arith, has, b))

  -- an event packet, already among those met
  event_shown : (s : Picture) (h : Held) (e : EventPacket) → n ≤ s.number → s.number ≤ most → Within (s.number + 2) (s.number + 8) h →
      source.Written (Packet.Event e) → Seen e → AllHeld (Known source Seen) h → ShownFrom most n (taken_event s h e).shown
  event_shown s h e l m w wr k a = go (leb e.number s.number) refl (ltb (s.number + 8) e.number) refl (holds h e.number) refl
    where
      go : (x : Bool) → leb e.number s.number ≡ x → (y : Bool) → ltb (s.number + 8) e.number ≡ y → (z : Bool) → holds h e.number ≡ z →
          ShownFrom most n (cond x (showing s h) (cond y (lost (greatest e.number 8 h)) (cond z (showing s h) (settled s (placed h e))))).shown
      go true p y q z o = (l, m)
      go false p true q z o = absurd (omega (arith, ltb-true (s.number + 8) e.number q, bounded e k, near, l))
      go false p false q true o = (l, m)
      go false p false q false o =
          from_less most n s.number (settled s (placed h e)).shown l
          (turn_shown most 8 (greatest s.number 8 (placed h e)) s.number s.display (placed h e)
          (length-set h.packets (e.number % 8) e ∙ w.0) m
          (fine_held s.number (placed h e) l (all_put (Known source Seen) h (e.number % 8) e (mod8 e.number) w.0 (inr (wr, k)) a)))

  picture_shown : (s : Picture) (h : Held) (p : Picture) → n ≤ s.number → s.number ≤ most → Within (s.number + 2) (s.number + 8) h →
      p.number ≤ most → AllHeld (Known source Seen) h → ShownFrom most n (taken_picture s h p).shown
  picture_shown s h p l m w b a = go (leb p.number s.number) refl
    where
      go : (x : Bool) → leb p.number s.number ≡ x → ShownFrom most n (cond x (showing s h) (settled p (above p.number 8 h))).shown
      go true e = (l, m)
      go false e =
          let q : s.number < p.number = leb-false _ _ e in
          from_less most n p.number (settled p (above p.number 8 h)).shown (omega (arith, l, q))
          (turn_shown most 8 (greatest p.number 8 (above p.number 8 h)) p.number p.display (above p.number 8 h)
          (seen p.number 8 h w.0 (omega arith)).0 b
          (fine_held p.number (above p.number 8 h) (omega (arith, l, q)) (all_above (Known source Seen) p.number h w.0 a)))

  -- the packets met so far are among them
  module _ (Met : EventPacket → Type 0) (among : (e : EventPacket) → Met e → Seen e) where
    all_among : (h : Held) → AllHeld (Known source Met) h → AllHeld (Known source Seen) h
    all_among h a = all_map (Known source Met) (Known source Seen) h (λ x q. (q.0, among x q.1)) a

    event-stays-at : (x : Shown) (h : Held) (e : EventPacket) → WellFormedAt x h → ShownFrom most n x → source.Written (Packet.Event e) → Seen e → GoodAt source Met x h →
        ShownFrom most n (taken_at x h (Packet.Event e)).shown
    event-stays-at (Shown.Lost floor) h e w t wr k g = absurd t
    event-stays-at (Shown.Picture s) h e w t wr k g = event_shown s h e t.0 t.1 w.1 wr k (all_among h g.1)

    picture-stays-at : (x : Shown) (h : Held) (p : Picture) → WellFormedAt x h → ShownFrom most n x → p.number ≤ most → GoodAt source Met x h →
        ShownFrom most n (taken_at x h (Packet.Picture p)).shown
    picture-stays-at (Shown.Lost floor) h p w t b g = absurd t
    picture-stays-at (Shown.Picture s) h p w t b g = picture_shown s h p t.0 t.1 w.1 b (all_among h g.1)

    pub event-stays : (f : Follower) (e : EventPacket) → Kept source Met f → ShownFrom most n f.shown → source.Written (Packet.Event e) → Seen e →
        ShownFrom most n (taken f (Packet.Event e)).shown
    event-stays f e k t wr s = event-stays-at f.shown f.held e k.formed t wr s k.good

    pub picture-stays : (f : Follower) (p : Picture) → Kept source Met f → ShownFrom most n f.shown → p.number ≤ most →
        ShownFrom most n (taken f (Packet.Picture p)).shown
    picture-stays f p k t b = picture-stays-at f.shown f.held p k.formed t b k.good
