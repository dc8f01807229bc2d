-- DEM-3: what a list of takes keeps (Lists.antt), read off at its end. DEM-3c is the floor being the greatest number met; DEM-3b
-- holds because what was met above what is shown is held, and the next is never left waiting.
use Rattle.std.specs.Prelude.{Ok, Result}
use mathlib.Core.Path.{◌≡◌, refl, ap, sym, ◌∙◌, subst}
use mathlib.Core.Bool.{Bool, true, false}
use mathlib.Core.List.{List, [], ◌∷◌, ◌++◌}
use mathlib.Core.Logic.{◌⊎◌, inl, inr, ⊎_elim}
use Prim.Native.Nat.{ℕ, ◌+◌, ◌≤◌, ◌<◌}
use native.Mathlib.Omega.{arith}
use lib.Dec.{ltb}
use borrow.Author.Tests.{ltb-true, ltb-false, le-ltb}
use Rattle.interface_display.specs.declared.Display.{Display}
use Rattle.interface_display.specs.declared.packet.EventPacket.{EventPacket}
use Rattle.interface_display.specs.declared.packet.Packet.{Packet}
use Rattle.interface_display.specs.declared.packet.Picture.{Picture}
use Rattle.wire.specs.Bytes.{packet_bytes}
use Rattle.wire.specs.Read.{read_packet}
use Rattle.desk_follower.specs.Follower.{fresh, taken, taken_at}
use Rattle.desk_follower.specs.WellFormed.{WellFormedAt}
use Rattle.desk_follower.specs.declared.Follower.{Follower}
use Rattle.desk_follower.specs.declared.Shown.{Shown}
use Rattle.desk_follower.specs.declared.held.Held.{Held}
use Rattle.desk_follower.proofs.Kept.{fresh_kept}
use Rattle.promise_link.specs.Link.{follower_after, EventsCome, NoneAbove, NoLower, Demand3}
use Rattle.promise_link.specs.Source.{Source}
use Rattle.promise_link.specs.Takes.{taken_read, take_bytes, takes_bytes, Carried, copy, turned_back, AllCarried, Met, FollowerLost, FollowerShows}
use Rattle.promise_link.proofs.Places.{Has, has_bounds}
use Rattle.promise_link.proofs.Turns.{GoodAt, ShownFrom}
use Rattle.promise_link.proofs.OneTake.{Kept, event-stays, picture-stays}
use Rattle.promise_link.proofs.Lists.{read_back, not_refused, one_packet, kept_same, all_kept, one_kept, Or}

-- lists

takes_on_lem : (f : Follower) (l m : List (List ℕ)) → takes_bytes f (l ++ m) ≡ takes_bytes (takes_bytes f l) m
takes_on_lem f [] m = refl
takes_on_lem f (b ∷ l) m = takes_on_lem (take_bytes f b) l m

met_left : (p : Packet) (l m : List (List ℕ)) → Met p l → Met p (l ++ m)
met_left p [] m q = elim q [ ]
met_left p (b ∷ l) m q = ⊎_elim (λ r. inl r) (λ z. inr (met_left p l m z)) q

met_right : (p : Packet) (l m : List (List ℕ)) → Met p m → Met p (l ++ m)
met_right p [] m q = q
met_right p (b ∷ l) m q = inr (met_right p l m q)

module _ (source : Source) where
  handed_left : (l m : List (List ℕ)) → AllCarried source (l ++ m) → AllCarried source l
  handed_left [] m h = tt
  handed_left (b ∷ l) m h = (h.0, handed_left l m h.1)

  handed_right : (l m : List (List ℕ)) → AllCarried source (l ++ m) → AllCarried source m
  handed_right [] m h = h
  handed_right (b ∷ l) m h = handed_right l m h.1

  -- what is met was written
  met_copy : (p : Packet) (b : List ℕ) → Carried source b → read_packet b ≡ Ok p → source.Written p
  met_copy p b (copy q w e) r = subst (λ z. source.Written z) (one_packet (read_back source q b w e) r) w
  met_copy p b (turned_back n e) r = absurd (not_refused r e)

  met_written : (p : Packet) (l : List (List ℕ)) → AllCarried source l → Met p l → source.Written p
  met_written p [] h q = elim q [ ]
  met_written p (b ∷ l) h q = ⊎_elim (λ r. met_copy p b h.0 r) (λ m. met_written p l h.1 m) q

  -- after a list of takes from a fresh follower
  abbrev In : List (List ℕ) → EventPacket → Type 0
  In l e = Met (Packet.Event e) l

  fresh_good : Kept source (λ e. ⊥) fresh
  fresh_good = record { formed = fresh_kept; good = (λ e k. absurd k, inl refl) }

  kept_after : (l : List (List ℕ)) → AllCarried source l → Kept source (In l) (follower_after l)
  kept_after l h =
      kept_same source (Or (λ e. ⊥) l) (In l) (λ e q. ⊎_elim (λ z. absurd z) (λ m. m) q) (λ e q. inr q) (takes_bytes fresh l)
      (all_kept source (λ e. ⊥) fresh l h fresh_good)

  -- (a)

  shown_right : (f : Follower) (S : EventPacket → Type 0) (x : Shown) (h : Held) → f.shown ≡ x → GoodAt source S x h → FollowerLost f ⊎ ((n : ℕ) × source.Closed n × FollowerShows f n (source.held n))
  shown_right f S (Shown.Lost floor) h e g = inl (floor, e)
  shown_right f S (Shown.Picture s) h e g = inr (s.number, g.3, e ∙ ap (λ (d : Display). Shown.Picture (record { number = s.number; display = d })) g.0)

  demand_a : (l : List (List ℕ)) → AllCarried source l → FollowerLost (follower_after l) ⊎ ((n : ℕ) × source.Closed n × FollowerShows (follower_after l) n (source.held n))
  demand_a l h =
      let f = follower_after l in
      shown_right f (In l) f.shown f.held refl (kept_after l h).good

  -- (c)

  picture_after : (l : List (List ℕ)) (p : Picture) → source.Written (Packet.Picture p) →
      follower_after (l ++ (packet_bytes (Packet.Picture p) ∷ [])) ≡ taken (follower_after l) (Packet.Picture p)
  picture_after l p w =
      takes_on_lem fresh l (packet_bytes (Packet.Picture p) ∷ [])
      ∙ ap (taken_read (follower_after l)) (read_back source (Packet.Picture p) (packet_bytes (Packet.Picture p)) w refl)

  lost_shows : (floor : ℕ) (h : Held) (p : Picture) → floor ≤ p.number → (taken_at (Shown.Lost floor) h (Packet.Picture p)).shown ≡ Shown.Picture p
  lost_shows floor h p l = rw (le-ltb p.number floor l)

  abbrev IsLost : Shown → Type 0
  IsLost (Shown.Lost floor) = Unit {0}
  IsLost (Shown.Picture s) = ⊥

  lost_only : (floor : ℕ) (h : Held) (p q : Picture) → (taken_at (Shown.Lost floor) h (Packet.Picture p)).shown ≡ Shown.Picture q → floor ≤ p.number
  lost_only floor h p q e = go (ltb p.number floor) refl
    where
      go : (t : Bool) → ltb p.number floor ≡ t → floor ≤ p.number
      go true t =
          let x : (taken_at (Shown.Lost floor) h (Packet.Picture p)).shown ≡ Shown.Lost floor = rw t in
          absurd (subst IsLost (sym x ∙ e) tt)
      go false t = ltb-false p.number floor t

  no_lower : (S : EventPacket → Type 0) (floor n : ℕ) (h : Held) → GoodAt source S (Shown.Lost floor) h → ((e : EventPacket) → S e → e.number ≤ n) → floor ≤ n
  no_lower S floor n h g k = ⊎_elim (λ z. omega (arith, z)) (λ q. omega (arith, k q.0 q.1, q.2)) g.1

  demand_c : (l : List (List ℕ)) (p : Picture) → AllCarried source l → source.Written (Packet.Picture p) → FollowerLost (follower_after l) →
      (NoLower p.number l → FollowerShows (follower_after (l ++ (packet_bytes (Packet.Picture p) ∷ []))) p.number p.display)
      × (FollowerShows (follower_after (l ++ (packet_bytes (Packet.Picture p) ∷ []))) p.number p.display → NoLower p.number l)
  demand_c l p h w lost = (
    λ k. ap (λ (f : Follower). f.shown) (picture_after l p w) ∙ (at-lost ∙ lost_shows lost.0 (follower_after l).held p (no_lower (In l) lost.0 p.number (follower_after l).held good k)),
    λ s e m.
        let y : (taken_at (Shown.Lost lost.0) (follower_after l).held (Packet.Picture p)).shown ≡ Shown.Picture p = sym at-lost ∙ (sym (ap (λ (f : Follower). f.shown) (picture_after l p w)) ∙ s) in
        omega (arith, good.0 e m, lost_only lost.0 (follower_after l).held p p y),
  )
    where
      good : GoodAt source (In l) (Shown.Lost lost.0) (follower_after l).held
      good = subst (λ x. GoodAt source (In l) x (follower_after l).held) lost.1 (kept_after l h).good

      at-lost : (taken (follower_after l) (Packet.Picture p)).shown ≡ (taken_at (Shown.Lost lost.0) (follower_after l).held (Packet.Picture p)).shown
      at-lost = ap (λ (x : Shown). (taken_at x (follower_after l).held (Packet.Picture p)).shown) lost.1

  -- (d)

  lost_stays : (floor : ℕ) (h : Held) (p : Picture) → (floor ≤ p.number → ⊥) → (taken_at (Shown.Lost floor) h (Packet.Picture p)).shown ≡ Shown.Lost floor
  lost_stays floor h p k = go (ltb p.number floor) refl
    where
      go : (t : Bool) → ltb p.number floor ≡ t → (taken_at (Shown.Lost floor) h (Packet.Picture p)).shown ≡ Shown.Lost floor
      go true t = rw t
      go false t = absurd (k (ltb-false p.number floor t))

  demand_d : (l : List (List ℕ)) (b : List ℕ) → AllCarried source l → Carried source b → FollowerLost (follower_after l) →
      ((p : Picture) → read_packet b ≡ Ok (Packet.Picture p) → NoLower p.number l → ⊥) → FollowerLost (follower_after (l ++ (b ∷ [])))
  demand_d l b h g lost k = subst FollowerLost (sym (takes_on_lem fresh l (b ∷ []))) (go g)
    where
      f : Follower
      f = follower_after l

      good : GoodAt source (In l) (Shown.Lost lost.0) f.held
      good = subst (λ x. GoodAt source (In l) x f.held) lost.1 (kept_after l h).good

      go : Carried source b → FollowerLost (take_bytes f b)
      go (turned_back n e) = subst (λ (x : Result Packet ℕ). FollowerLost (taken_read f x)) (sym e) lost
      go (copy (Packet.Event y) w e) =
          subst (λ (x : Result Packet ℕ). FollowerLost (taken_read f x)) (sym (read_back source (Packet.Event y) b w e))
          (subst (λ (x : Shown). FollowerLost (taken_at x f.held (Packet.Event y))) (sym lost.1) (_, refl))
      go (copy (Packet.Picture y) w e) =
          let r = read_back source (Packet.Picture y) b w e in
          subst (λ (x : Result Packet ℕ). FollowerLost (taken_read f x)) (sym r)
          (subst (λ (x : Shown). FollowerLost (taken_at x f.held (Packet.Picture y))) (sym lost.1)
          (lost.0, lost_stays lost.0 f.held y (λ q. k y r (λ v m. omega (arith, good.0 v m, q)))))

  -- (b)

  module _ (most n : ℕ) (All : EventPacket → Type 0) (near : most ≤ n + 8) (bounded : (e : EventPacket) → All e → e.number ≤ most)
      (fine : (e : EventPacket) → source.Written (Packet.Event e) → n < e.number → e.number ≤ most → e.answer ≡ 0) where
    -- one take: shown stays shown
    one-stays : (S : EventPacket → Type 0) → ((e : EventPacket) → S e → All e) → (f : Follower) (b : List ℕ) → Carried source b →
        ((e : EventPacket) → read_packet b ≡ Ok (Packet.Event e) → All e) →
        ((p : Picture) → read_packet b ≡ Ok (Packet.Picture p) → p.number ≤ most) →
        Kept source S f → ShownFrom most n f.shown → ShownFrom most n (take_bytes f b).shown
    one-stays S among f b (turned_back m e) ev pi k t = subst (λ x. ShownFrom most n (taken_read f x).shown) (sym e) t
    one-stays S among f b (copy (Packet.Event y) w e) ev pi k t =
        let r : read_packet b ≡ Ok (Packet.Event y) = read_back source (Packet.Event y) b w e in
        subst (λ x. ShownFrom most n (taken_read f x).shown) (sym r)
        (event-stays most n source All near bounded fine S among f y k t w (ev y r))
    one-stays S among f b (copy (Packet.Picture y) w e) ev pi k t =
        let r : read_packet b ≡ Ok (Packet.Picture y) = read_back source (Packet.Picture y) b w e in
        subst (λ x. ShownFrom most n (taken_read f x).shown) (sym r)
        (picture-stays most n source All near bounded fine S among f y k t (pi y r))

    all_stay : (S : EventPacket → Type 0) → ((e : EventPacket) → S e → All e) → (f : Follower) (l : List (List ℕ)) → AllCarried source l →
        ((e : EventPacket) → Met (Packet.Event e) l → All e) →
        ((p : Picture) → Met (Packet.Picture p) l → p.number ≤ most) →
        Kept source S f → ShownFrom most n f.shown → ShownFrom most n (takes_bytes f l).shown
    all_stay S among f [] h ev pi k t = t
    all_stay S among f (b ∷ l) h ev pi k t =
        all_stay (Or S (b ∷ [])) (λ e q. ⊎_elim (λ s. among e s) (λ m. ⊎_elim (λ r. ev e (inl r)) (λ z. absurd z) m) q) (take_bytes f b) l h.1
        (λ e m. ev e (inr m)) (λ p m. pi p (inr m)) (one_kept source S f b h.0 k)
        (one-stays S among f b h.0 (λ e r. ev e (inl r)) (λ p r. pi p (inl r)) k t)

  -- at the end the greatest is shown: the next one was met, so it would be held
  at_greatest : (f : Follower) (S : EventPacket → Type 0) (n most : ℕ) (x : Shown) → f.shown ≡ x → WellFormedAt x f.held → GoodAt source S x f.held →
      ShownFrom most n x → ((j : ℕ) → n < j → j ≤ most → (e : EventPacket) × S e × (e.number ≡ j)) → FollowerShows f most (source.held most)
  at_greatest f S n most (Shown.Lost floor) e w g t c = absurd t
  at_greatest f S n most (Shown.Picture s) e w g t c = go (ltb s.number most) refl
    where
      go : (b : Bool) → ltb s.number most ≡ b → FollowerShows f most (source.held most)
      go true q =
          let l : s.number < most = ltb-true _ _ q in
          let y = c (s.number + 1) (omega (arith, t.0)) (omega (arith, l)) in
          let has : Has f.held y.0.number = g.2 y.0 y.1 (omega (arith, y.2)) in
          absurd (omega (arith, (has_bounds (s.number + 2) (s.number + 8) f.held y.0.number (omega (arith, y.2)) w.1 has).0, y.2))
      go false q =
          let m : s.number ≡ most = omega (arith, ltb-false s.number most q, t.1) in
          e ∙ (ap (λ (d : Display). Shown.Picture (record { number = s.number; display = d })) g.0
          ∙ ap (λ (z : ℕ). Shown.Picture (record { number = z; display = source.held z })) m)

  demand_b : (before later : List (List ℕ)) (n k : ℕ) (d : Display) → AllCarried source (before ++ later) → FollowerShows (follower_after before) n d → k ≤ 8 →
      EventsCome n k later → NoneAbove (n + k) (before ++ later) → FollowerShows (follower_after (before ++ later)) (n + k) (source.held (n + k))
  demand_b before later n k d h s le comes above =
      at_greatest f (In (before ++ later)) n (n + k) f.shown refl kept.formed kept.good shown
      (λ j l m. let y = comes j l m in (y.0, met_right (Packet.Event y.0) before later y.1, y.2))
    where
      f : Follower
      f = follower_after (before ++ later)

      kept : Kept source (In (before ++ later)) (follower_after (before ++ later))
      kept = kept_after (before ++ later) h

      fine : (e : EventPacket) → source.Written (Packet.Event e) → n < e.number → e.number ≤ n + k → e.answer ≡ 0
      fine e w l m =
          let y = comes e.number l m in
          let z : y.0 ≡ e = source.one y.0 e (met_written (Packet.Event y.0) later (handed_right before later h) y.1) w y.2 in
          ap (λ (x : EventPacket). x.answer) (sym z) ∙ y.3

      start : ShownFrom (n + k) n (follower_after before).shown
      start = subst (λ x. ShownFrom (n + k) n x) (sym s) (omega arith, omega arith)

      shown : ShownFrom (n + k) n (follower_after (before ++ later)).shown
      shown =
          subst (λ (x : Follower). ShownFrom (n + k) n x.shown) (sym (takes_on_lem fresh before later))
          (all_stay (n + k) n (In (before ++ later)) (omega (arith, le)) (λ e m. above (Packet.Event e) m) fine
          (In before) (λ e m. met_left (Packet.Event e) before later m) (follower_after before) later (handed_right before later h)
          (λ e m. met_right (Packet.Event e) before later m) (λ p m. above (Packet.Picture p) (met_right (Packet.Picture p) before later m))
          (kept_after before (handed_left before later h)) start)

  fresh_lost : FollowerLost (follower_after [])
  fresh_lost = (0, refl)

  pub demand_3 : Demand3 source
  demand_3 = record { fresh_lost = fresh_lost; a = demand_a; b = demand_b; c = demand_c; d = demand_d }
