-- The abstract follower's list of held packets and the ring's, number by number: a packet held with others stands where the ring's place for it is read, and
-- those above a picture's number are those that the ring keeps.
use mathlib.Core.Path.{◌≡◌, refl, ap, sym, ◌∙◌, subst}
use mathlib.Core.Bool.{Bool, true, false, cond}
use mathlib.Core.List.{List, [], ◌∷◌, ◌++◌}
use mathlib.Core.Logic.{⊎_elim}
use Prim.Native.Nat.{ℕ, zero, suc, ◌+◌, ◌-◌, ◌%◌, ◌≤◌, ◌<◌, max}
use native.Mathlib.Nat.{le-max_left, le-max_right, max-le, max-eq_right}
use native.Mathlib.Omega.{arith}
use lib.Dec.{eqb, ltb}
use lib.ListN.{length}
use borrow.Author.Tests.{eqb-true, eqb-false, eq-eqb, ne_eqb, ltb-true, ltb-false, lt-ltb, le-ltb}
use Rattle.interface_display.specs.declared.packet.EventPacket.{EventPacket}
use Rattle.abstract_desk.specs.Follower as paper
use Rattle.desk_follower.specs.Held.{packet_at, held_for, holds, placed, greatest, above}
use Rattle.desk_follower.specs.WellFormed.{Within}
use Rattle.desk_follower.specs.declared.held.Held.{Held}
use Rattle.desk_follower.proofs.Kept.{mod8, seen, picture_within}
use Rattle.desk_follower.proofs.Laws.{greatest_base, greatest_held, greatest_le, above_stays}
use Rattle.promise_link.specs.Alike.{one, held_from}
use Rattle.promise_link.proofs.Places.{Has}
use Rattle.promise_link.proofs.Ring.{one_held, one_none, one_same, one_beyond, one_below, short, skip, one_there, one_here, after_here}

-- a packet held with others

module _ (e : EventPacket) (h : Held) where
  -- before them all
  front : (m k : ℕ) → e.number < m → paper.held_with e (held_from h m k) ≡ e ∷ held_from h m k
  unfolding held_from
  front m zero l = refl
  front m (suc k) l = go (holds h m) refl (front (m + 1) k (omega arith))
    where
      go : (t : Bool) → holds h m ≡ t → paper.held_with e (held_from h (m + 1) k) ≡ e ∷ held_from h (m + 1) k →
          paper.held_with e (cond t (held_for h m ∷ []) [] ++ held_from h (m + 1) k) ≡ e ∷ (cond t (held_for h m ∷ []) [] ++ held_from h (m + 1) k)
      go true t r =
          let x : (held_for h m).number ≡ m = eqb-true _ _ t in
          rw (lt-ltb e.number (held_for h m).number (omega arith))
      go false t r = r

  -- behind one that is lower
  past : (m : ℕ) (l : List EventPacket) → m < e.number → one h m ++ paper.held_with e l ≡ paper.held_with e (one h m ++ l)
  past m l u = go (holds h m) refl
    where
      go : (t : Bool) → holds h m ≡ t → cond t (held_for h m ∷ []) [] ++ paper.held_with e l ≡ paper.held_with e (cond t (held_for h m ∷ []) [] ++ l)
      go true t =
          let x : (held_for h m).number ≡ m = eqb-true _ _ t in
          let a : (held_for h m).number ≤ e.number = omega arith in
          let b : e.number ≡ (held_for h m).number → ⊥ = λ q. absurd (omega arith) in
          rw (le-ltb e.number (held_for h m).number a, ne_eqb e.number (held_for h m).number b)
      go false t = refl

  -- held already: it is not held again
  pub held_again : Has h e.number → (k m : ℕ) → m ≤ e.number → e.number < m + k → paper.held_with e (held_from h m k) ≡ held_from h m k
  unfolding held_from
  held_again has zero m l u = absurd (omega arith)
  held_again has (suc k) m l u = go (eqb m e.number) refl (λ z. held_again has k (m + 1) (omega arith) (omega arith))
    where
      go : (t : Bool) → eqb m e.number ≡ t → (m < e.number → paper.held_with e (held_from h (m + 1) k) ≡ held_from h (m + 1) k) →
          paper.held_with e (one h m ++ held_from h (m + 1) k) ≡ one h m ++ held_from h (m + 1) k
      go true t r =
          let q : m ≡ e.number = eqb-true _ _ t in
          let x : (held_for h m).number ≡ m = subst (Has h) (sym q) has in
          let a : (held_for h m).number ≤ e.number = omega arith in
          let b : e.number ≡ (held_for h m).number = omega arith in
          subst (λ (z : List EventPacket). paper.held_with e (z ++ held_from h (m + 1) k) ≡ z ++ held_from h (m + 1) k) (sym (one_held h m x))
          (rw (le-ltb e.number (held_for h m).number a, eq-eqb e.number (held_for h m).number b))
      go false t r =
          let d : m ≡ e.number → ⊥ = eqb-false _ _ t in
          let z : m < e.number = omega (arith, d) in
          sym (past m (held_from h (m + 1) k) z) ∙ ap (λ (x : List EventPacket). one h m ++ x) (r z)

  module _ (n : ℕ) (le : n < e.number) (he : e.number ≤ n + 8) (len : length h.packets ≡ 8) (new : Has h e.number → ⊥) where
    -- not held yet: put into the ring, it stands in the list
    pub put-from : (k m : ℕ) → n < m → m + k ≤ n + 9 → m ≤ e.number → e.number < m + k → held_from (placed h e) m k ≡ paper.held_with e (held_from h m k)
    unfolding held_from
    put-from zero m lm hm l u = absurd (omega arith)
    put-from (suc k) m lm hm l u = go (eqb m e.number) refl (λ z. put-from k (m + 1) (omega arith) (omega arith) (omega arith) (omega arith))
      where
        go : (t : Bool) → eqb m e.number ≡ t → (m < e.number → held_from (placed h e) (m + 1) k ≡ paper.held_with e (held_from h (m + 1) k)) →
            one (placed h e) m ++ held_from (placed h e) (m + 1) k ≡ paper.held_with e (one h m ++ held_from h (m + 1) k)
        go true t r =
            let q : m ≡ e.number = eqb-true _ _ t in
            let a : one (placed h e) m ≡ e ∷ [] = subst (λ (z : ℕ). one (placed h e) z ≡ e ∷ []) (sym q) (one_here n h e le he len) in
            let b : one h m ≡ [] = subst (λ (z : ℕ). one h z ≡ []) (sym q) (one_none h e.number new) in
            let c : held_from (placed h e) (m + 1) k ≡ held_from h (m + 1) k = after_here n h e le he (m + 1) k (omega arith) (omega arith) in
            ap (λ (x : List EventPacket). x ++ held_from (placed h e) (m + 1) k) a
            ∙ (ap (λ (x : List EventPacket). e ∷ x) c
            ∙ (sym (front (m + 1) k (omega arith))
            ∙ ap (λ (x : List EventPacket). paper.held_with e (x ++ held_from h (m + 1) k)) (sym b)))
        go false t r =
            let d : m ≡ e.number → ⊥ = eqb-false _ _ t in
            let z : m < e.number = omega (arith, d) in
            ap (λ (x : List EventPacket). x ++ held_from (placed h e) (m + 1) k) (one_there n h e le he m lm (omega arith) d)
            ∙ (ap (λ (x : List EventPacket). one h m ++ x) (r z) ∙ past m (held_from h (m + 1) k) z)

-- the greatest number

module _ (m : ℕ) where
  base : (l : List EventPacket) → m ≤ paper.greatest m l
  base [] = omega arith
  base (e ∷ l) = omega (arith, base l, le-max_right e.number (paper.greatest m l))

  more : (l r : List EventPacket) (x : ℕ) → x ≤ paper.greatest m r → x ≤ paper.greatest m (l ++ r)
  more [] r x z = z
  more (e ∷ l) r x z = omega (arith, more l r x z, le-max_right e.number (paper.greatest m (l ++ r)))

  module _ (h : Held) where
    low : (k a : ℕ) → paper.greatest m (held_from h a k) ≤ greatest m 8 h
    unfolding held_from
    low zero a = greatest_base m 8 h
    low (suc k) a = go (holds h a) (low k (a + 1))
      where
        go : (t : Bool) → paper.greatest m (held_from h (a + 1) k) ≤ greatest m 8 h →
            paper.greatest m (cond t (held_for h a ∷ []) [] ++ held_from h (a + 1) k) ≤ greatest m 8 h
        go true r = max-le (greatest_held m 8 h (a % 8) (mod8 a)) r
        go false r = r

    -- what is held is no greater
    pub held-least : (x : ℕ) → Has h x → (k a : ℕ) → a ≤ x → x < a + k → x ≤ paper.greatest m (held_from h a k)
    unfolding held_from
    held-least x has zero a l u = absurd (omega arith)
    held-least x has (suc k) a l u = go (eqb a x) refl (λ z. held-least x has k (a + 1) (omega arith) (omega arith))
      where
        go : (t : Bool) → eqb a x ≡ t → (a < x → x ≤ paper.greatest m (held_from h (a + 1) k)) → x ≤ paper.greatest m (one h a ++ held_from h (a + 1) k)
        go true t r =
            let q : a ≡ x = eqb-true _ _ t in
            let y : (held_for h a).number ≡ a = subst (Has h) (sym q) has in
            subst (λ (z : List EventPacket). x ≤ paper.greatest m (z ++ held_from h (a + 1) k)) (sym (one_held h a y))
            (omega (arith, q, y, le-max_left (held_for h a).number (paper.greatest m (held_from h (a + 1) k))))
        go false t r =
            let d : a ≡ x → ⊥ = eqb-false _ _ t in
            let z : a < x = omega (arith, d) in
            more (one h a) (held_from h (a + 1) k) x (r z)

    high : (lo hi a k : ℕ) → Within lo hi h → a ≤ lo → hi < a + k → greatest m 8 h ≤ paper.greatest m (held_from h a k)
    high lo hi a k w la lk = greatest_le m (paper.greatest m (held_from h a k)) 8 h (base (held_from h a k)) each
      where
        each : (i : ℕ) → i < 8 → (packet_at h i).number ≤ paper.greatest m (held_from h a k)
        each i l =
            ⊎_elim (λ e. let x : (packet_at h i).number ≡ 0 = ap (λ (p : EventPacket). p.number) e in omega (arith, x))
            (λ q.
            held-least (packet_at h i).number (ap (λ (j : ℕ). (packet_at h j).number) q.3) k a (omega (arith, q.0, la)) (omega (arith, q.1, lk)))
            (w.1 i l)

    pub greatest-is : (lo hi a k : ℕ) → Within lo hi h → a ≤ lo → hi < a + k → greatest m 8 h ≡ paper.greatest m (held_from h a k)
    greatest-is lo hi a k w la lk = omega (arith, high lo hi a k w la lk, low k a)

  -- what is dropped below m makes no difference
  pub greatest_above : (l : List EventPacket) → paper.greatest m (paper.above m l) ≡ paper.greatest m l
  greatest_above [] = refl
  greatest_above (e ∷ l) = go (ltb m e.number) refl (greatest_above l)
    where
      go : (t : Bool) → ltb m e.number ≡ t → paper.greatest m (paper.above m l) ≡ paper.greatest m l →
          paper.greatest m (cond t (e ∷ paper.above m l) (paper.above m l)) ≡ max e.number (paper.greatest m l)
      go true t r = ap (λ (x : ℕ). max e.number x) r
      go false t r = r ∙ sym (max-eq_right (omega (arith, base l, ltb-false m e.number t)))

-- those above a picture's number

above_on : (m : ℕ) (l r : List EventPacket) → paper.above m (l ++ r) ≡ paper.above m l ++ paper.above m r
above_on m [] r = refl
above_on m (e ∷ l) r = go (ltb m e.number) (above_on m l r)
  where
    go : (t : Bool) → paper.above m (l ++ r) ≡ paper.above m l ++ paper.above m r →
        cond t (e ∷ paper.above m (l ++ r)) (paper.above m (l ++ r)) ≡ cond t (e ∷ paper.above m l) (paper.above m l) ++ paper.above m r
    go true q = ap (λ (x : List EventPacket). e ∷ x) q
    go false q = q

module _ (m : ℕ) (h : Held) (len : length h.packets ≡ 8) where
  stay_one : (x : ℕ) → m < (held_for h x).number → paper.above m (one h x) ≡ one h x
  stay_one x l = go (holds h x)
    where
      go : (t : Bool) → paper.above m (cond t (held_for h x ∷ []) []) ≡ cond t (held_for h x ∷ []) []
      go true = rw (lt-ltb m (held_for h x).number l)
      go false = refl

  drop_one : (x : ℕ) → (held_for h x).number ≤ m → paper.above m (one h x) ≡ []
  drop_one x l = go (holds h x)
    where
      go : (t : Bool) → paper.above m (cond t (held_for h x ∷ []) []) ≡ []
      go true = rw (le-ltb m (held_for h x).number l)
      go false = refl

  gone : (x : ℕ) → 0 < x → (held_for h x).number ≤ m → Has (above m 8 h) x → ⊥
  gone x pos l has =
      ⊎_elim
      (λ e. let y : (held_for (above m 8 h) x).number ≡ 0 = ap (λ (p : EventPacket). p.number) e in absurd (omega (arith, pos, has, y)))
      (λ q.
      let y : (held_for (above m 8 h) x).number ≡ (held_for h x).number = ap (λ (p : EventPacket). p.number) q.0 in
      absurd (omega (arith, l, y, q.1 (mod8 x))))
      ((seen m 8 h len (omega arith)).1 (x % 8) (mod8 x))

  one_above : (x : ℕ) → 0 < x → one (above m 8 h) x ≡ paper.above m (one h x)
  one_above x pos = go (ltb m (held_for h x).number) refl
    where
      go : (t : Bool) → ltb m (held_for h x).number ≡ t → one (above m 8 h) x ≡ paper.above m (one h x)
      go true t =
          let l : m < (held_for h x).number = ltb-true _ _ t in
          one_same (above m 8 h) h x (above_stays m 8 h (x % 8) l) ∙ sym (stay_one x l)
      go false t =
          let l : (held_for h x).number ≤ m = ltb-false _ _ t in
          one_none (above m 8 h) x (gone x pos l) ∙ sym (drop_one x l)

  all_above : (k a : ℕ) → 0 < a → held_from (above m 8 h) a k ≡ paper.above m (held_from h a k)
  unfolding held_from
  all_above zero a pos = refl
  all_above (suc k) a pos =
      ap (λ (x : List EventPacket). x ++ held_from (above m 8 h) (a + 1) k) (one_above a pos)
      ∙ (ap (λ (x : List EventPacket). paper.above m (one h a) ++ x) (all_above k (a + 1) (omega arith))
      ∙ sym (above_on m (one h a) (held_from h (a + 1) k)))

pub above_from : (n m : ℕ) (h : Held) → n < m → Within (n + 2) (n + 8) h →
    held_from (above m 8 h) (m + 1) 8 ≡ paper.above m (held_from h (n + 2) 7)
above_from n m h l w =
    let j : ℕ = m - (n + 1) in
    let p : m + 1 ≡ n + 2 + j = omega arith in
    ap (λ (x : ℕ). held_from (above m 8 h) x 8) p
    ∙ (sym (skip (above m 8 h) j (j + 8) 8 (n + 2) refl (λ x lx ux. below x (omega arith) (omega arith)))
    ∙ (all_above m h w.0 (j + 8) (n + 2) (omega arith)
    ∙ ap (λ (x : List EventPacket). paper.above m x)
    (short h (j + 8) 7 (n + 2) (omega arith) (λ x lx. one_beyond (n + 2) (n + 8) h x w (omega arith)))))
  where
    below : (x : ℕ) → 0 < x → x < m + 1 → one (above m 8 h) x ≡ []
    below x pos u = one_below (m + 1) (m + 8) (above m 8 h) x (picture_within n m h l w) pos u
