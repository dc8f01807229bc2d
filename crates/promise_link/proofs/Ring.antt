-- The list of what the ring holds, event by event: two of eight numbers in a row have different places, so that putting a packet in or taking one away
-- changes the list at that number alone.
use mathlib.Core.Path.{◌≡◌, refl, ap, ◌∙◌}
use mathlib.Core.Bool.{cond}
use mathlib.Core.List.{List, [], ◌∷◌, ◌++◌}
use Prim.Native.Nat.{ℕ, zero, suc, ◌+◌, ◌≤◌, ◌<◌}
use native.Mathlib.Omega.{arith}
use lib.Dec.{eqb}
use lib.ListN.{length}
use borrow.Author.Tests.{eq-eqb, ne_eqb}
use Rattle.interface_display.specs.declared.packet.EventPacket.{EventPacket}
use Rattle.desk_follower.specs.Held.{held_for, placed, dropped}
use Rattle.desk_follower.specs.WellFormed.{Within}
use Rattle.desk_follower.specs.declared.held.Held.{Held}
use Rattle.desk_follower.proofs.Kept.{go_within}
use Rattle.promise_link.specs.Alike.{one, held_from}
use Rattle.promise_link.proofs.Places.{Has, has_bounds, placed_here, placed_there, dropped_there}

-- one event

pub one_held : (h : Held) (m : ℕ) → Has h m → one h m ≡ held_for h m ∷ []
one_held h m e = rw (eq-eqb _ _ e)

pub one_none : (h : Held) (m : ℕ) → (Has h m → ⊥) → one h m ≡ []
one_none h m z = rw (ne_eqb _ _ z)

pub one_same : (g h : Held) (m : ℕ) → held_for g m ≡ held_for h m → one g m ≡ one h m
one_same g h m e = ap (λ (p : EventPacket). cond (eqb p.number m) (p ∷ []) []) e

-- none outside the bounds
pub one_beyond : (lo hi : ℕ) (h : Held) (m : ℕ) → Within lo hi h → hi < m → one h m ≡ []
one_beyond lo hi h m w l = one_none h m (λ has. absurd (omega (arith, l, (has_bounds lo hi h m (omega (arith, l)) w has).1)))

pub one_below : (lo hi : ℕ) (h : Held) (m : ℕ) → Within lo hi h → 0 < m → m < lo → one h m ≡ []
one_below lo hi h m w p l = one_none h m (λ has. absurd (omega (arith, l, (has_bounds lo hi h m p w has).0)))

-- several

pub from_next : (h : Held) (m k : ℕ) → held_from h m (suc k) ≡ one h m ++ held_from h (m + 1) k
unfolding held_from
from_next h m k = refl

pub same_from : (g h : Held) (a k : ℕ) → ((m : ℕ) → a ≤ m → m < a + k → one g m ≡ one h m) → held_from g a k ≡ held_from h a k
unfolding held_from
same_from g h a zero f = refl
same_from g h a (suc k) f =
    ap (λ (l : List EventPacket). l ++ held_from g (a + 1) k) (f a (omega arith) (omega arith))
    ∙ ap (λ (l : List EventPacket). one h a ++ l) (same_from g h (a + 1) k (λ m l u. f m (omega arith) (omega arith)))

-- none past the first k of them
pub short : (h : Held) (c k a : ℕ) → k ≤ c → ((m : ℕ) → a + k ≤ m → one h m ≡ []) → held_from h a c ≡ held_from h a k
unfolding held_from
short h zero zero a l f = refl
short h zero (suc k) a l f = absurd (omega arith)
short h (suc c) zero a l f =
    ap (λ (x : List EventPacket). x ++ held_from h (a + 1) c) (f a (omega arith))
    ∙ short h c zero (a + 1) (omega arith) (λ m u. f m (omega arith))
short h (suc c) (suc k) a l f =
    ap (λ (x : List EventPacket). one h a ++ x) (short h c k (a + 1) (omega arith) (λ m u. f m (omega arith)))

-- none among the first j of them
pub skip : (h : Held) (j c k a : ℕ) → c ≡ j + k → ((m : ℕ) → a ≤ m → m < a + j → one h m ≡ []) → held_from h a c ≡ held_from h (a + j) k
unfolding held_from
skip h zero c k a e f =
    let p : c ≡ k = omega arith in
    let q : a ≡ a + 0 = omega arith in
    ap (λ (x : ℕ). held_from h a x) p ∙ ap (λ (x : ℕ). held_from h x k) q
skip h (suc j) zero k a e f = absurd (omega arith)
skip h (suc j) (suc c) k a e f =
    let q : a + 1 + j ≡ a + suc j = omega arith in
    ap (λ (x : List EventPacket). x ++ held_from h (a + 1) c) (f a (omega arith) (omega arith))
    ∙ (skip h j c k (a + 1) (omega arith) (λ m l u. f m (omega arith) (omega arith))
    ∙ ap (λ (x : ℕ). held_from h x k) q)

pub none_from : (lo hi : ℕ) (h : Held) (a k : ℕ) → Within lo hi h → hi < a → held_from h a k ≡ []
unfolding held_from
none_from lo hi h a k w l = short h k zero a (omega arith) (λ m u. one_beyond lo hi h m w (omega arith))

-- the next event is taken away
pub dropped_from : (n hi : ℕ) (h : Held) → hi ≤ n + 8 → Within (n + 1) hi h → held_from (dropped h (n + 1)) (n + 1 + 1) 8 ≡ held_from h (n + 1 + 1) 7
dropped_from n hi h lh w =
    short (dropped h (n + 1)) 8 7 (n + 1 + 1) (omega arith)
    (λ m l. one_beyond (n + 2) hi (dropped h (n + 1)) m (go_within n hi h w) (omega (arith, l, lh)))
    ∙ same_from (dropped h (n + 1)) h (n + 1 + 1) 7
    (λ m l u. one_same (dropped h (n + 1)) h m (dropped_there h n m (omega (arith, l)) (omega (arith, u))))

-- a packet is put in
module _ (n : ℕ) (h : Held) (e : EventPacket) (le : n < e.number) (he : e.number ≤ n + 8) where
  pub one_there : (m : ℕ) → n < m → m ≤ n + 8 → (m ≡ e.number → ⊥) → one (placed h e) m ≡ one h m
  one_there m lm hm d = one_same (placed h e) h m (placed_there h e n m lm hm le he d)

  pub one_here : length h.packets ≡ 8 → one (placed h e) e.number ≡ e ∷ []
  one_here len =
      let x : held_for (placed h e) e.number ≡ e = placed_here h e len in
      one_held (placed h e) e.number (ap (λ (p : EventPacket). p.number) x) ∙ ap (λ (p : EventPacket). p ∷ []) x

  pub after_here : (m k : ℕ) → e.number < m → m + k ≤ n + 9 → held_from (placed h e) m k ≡ held_from h m k
  after_here m k l u =
      same_from (placed h e) h m k
      (λ x lx ux. one_there x (omega (arith, le, l, lx)) (omega (arith, u, ux)) (λ q. absurd (omega (arith, q, l, lx))))
