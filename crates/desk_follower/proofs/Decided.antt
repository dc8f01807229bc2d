-- Well formed is decided by a test: place by place, by equations and orders of numbers.
-- Assumes nothing.
use mathlib.Core.Path.{◌≡◌, refl, ap, sym, ◌∙◌}
use mathlib.Core.Bool.{Bool, true, false, ◌&&◌}
use mathlib.Core.List.{List}
use mathlib.Core.Logic.{inl, inr, ⊎_elim}
use Prim.Native.Nat.{ℕ, zero, suc, ◌+◌, ◌%◌, ◌<◌}
use native.Mathlib.Omega.{arith}
use lib.Dec.{eqb, leb, ltb}
use lib.ListN.{length, replicate, take}
use lib.Seq.{ext_get_or}
use borrow.Author.Tests.{eqb-true, leb-true, eq-eqb, le-leb, ltb-true, ltb-false}
use Rattle.std.proofs.lemmas.Bool.{or_cases, or_right}
use Rattle.power_policy_interface.specs.Limits.{largest}
use Rattle.std.proofs.lemmas.Bool.{and_parts, or_cases, or_right}
use Rattle.interface_display.specs.Notices.{places, empty, padded}
use Rattle.interface_display.specs.declared.notices.Notices.{Notices}
use Rattle.interface_display.specs.declared.packet.EventPacket.{EventPacket}
use Rattle.interface_display.proofs.Four.{one_value}
use Rattle.desk_follower.specs.Held.{none, nothing, packet_at}
use Rattle.desk_follower.specs.WellFormed.{InPlace, WellFormedAt, WellFormed, no_notices, is_none, in_place, all_places, well_formed_at, well_formed}
use Rattle.desk_follower.specs.declared.Follower.{Follower}
use Rattle.desk_follower.specs.declared.Shown.{Shown}
use Rattle.desk_follower.specs.declared.held.Held.{Held}
use Rattle.desk_follower.proofs.Kept.{none_at}

zero_notices : (n : Notices) → no_notices n ≡ true → n ≡ empty
zero_notices n e =
    let a = and_parts (eqb n.count 0) (padded n) e in
    let z : n.count ≡ 0 = eqb-true n.count 0 a.0 in
    one_value n empty a.1 refl (ap (λ (k : ℕ). take k (places n)) z)

none_true : (p : EventPacket) → is_none p ≡ true → p ≡ none
none_true p e =
    let a = and_parts (eqb p.number 0) (eqb p.answer 0 && (eqb p.orders 0 && no_notices p.notices)) e in
    let b = and_parts (eqb p.answer 0) (eqb p.orders 0 && no_notices p.notices) a.1 in
    let c = and_parts (eqb p.orders 0) (no_notices p.notices) b.1 in
    let x : p.number ≡ 0 = eqb-true p.number 0 a.0 in
    let y : p.answer ≡ 0 = eqb-true p.answer 0 b.0 in
    let z : p.orders ≡ 0 = eqb-true p.orders 0 c.0 in
    let w : p.notices ≡ empty = zero_notices p.notices c.1 in
    λ i. record { number = x i; answer = y i; orders = z i; notices = w i }

true_none : (p : EventPacket) → p ≡ none → is_none p ≡ true
true_none p e = ap is_none e

place_true : (lo hi i : ℕ) (p : EventPacket) → in_place lo hi i p ≡ true → InPlace lo hi i p
place_true lo hi i p e =
    ⊎_elim (λ x. inl (none_true p x))
    (λ x.
    let a = and_parts (leb lo p.number) _ x in
    let b = and_parts (leb p.number hi) _ a.1 in
    let c = and_parts (leb p.number largest) _ b.1 in
    let d = and_parts (eqb (p.number % 8) i) (padded p.notices) c.1 in
    inr (leb-true _ _ a.0, leb-true _ _ b.0, leb-true _ _ c.0, eqb-true _ _ d.0, d.1))
    (or_cases (is_none p) _ e)

true_place : (lo hi i : ℕ) (p : EventPacket) → InPlace lo hi i p → in_place lo hi i p ≡ true
true_place lo hi i p (inl e) = rw (true_none p e)
true_place lo hi i p (inr q) =
    or_right (is_none p) _
    (rw (le-leb _ _ q.0, le-leb _ _ q.1, le-leb _ _ q.2, eq-eqb _ _ q.3, q.4))

-- a test at each place
all_tested : (t : ℕ → EventPacket → Bool) (k : ℕ) (h : Held) (i : ℕ) (b : Bool) → ltb i k ≡ b → i < suc k
    → (i < k → t i (packet_at h i) ≡ true) → t k (packet_at h k) ≡ true → t i (packet_at h i) ≡ true
all_tested t k h i true b l r e = r (ltb-true i k b)
all_tested t k h i false b l r e =
    let q : i ≡ k = omega (arith, ltb-false i k b) in
    ap (λ (j : ℕ). t j (packet_at h j)) q ∙ e

pub all_true : (t : ℕ → EventPacket → Bool) (k : ℕ) (h : Held) → all_places t k h ≡ true → (i : ℕ) → i < k → t i (packet_at h i) ≡ true
unfolding all_places
all_true t zero h e i l = absurd (omega arith)
all_true t (suc k) h e i l =
    let a = and_parts (all_places t k h) (t k (packet_at h k)) e in
    all_tested t k h i (ltb i k) refl l (all_true t k h a.0 i) a.1

pub true_all : (t : ℕ → EventPacket → Bool) (k : ℕ) (h : Held) → ((i : ℕ) → i < k → t i (packet_at h i) ≡ true) → all_places t k h ≡ true
unfolding all_places
true_all t zero h f = refl
true_all t (suc k) h f = rw (true_all t k h (λ i l. f i (omega arith)), f k (omega arith))

-- eight places with no packet are nothing held
no_packets : (h : Held) → length h.packets ≡ 8 → ((i : ℕ) → i < 8 → packet_at h i ≡ none) → h ≡ nothing
no_packets h e f =
    ap (λ (l : List EventPacket). record { packets = l })
    (ext_get_or none h.packets (replicate 8 none) e (λ i l. f i (omega (arith, e)) ∙ sym (none_at 8 i)))

formed_at : (x : Shown) (h : Held) → well_formed_at x h ≡ true → WellFormedAt x h
formed_at (Shown.Lost floor) h e =
    let a = and_parts (leb floor largest) (eqb (length h.packets) 8 && all_places (λ i p. is_none p) 8 h) e in
    let b = and_parts (eqb (length h.packets) 8) (all_places (λ i p. is_none p) 8 h) a.1 in (
      leb-true _ _ a.0,
      no_packets h (eqb-true _ _ b.0) (λ i l. none_true (packet_at h i) (all_true (λ j p. is_none p) 8 h b.1 i l)),
    )
formed_at (Shown.Picture s) h e =
    let a = and_parts (leb s.number largest) (eqb (length h.packets) 8 && all_places (in_place (s.number + 2) (s.number + 8)) 8 h) e in
    let b = and_parts (eqb (length h.packets) 8) (all_places (in_place (s.number + 2) (s.number + 8)) 8 h) a.1 in (
      leb-true _ _ a.0,
      (
        eqb-true _ _ b.0,
        λ i l.
            place_true (s.number + 2) (s.number + 8) i (packet_at h i) (all_true (in_place (s.number + 2) (s.number + 8)) 8 h b.1 i l),
      ),
    )

at_formed : (x : Shown) (h : Held) → WellFormedAt x h → well_formed_at x h ≡ true
at_formed (Shown.Lost floor) h w =
    let a : eqb (length h.packets) 8 ≡ true = ap (λ (g : Held). eqb (length g.packets) 8) w.1 in
    let b : all_places (λ i p. is_none p) 8 h ≡ true =
    true_all (λ i p. is_none p) 8 h (λ i l. true_none (packet_at h i) (ap (λ (g : Held). packet_at g i) w.1 ∙ none_at 8 i)) in
    rw (le-leb _ _ w.0, a) b
at_formed (Shown.Picture s) h w =
    let b = true_all (in_place (s.number + 2) (s.number + 8)) 8 h
    (λ i l. true_place (s.number + 2) (s.number + 8) i (packet_at h i) (w.1.1 i l)) in
    rw (le-leb _ _ w.0, eq-eqb _ _ w.1.0) b

pub decided : (f : Follower) → well_formed f ≡ true → WellFormed f
decided f e = formed_at f.shown f.held e

pub decides : (f : Follower) → WellFormed f → well_formed f ≡ true
decides f w = at_formed f.shown f.held w
