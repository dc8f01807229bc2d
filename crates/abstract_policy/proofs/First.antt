-- The first condition that holds has the first number that applies, since those after it have later places. The lists of each call go by the order, whatever it is
-- given: their numbers are written out.
use Rattle.std.specs.Prelude.{Option}
use Prim.Native.Nat.{ℕ, suc, ◌+◌, ◌<◌, ◌≤◌}
use mathlib.Core.Bool.{Bool, true, false, cond}
use mathlib.Core.List.{List, [], ◌∷◌}
use mathlib.Core.Logic.{inl, inr, ⊎_elim, ◌↔◌}
use mathlib.Core.Path.{◌≡◌, refl, sym, ap, ◌∙◌, subst}
use native.Mathlib.Omega.{arith}
use lib.Dec.{ltb, eqb}
use lib.ListN.{length}
use borrow.Author.Tests.{ltb-true, eqb-true, eqb-false}
use Rattle.std.proofs.lemmas.Bool.{and_parts, both_ways}
use Rattle.abstract_policy.specs.declared.order.Order.{Order}
use Rattle.power_policy_service.specs.declared.config.Config.{Config}
use Rattle.abstract_policy.specs.Refusals.{first_refused, order, place_from, rank, ascends_from, Ascending, Applies, First, Base, Lowest, start_refusals, open_conditions, answer_conditions, packet_conditions, picture_conditions}

-- whatever applies has a place after where the list begins
above : (k : ℕ) (l : List (Bool × ℕ)) → ascends_from k l ≡ true → (m : ℕ) → Applies m l → k < rank m
above k [] a m h = absurd h
above k (r ∷ l) a m h =
    let p : k < rank r.1 = ltb-true k (rank r.1) (and_parts (ltb k (rank r.1)) (ascends_from (rank r.1) l) a).0 in
    let q : (j : ℕ) → Applies j l → rank r.1 < rank j =
    λ j i. above (rank r.1) l (and_parts (ltb k (rank r.1)) (ascends_from (rank r.1) l) a).1 j i in
    ⊎_elim (λ i. subst (λ (n : ℕ). k < rank n) i.1 p) (λ i. omega (arith, p, q m i)) h

first_from : (k : ℕ) (l : List (Bool × ℕ)) → ascends_from k l ≡ true → First l (first_refused l)
first_from k [] a = record { applies = λ d. absurd (d refl); before = λ m h. absurd h; none = λ e m h. h; no_other = λ f. refl }
first_from k (r ∷ l) a = go r.0 refl (first_from (rank r.1) l (and_parts (ltb k (rank r.1)) (ascends_from (rank r.1) l) a).1)
  where
    placed : k < rank r.1
    placed = ltb-true k (rank r.1) (and_parts (ltb k (rank r.1)) (ascends_from (rank r.1) l) a).0

    later : (m : ℕ) → Applies m l → rank r.1 < rank m
    later m h = above (rank r.1) l (and_parts (ltb k (rank r.1)) (ascends_from (rank r.1) l) a).1 m h

    -- 0 has no place
    some : r.1 ≡ 0 → ⊥
    some z = let q : rank r.1 ≡ 0 = ap rank z in omega (arith, q, placed)

    go : (b : Bool) → r.0 ≡ b → First l (first_refused l) → First (r ∷ l) (cond b r.1 (first_refused l))
    go true e rest = record {
      applies = λ d. inl (e, refl);
      before = λ m h. ⊎_elim (λ i. let q : rank r.1 ≡ rank m = ap rank i.1 in omega (arith, q)) (λ i. omega (arith, later m i)) h;
      none = λ z m h. absurd (some z);
      no_other = λ f. absurd (f r.1 (inl (e, refl)));
    }
    go false e rest = record {
      applies = λ d. inr (rest.applies d);
      before = λ m h. ⊎_elim (λ i. absurd (both_ways r.0 e i.0)) (λ i. rest.before m i) h;
      none = λ z m h. ⊎_elim (λ i. absurd (both_ways r.0 e i.0)) (λ i. rest.none z m i) h;
      no_other = λ f. rest.no_other (λ m h. f m (inr h));
    }

pub first : (l : List (Bool × ℕ)) → Ascending l → First l (first_refused l)
first l a = first_from 0 l a

-- REF-2: among the base's numbers the order is that of size

-- the numbers from a on
abbrev From : ℕ → List ℕ → Type 0
From a [] = Unit {0}
From a (x ∷ l) = (x ≡ a) × From (suc a) l

place_from_lem : (l : List ℕ) (k a n : ℕ) → From a l → a ≤ n → n < a + length l → place_from k l n + a ≡ n + k
place_from_lem [] k a n f lo hi = absurd (omega (arith, lo, hi))
place_from_lem (x ∷ l) k a n f lo hi = go (eqb x n) refl (λ lower upper. place_from_lem l (suc k) (suc a) n f.1 lower upper)
  where
    go : (t : Bool) → eqb x n ≡ t → (suc a ≤ n → n < suc a + length l → place_from (suc k) l n + suc a ≡ n + suc k) → cond t k (place_from (suc k) l n) + a ≡ n + k
    go true e i = let q : x ≡ n = eqb-true x n e in omega (arith, q, f.0)
    go false e i =
        let d : (n ≡ a → ⊥) = λ q. eqb-false x n e (f.0 ∙ sym q) in
        let lower : suc a ≤ n = omega (arith, lo, d) in
        let upper : n < suc a + length l = omega (arith, hi) in
        omega (arith, i lower upper)

base_rank : (n : ℕ) → Base n → rank n + 20 ≡ n + 1
base_rank n b =
    place_from_lem order 1 20 n (refl, (refl, (refl, (refl, (refl, (refl, (refl, (refl, (refl, (refl, (refl, (refl, (refl, (refl, (refl, tt))))))))))))))) b.least (omega (arith, b.most))

pub rank_size : (n m : ℕ) → Base n → Base m → (rank n ≤ rank m) ↔ (n ≤ m)
rank_size n m b c =
    let p : rank n + 20 ≡ n + 1 = base_rank n b in
    let q : rank m + 20 ≡ m + 1 = base_rank m c in
    (λ h. omega (arith, p, q, h), λ h. omega (arith, p, q, h))

-- where all that apply are the base's, the first is the lowest
pub base_lowest : (l : List (Bool × ℕ)) (n : ℕ) → ((m : ℕ) → Applies m l → Base m) → First l n → Lowest l n
base_lowest l n all f = record { applies = f.applies; least = λ m h. go (eqb n 0) refl m h; none = f.none }
  where
    go : (t : Bool) → eqb n 0 ≡ t → (m : ℕ) → Applies m l → n ≤ m
    go true e m h = let z : n ≡ 0 = eqb-true n 0 e in omega (arith, z)
    go false e m h = (rank_size n m (all n (f.applies (eqb-false n 0 e))) (all m h)).0 (f.before m h)

pub start_ascends : (config : Option Config) (ports chargers : ℕ) → Ascending (start_refusals config ports chargers)
start_ascends config ports chargers = refl

pub open_ascends : (ports chargers : ℕ) (waits : Bool) (number kind device detail : ℕ) →
    Ascending (open_conditions ports chargers waits number kind device detail)
open_ascends ports chargers waits number kind device detail = refl

pub answer_ascends : (o : Option Order) (a : ℕ) → Ascending (answer_conditions o a)
answer_ascends o a = refl

pub packet_ascends : (waits : Bool) (number : ℕ) → Ascending (packet_conditions waits number)
packet_ascends waits number = refl

pub picture_ascends : (waits : Bool) → Ascending (picture_conditions waits)
picture_ascends waits = refl
