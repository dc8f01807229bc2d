-- The definition counts the orders of its list, call by call: an order adds one on both sides, and what is turned back or written none.
use mathlib.Core.Path.{◌≡◌, refl, subst}
use mathlib.Core.Bool.{Bool, true, false, cond}
use mathlib.Core.List.{List, [], ◌∷◌, ◌++◌}
use Prim.Native.Nat.{ℕ, ◌+◌}
use native.Mathlib.Omega.{arith}
use lib.Dec.{eqb}
use lib.ListN.{length, length-append}
use Rattle.abstract_policy.specs.Given.{event_of, result_of}
use Rattle.abstract_policy.specs.Action.{Interaction, done, ask}
use Rattle.abstract_policy.specs.Interaction.{event}
use Rattle.abstract_policy.specs.Refusals.{no_answer}
use Rattle.abstract_policy.specs.Policy.{Call, open_event, give_answer, write_packet, write_picture, Stand, between, at, Policy, proceeds, open_refused, answers, policy_after, policies, with_order, answer_orders}
use Rattle.abstract_policy.specs.Orders.{orders_after, orders_of, Counted}
use Rattle.abstract_policy.specs.declared.state.Records.{Records}
use Rattle.abstract_policy.specs.declared.order.Order.{Order}

abbrev Counts : Policy → List Order → Type 0
Counts p l = Counted p.stand p.orders l

-- after n orders, which are listed, the event closes or asks once more
proceeds_counts : (p : Policy) (n : ℕ) (i : Interaction) (l : List Order) → n ≡ length l → Counts (proceeds p n i) (with_order l i)
proceeds_counts p n (done a h) l e = e
proceeds_counts p n (ask o k) l e =
    let x : length (l ++ (o ∷ [])) ≡ length l + 1 = length-append l (o ∷ []) in
    omega (arith, e, x)

opens_counts : (p q : Policy) (l m : List Order) (a b : Bool) → Counts p l → Counts q m → Counts (cond a (cond b p q) p) (cond a (cond b l m) l)
opens_counts p q l m true true c d = c
opens_counts p q l m true false c d = d
opens_counts p q l m false b c d = c

answers_counts : (p : Policy) (s : Stand) (l : List Order) (a : ℕ) (r : Records) → p.stand ≡ s → Counts p l → Counts (answers s p a r) (answer_orders s l a r)
answers_counts p between l a r e c = c
answers_counts p (at n o k) l a r e c = go (no_answer o a)
  where
    n-listed : n ≡ length l
    n-listed = subst (λ (s : Stand). Counted s p.orders l) e c

    go : (b : Bool) → Counts (cond b p (proceeds p n (k (result_of a) r))) (cond b l (with_order l (k (result_of a) r)))
    go true = c
    go false = proceeds_counts p n (k (result_of a) r) l n-listed

after_counts : (p : Policy) (l : List Order) (c : Call) → Counts p l → Counts (policy_after p c) (orders_after p l c)
after_counts p l (open_event kind device detail r) h =
    let i = event p.registration device (event_of kind detail) p.state r in
    opens_counts p (proceeds p 0 i) l (with_order [] i) (eqb (open_refused p kind device detail) 0) (eqb kind 5) h (proceeds_counts p 0 i [] refl)
after_counts p l (give_answer a r) h = answers_counts p p.stand l a r refl h
after_counts p l write_packet h = h
after_counts p l write_picture h = h

-- over a whole run
pub run_counts : (calls : List Call) (p : Policy) (l : List Order) → Counts p l → Counts (policies p calls) (orders_of p l calls)
run_counts [] p l h = h
run_counts (c ∷ rest) p l h = run_counts rest (policy_after p c) (orders_after p l c) (after_counts p l c h)
