-- Along a run the number of orders given is that of the machine, which is bounded,
-- and so is what is left of an open event (promise_invariant Bound.antt).
use mathlib.Core.Path.{◌≡◌, refl, sym, ap, ◌∙◌, subst}
use Prim.Native.Nat.{ℕ, ◌+◌, ◌*◌, ◌-◌, ◌≤◌}
use mathlib.Core.List.{List}
use lib.ListN.{length}
use Rattle.abstract_policy.specs.Action.{Interaction, done, ask}
use Rattle.abstract_policy.specs.Ends.{AtMost}
use Rattle.abstract_policy.specs.Orders.{Counted}
use Rattle.abstract_policy.specs.Policy.{Policy, Stand, between, at}
use Rattle.abstract_policy.specs.declared.order.Order.{Order}
use Rattle.machine_service.specs.declared.Service.{Service}
use Rattle.machine_follows.specs.Machine.{stands_at}
use Rattle.promise_run.specs.Demands.{stand_of, Equal}
use Rattle.abstract_calls.specs.Definition.{Closes}
use Rattle.promise_invariant.proofs.Good.{Good}
use Rattle.promise_invariant.proofs.Bound.{good_orders, good_rest}

closes_at : (chargers n : ℕ) (i : Interaction) → AtMost (4 + 4 * chargers - n) i → Closes chargers (stand_of n i)
closes_at chargers n (done a h) m = tt
closes_at chargers n (ask o k) m = m

pub stand_closes : (s : Service) (p : Policy) → Good s → Equal s p → Closes s.registration.chargers p.stand
stand_closes s p h q =
    subst (λ (x : Stand). Closes s.registration.chargers x) q.stand
    (closes_at s.registration.chargers s.orders (stands_at s.registration s.phase s.memory) (good_rest s h))

-- the number of orders given so far, or by the event closed last
abbrev given : Stand → ℕ → ℕ
given between orders = orders
given (at n o k) orders = n

given_at : (n orders : ℕ) (i : Interaction) → (stand_of n i ≡ between → n ≡ orders) → given (stand_of n i) orders ≡ n
given_at n orders (done a h) e = sym (e refl)
given_at n orders (ask o k) e = refl

counted_given : (x : Stand) (orders : ℕ) (l : List Order) → Counted x orders l → length l ≡ given x orders
counted_given between orders l c = sym c
counted_given (at n o k) orders l c = sym c

pub orders_bound : (s : Service) (p : Policy) (l : List Order) → Good s → Equal s p → Counted p.stand p.orders l → length l ≤ 3 + 4 * s.registration.chargers
orders_bound s p l h q c =
    subst (λ (n : ℕ). n ≤ 3 + 4 * s.registration.chargers)
    (sym
    (counted_given p.stand p.orders l c
    ∙ (ap (λ (x : Stand). given x p.orders) (sym q.stand)
    ∙ given_at s.orders p.orders (stands_at s.registration s.phase s.memory) (λ e. q.orders (sym q.stand ∙ e)))))
    (good_orders s h)
