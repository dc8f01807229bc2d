-- PKT-9: the orders of an event in a run, in their order: those that the definition
-- gives from its opening on, whatever calls are turned back or write in between.
use Rattle.std.specs.Prelude.{ℕ, List, [], ◌∷◌, ◌≡◌, length}
use Rattle.abstract_policy.specs.Policy.{Call, Stand, between, at, Policy, policy_call, policy_after}
use Rattle.abstract_policy.specs.declared.order.Order.{Order}

abbrev pub orders_after : Policy → List Order → Call → List Order
orders_after p l c = (policy_call c).orders p l

abbrev pub orders_of : Policy → List Order → List Call → List Order
orders_of p l [] = l
orders_of p l (c ∷ rest) = orders_of (policy_after p c) (orders_after p l c) rest

-- their number is what the definition has counted: of the event closed last, which its packet has, or of the open one so far
abbrev pub Counted : Stand → ℕ → List Order → Type 0
Counted between orders l = orders ≡ length l
Counted (at n o k) orders l = n ≡ length l
