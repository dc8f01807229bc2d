-- An event fed with a list of answers: what is left of it then, and the orders that it has given.
use Rattle.std.specs.Prelude.{ℕ, cond, List, [], ◌∷◌}
use Rattle.abstract_policy.specs.Action.{Interaction, done, ask}
use Rattle.abstract_policy.specs.Given.{result_of}
use Rattle.abstract_policy.specs.Refusals.{no_answer}
use Rattle.abstract_policy.specs.declared.order.Order.{Order}
use Rattle.abstract_policy.specs.declared.state.Records.{Records}

-- calls of answer: the number given, and the present records
abbrev pub Answers : Type 0
Answers = List (ℕ × Records)

-- what is left of an event after them: those that are turned back are passed over
abbrev pub fed_by : Interaction → Answers → Interaction
fed_by (done a h) l = done a h
fed_by (ask o k) [] = ask o k
fed_by (ask o k) (x ∷ l) = cond (no_answer o x.0) (fed_by (ask o k) l) (fed_by (k (result_of x.0) x.1) l)

-- the orders that it has given then
abbrev pub orders_by : Interaction → Answers → List Order
orders_by (done a h) l = []
orders_by (ask o k) [] = o ∷ []
orders_by (ask o k) (x ∷ l) = cond (no_answer o x.0) (orders_by (ask o k) l) (o ∷ orders_by (k (result_of x.0) x.1) l)
