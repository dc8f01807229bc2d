-- The range is searched from its start on.
use Rattle.std.proofs.Common.{◌-◌, refl, rules, tests}
use Rattle.std.proofs.lemmas.Iterator.{YieldsList-from_range}
use Rattle.std.proofs.lemmas.Iterator.Search.{find_from_yields_List}
use Rattle.machine_state.proofs.Found.{powered, first}
use Rattle.machine_state.proofs.memory.next_powered.Goals as goal

pub returns : goal.returns
returns c =
    let a = c.args in
    let chargers = YieldsList-from_range a.«from» a.count (a.count - a.«from») refl refl in
    first a.records a.«from» a.count c.find.result
    (find_from_yields_List (powered a.records) _ _ c.find.result c.find.ensures.ran chargers (λ x b q k. search (rules, tests)))
