-- What passes the filter is counted.
use Rattle.std.proofs.Common.{◌∙◌, arith, rules, tests}
use Rattle.std.proofs.lemmas.Iterator.{YieldsList-from_range}
use Rattle.std.proofs.lemmas.Iterator.Consumers.{YieldsList-from_filter, count_from_yields_List}
use Rattle.machine_update.proofs.Counted.{offers, offering}
use Rattle.machine_update.proofs.available.Goals as goal

pub returns : goal.returns
returns c =
    let a = c.args in
    count_from_yields_List c.filter.result _ c.count.ensures.ran
    (YieldsList-from_filter _ (offers a.records) (YieldsList-from_range 0 a.ports a.ports c.filter.ensures.source (omega arith))
    c.filter.ensures.closure
    (λ x b q k. search (rules, tests)))
    ∙ offering a.records a.ports
