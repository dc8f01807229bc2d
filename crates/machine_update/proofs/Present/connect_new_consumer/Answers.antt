use Rattle.std.proofs.Common.{◌∙◌, sym}
use Rattle.machine_update.proofs.Same.{connects}
use Rattle.machine_update.proofs.Present.connect_new_consumer.Goals as goal

pub returns-then-eq : goal.returns-then-eq
returns-then-eq c =
    let a = c.args in
    c.finish_update.ensures
    ∙ sym (connects a.memory.state.current_consumer_state c.in-Some.current a.new _ a.self.now.registration a.memory a.flags a.self.now.records c.in-Some.is (sym c.if-eq.true ∙ c.eq.ensures))

pub returns-else-eq : goal.returns-else-eq
returns-else-eq c =
    let a = c.args in
    c.disconnect_current.ensures
    ∙ sym (connects a.memory.state.current_consumer_state c.in-Some.current a.new _ a.self.now.registration a.memory a.flags a.self.now.records c.in-Some.is (sym c.if-eq.false ∙ c.eq.ensures))
