-- The row's loop by the laws of Reading.
use Rattle.std.proofs.Common.{rules, arith, sym, ◌∙◌, ◌≡◌, ◌*◌, ◌<◌, ◌≤◌, length}
use Rattle.interface_records.proofs.Reading.{begun, going, gone_on, turned_back, all_read}
use Rattle.interface_records.proofs.row.read_row.Goals as goal

pub loop-i-init : goal.loop-i-init
loop-i-init g c =
    let a = c.args in
    let w : length a.s.now ≡ a.count * g.R.Record.LENGTH = search rules in
    let h : a.count ≤ g.row.N = omega (arith, c.if-count.false) in
    rw (c.into_iter-i-iterator.ensures.into_iter_gives, c.enumerate-i-items.ensures.count, c.enumerate-i-items.ensures.source, c.chunks_exact.ensures.rest, c.chunks_exact.ensures.size) (
      begun g.R.Record.reads g.R.Record.LENGTH g.row.N a.fill a.count a.s.now g.met.R.Record.some h w,
      search rules,
    )

pub bounds-row-i : goal.bounds-row-i
bounds-row-i g c =
    let a = c.args in
    let l = c.loop-i in
    let z = c.in-Some.ensures.steps in
    let k = going g.R.Record.reads g.R.Record.LENGTH g.row.N a.fill a.count a.s.now g.met.R.Record.some l.row l.i-iterator.count l.i-iterator.iter.rest.now l.invariant.0
    c.in-Some.record.now c.next.new.self.iter.rest.now z.0.1.0 (z.0.1.1 ∙ l.invariant.1) in
    omega (arith, k, z.1, l.invariant.0.few)

pub loop-i-preserved : goal.loop-i-preserved
loop-i-preserved g c =
    let a = c.args in
    let l = c.loop-i in
    let z = c.in-Some.ensures.steps in
    let y = gone_on g.R.Record.reads g.R.Record.LENGTH g.row.N a.fill a.count a.s.now g.met.R.Record.some l.row l.i-iterator.count l.i-iterator.iter.rest.now l.invariant.0
    c.in-Some.record.now c.next.new.self.iter.rest.now z.0.1.0 (z.0.1.1 ∙ l.invariant.1) c.in_ok-row.field-0 (sym c.read.ensures ∙ c.in_ok-row.was) in
    (rw (z.1, z.2) y, z.0.0 ∙ l.invariant.1)

pub returns-in_err-row : goal.returns-in_err-row
returns-in_err-row g c =
    let a = c.args in
    let l = c.loop-i in
    let z = c.in-Some.ensures.steps in
    let y = turned_back g.R.Record.reads g.R.Record.LENGTH g.row.N a.fill a.count a.s.now g.met.R.Record.some l.row l.i-iterator.count l.i-iterator.iter.rest.now l.invariant.0
    c.in-Some.record.now c.next.new.self.iter.rest.now z.0.1.0 (z.0.1.1 ∙ l.invariant.1) (sym c.read.ensures ∙ c.in_err-row.was) in
    c.from_residual.ensures ∙ sym y

pub returns : goal.returns
returns g c =
    let a = c.args in
    let l = c.loop-i in
    let z = c.in-None.ensures.steps in
    let h : length l.i-iterator.iter.rest.now < g.R.Record.LENGTH = rw l.invariant.1 at z.0.1.0 in
    sym (all_read g.R.Record.reads g.R.Record.LENGTH g.row.N a.fill a.count a.s.now g.met.R.Record.some l.row l.i-iterator.count l.i-iterator.iter.rest.now l.invariant.0 h)
