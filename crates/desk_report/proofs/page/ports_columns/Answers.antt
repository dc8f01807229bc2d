-- A port more, or none; at the end all of them.
use Rattle.std.proofs.Common.{◌≡◌, ◌<◌, ◌≤◌, ◌-◌, List, ℕ, length, sym, ◌∙◌, ap, subst, true, false, arith}
use borrow.Author.Tests.{eqb-true, eqb-false, lt-ltb}
use lib.Dec.{ltb}
use Rattle.std.proofs.lemmas.Bool.{and_parts}
use Rattle.interface_display.specs.Providers.{contains}
use Rattle.wire.specs.Bytes.{ports_bytes}
use Rattle.abstract_page.specs.Page.{commas}
use Rattle.desk_report.specs.Page.{end_of}
use Rattle.desk_report.proofs.Columns.{ports_at, port_there, port_absent, all_ports, none_there, some_there}
use Rattle.desk_report.proofs.page.ports_columns.Goals as goal

pub loop-port-preserved-then-contains : goal.loop-port-preserved-then-contains
loop-port-preserved-then-contains c =
    let m = c.args.tracked.mask in
    let l = c.loop-port in
    let p : 0 < l.port = omega arith in
    let q : l.port ≤ 16 = omega arith in
    let t : contains c.args.tracked (l.port - 1) ≡ true = sym c.contains.ensures ∙ c.if-contains.true in
    let b = eqb-true _ 1 (and_parts (ltb (l.port - 1) 16) _ t).1 in
    subst (λ (s : List ℕ). c.push_port.new.columns ≡ end_of (commas s)) (sym (port_there m l.port p q b))
    (c.push_port.ensures (ports_at m l.port) l.invariant)

pub loop-port-preserved : goal.loop-port-preserved
loop-port-preserved c =
    let m = c.args.tracked.mask in
    let l = c.loop-port in
    let p : 0 < l.port = omega arith in
    let q : l.port ≤ 16 = omega arith in
    let t : contains c.args.tracked (l.port - 1) ≡ false = sym c.contains.ensures ∙ c.if-contains.false in
    let h : l.port - 1 < 16 = omega arith in
    let b = eqb-false _ 1 (rw (lt-ltb (l.port - 1) 16 h) at t) in
    subst (λ (s : List ℕ). l.columns ≡ end_of (commas s)) (sym (port_absent m l.port p q b)) l.invariant

pub returns-then-is_empty : goal.returns-then-is_empty
returns-then-is_empty c =
    let l = c.loop-port in
    let z : l.port ≡ 0 = omega arith in
    let h = subst (λ (s : List ℕ). l.columns ≡ end_of (commas s)) (ap (ports_at c.args.tracked.mask) z ∙ all_ports c.args.tracked.mask) l.invariant in
    let e = eqb-true (length l.columns) 0 (sym c.is_empty.ensures ∙ c.if-is_empty.true) in
    c.of.ensures ∙ none_there l.columns (ports_bytes c.args.tracked.mask) h e

pub returns : goal.returns
returns c =
    let l = c.loop-port in
    let z : l.port ≡ 0 = omega arith in
    let h = subst (λ (s : List ℕ). l.columns ≡ end_of (commas s)) (ap (ports_at c.args.tracked.mask) z ∙ all_ports c.args.tracked.mask) l.invariant in
    let e = eqb-false (length l.columns) 0 (sym c.is_empty.ensures ∙ c.if-is_empty.false) in
    some_there l.columns (ports_bytes c.args.tracked.mask) h e
