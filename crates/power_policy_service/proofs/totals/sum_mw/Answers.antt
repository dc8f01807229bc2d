-- The part that is counted has the records of the row at its places, and min 16 of them.
use native.Mathlib.Numerals.{unary_clauses}
use Rattle.std.proofs.Common.{◌≡◌, ℕ, ◌+◌, ◌∙◌, ◌<◌, ap, arith, length, length-take, refl, sym}
use Rattle.power_policy_service.specs.Provider.{counted_mw, sum_to}
use Rattle.power_policy_service.specs.Rows.{psu_at}
use Rattle.power_policy_service.proofs.Same.{psu_in_first}
use Rattle.power_policy_service.proofs.totals.sum_mw.Goals as goal

sum_next : (f : ℕ → ℕ) (n : ℕ) → sum_to f (n + 1) ≡ sum_to f n + f n
sum_next f n = simp unary_clauses refl

pub loop-port-preserved : goal.loop-port-preserved
loop-port-preserved c =
    let l : length c.first-psu-items.result.now ≡ _ = ap length c.first-psu-items.ensures in
    let k : c.loop-port.port < 16 = omega (arith, l, length-take 16 c.args.psus.now, c.loop-port-test.true) in
    let e : c.counted_mw.result ≡ counted_mw c.args.request c.loop-port.port (psu_at c.args.psus.now c.loop-port.port) =
    rw (← psu_in_first 16 c.args.psus.now c.loop-port.port k, ← c.first-psu-items.ensures) c.counted_mw.ensures in
    (omega (arith, c.loop-port.invariant.0, c.counted_mw.type_inv), (λ i. c.loop-port.invariant.1 i + e i) ∙ sym (sum_next _ _))

pub returns : goal.returns
returns c =
    let l : length c.first-psu-items.result.now ≡ _ = ap length c.first-psu-items.ensures in
    c.loop-port.invariant.1
    ∙ ap (sum_to (λ p. counted_mw c.args.request p (psu_at c.args.psus.now p)))
    (omega (arith, l, length-take 16 c.args.psus.now, c.loop-port-test.false, c.loop-port.auto.port-end))
