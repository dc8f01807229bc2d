-- The orders of a well-formed service are a byte: at most 35 are given.
-- Assumes nothing.
use mathlib.Core.Path.{◌≡◌}
use mathlib.Core.Bool.{true, ◌&&◌}
use Prim.Native.Nat.{ℕ, ◌≤◌, ◌<◌}
use native.Mathlib.Omega.{arith}
use lib.Dec.{leb, ltb}
use borrow.Author.Tests.{leb-true, ltb-true}
use Rattle.machine_state.specs.declared.phase.Leaver.{Leaver}
use Rattle.machine_state.specs.declared.phase.Phase.{Phase}
use Rattle.machine_state.specs.declared.phase.Stage.{Stage}
use Rattle.std.proofs.lemmas.Bool.{and_parts}
use Rattle.bytes_service_image.specs.WellFormed.{leaver_fits, stage_fits, phase_fits, leaver_most, stage_most, orders_least, orders_most, orders_fit}

leaver_most_lem : (c : ℕ) (l : Leaver) → c ≤ 8 → leaver_fits c l ≡ true → leaver_most l ≤ 35
leaver_most_lem c Leaver.Psu h e = omega arith
leaver_most_lem c (Leaver.Charger i) h e = omega (arith, ltb-true i c e)

stage_most_lem : (c : ℕ) (s : Stage) → c ≤ 8 → stage_fits c s ≡ true → stage_most c s ≤ 35
stage_most_lem c Stage.Psu h e = omega arith
stage_most_lem c Stage.Settling h e = omega arith
stage_most_lem c (Stage.Readying i) h e = omega (arith, ltb-true i c e)
stage_most_lem c (Stage.Initializing i) h e = omega (arith, ltb-true i c e)
stage_most_lem c (Stage.Attaching i) h e = omega (arith, ltb-true i c e)

orders_most_lem : (ports c : ℕ) (p : Phase) → c ≤ 8 → phase_fits ports c p ≡ true → orders_most c p ≤ 35
orders_most_lem ports c (Phase.Closed a) h e = omega arith
orders_most_lem ports c (Phase.Leaving i p f) h e = omega (arith, ltb-true i c (and_parts (ltb i c) (ltb p ports) e).0)
orders_most_lem ports c (Phase.Switching l old f new) h e =
    leaver_most_lem c l h (and_parts (leaver_fits c l) (ltb old ports && ltb new.psu ports) e).0
orders_most_lem ports c (Phase.Connecting s new) h e = stage_most_lem c s h (and_parts (stage_fits c s) (ltb new.psu ports) e).0
orders_most_lem ports c (Phase.Providing p k) h e = omega arith

pub orders_lt : (c : ℕ) (p : Phase) (k ports : ℕ) → c ≤ 8 → phase_fits ports c p ≡ true → orders_fit c p k ≡ true → k < 256
orders_lt c p k ports h e o =
    omega (arith, orders_most_lem ports c p h e, leb-true k (orders_most c p) (and_parts (leb (orders_least p) k) (leb k (orders_most c p)) o).1)
