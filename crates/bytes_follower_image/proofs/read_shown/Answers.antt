-- Length and first byte are tested; each arm is its entry of the table, and a byte in no arm is past the table.
use Rattle.std.specs.Prelude.{None, Option}
use mathlib.Core.Path.{◌≡◌, refl, sym, ap, subst, ◌∙◌}
use mathlib.Core.List.{List}
use Prim.Native.Nat.{ℕ}
use native.Mathlib.Omega.{arith}
use lib.ListN.{length, get_or, get_or-eq_default}
use borrow.Author.Tests.{eq-eqb, ne_eqb}
use Rattle.power_policy_interface.proofs.Past.{past}
use Rattle.bytes_follower_image.specs.Image.{follower_cases, follower_from, shown_read, ShownBy}
use Rattle.desk_follower.specs.declared.Shown.{Shown}
use Rattle.bytes_follower_image.proofs.ShownBy.{shown_by_lem}
use Rattle.std.proofs.Common.{rules}
use Rattle.bytes_follower_image.proofs.read_shown.Goals as goal

-- the bytes are an array s of the length
of_kind : (b s : List ℕ) (k : ℕ) → length b ≡ 241 → s ≡ b → get_or s 0 0 ≡ 2 → get_or s 1 0 ≡ k
    → shown_read (get_or (follower_cases s) k None) ≡ shown_read (follower_from b)
of_kind b s k l e t r =
    let z : length s ≡ 241 = ap length e ∙ l in
    let f : shown_read (get_or (follower_cases s) k None) ≡ shown_read (follower_from s) = rw (eq-eqb _ _ z, eq-eqb _ _ t, r) in
    f ∙ ap (λ (x : List ℕ). shown_read (follower_from x)) e

other : (b s : List ℕ) → length b ≡ 241 → s ≡ b → (get_or s 0 0 ≡ 2 → ⊥) → follower_from b ≡ None
other b s l e n =
    let z : length s ≡ 241 = ap length e ∙ l in
    let f : follower_from s ≡ None = rw (eq-eqb _ _ z, ne_eqb _ _ n) in
    ap follower_from (sym e) ∙ f

pub returns-then-image-ne2-clause-value : goal.returns-then-image-ne2-clause-value
returns-then-image-ne2-clause-value c =
    let w = c.in_ok-image.ensures.cases in
    sym (ap shown_read (other c.args.image.now c.in_ok-image.image.now w.long w.same c.if-image-ne2.true))

pub returns-in-0-clause-value : goal.returns-in-0-clause-value
returns-in-0-clause-value c =
    let w = c.in_ok-image.ensures.cases in
    c.shown_lost.ensures ∙ of_kind c.args.image.now c.in_ok-image.image.now 0 w.long w.same c.if-image-ne2.false c.in-0.is

pub returns-in-0-clause-shown_by : goal.returns-in-0-clause-shown_by
returns-in-0-clause-shown_by c =
    let b = c.args.image.now in
    let w = c.in_ok-image.ensures.cases in
    let e = c.shown_lost.ensures ∙ of_kind b c.in_ok-image.image.now 0 w.long w.same c.if-image-ne2.false c.in-0.is in
    subst (λ (r : Option Shown). ShownBy b r) (sym e) (shown_by_lem b (λ (k : ℕ). omega (arith, c.type_inv.image k)))

pub returns-in-1-clause-value : goal.returns-in-1-clause-value
returns-in-1-clause-value c =
    let w = c.in_ok-image.ensures.cases in
    c.shown_picture.ensures ∙ of_kind c.args.image.now c.in_ok-image.image.now 1 w.long w.same c.if-image-ne2.false c.in-1.is

pub returns-in-1-clause-shown_by : goal.returns-in-1-clause-shown_by
returns-in-1-clause-shown_by c =
    let b = c.args.image.now in
    let w = c.in_ok-image.ensures.cases in
    let e = c.shown_picture.ensures ∙ of_kind b c.in_ok-image.image.now 1 w.long w.same c.if-image-ne2.false c.in-1.is in
    subst (λ (r : Option Shown). ShownBy b r) (sym e) (shown_by_lem b (λ (k : ℕ). omega (arith, c.type_inv.image k)))

pub returns-in_default-clause-value : goal.returns-in_default-clause-value
returns-in_default-clause-value c =
    let s = c.in_ok-image.image.now in
    let w = c.in_ok-image.ensures.cases in
    let q = get_or-eq_default (follower_cases s) None {n = get_or s 1 0} (past (get_or s 1 0) 2 (search rules)) in
    sym (ap shown_read q) ∙ of_kind c.args.image.now s (get_or s 1 0) w.long w.same c.if-image-ne2.false refl
