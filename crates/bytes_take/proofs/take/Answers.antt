-- What is read is the image of what is shown, and the take of that follower is what is written.
use Rattle.std.specs.Prelude.{None, Option, Some, Ok, Err, ok_or}
use Prim.Native.Nat.{ℕ}
use Rattle.power_policy_interface.specs.declared.refusal.Refusal.{Refusal}
use mathlib.Core.Path.{◌≡◌, sym, ap, subst, ◌∙◌}
use mathlib.Core.List.{List}
use Rattle.std.proofs.Common.{rules}
use Rattle.desk_follower.specs.declared.Shown.{Shown}
use Rattle.bytes_follower_image.specs.Image.{follower_from, shown_read, ShownBy}
use Rattle.bytes_take.specs.Taken.{taken_answer, taken_by}
use Rattle.bytes_take.proofs.Images.{read_refused, read_showing}
use Rattle.bytes_take.proofs.take.Goals as goal

given : {A : Type 0} (o : Option A) (x : A) (e : Refusal) → ok_or o e ≡ Ok x → o ≡ Some x
given None x e q = absurd (cc)
given (Some y) x e q = cc

refused : {A : Type 0} (o : Option A) (e f : Refusal) → ok_or o e ≡ Err f → (None ≡ o) × (f ≡ e)
refused None e f q = (cc, cc)
refused (Some y) e f q = absurd (cc)

pub returns-in_err-floor-clause-value : goal.returns-in_err-floor-clause-value
returns-in_err-floor-clause-value c =
    let b = c.args.image.now in
    let a = given _ _ _ (sym c.ok_or.ensures.value ∙ c.in_ok-image.was) in
    let w = c.as_mut_array.ensures.cases in
    let m = rw a at w in
    let s : c.in_ok-image.field-0.now ≡ b = m.same in
    let r = refused _ _ _ (sym c.ok_or-2.ensures.value ∙ c.in_err-floor.was) in
    let n : follower_from b ≡ None = read_refused b (r.0 ∙ (c.read_shown.ensures.value ∙ ap (λ (l : List ℕ). shown_read (follower_from l)) s)) in
    let z = c.from_residual-in_err-floor.ensures in
    let f = r.1 in
    rw n (search rules)

pub returns-in_err-floor-clause-image_after : goal.returns-in_err-floor-clause-image_after
returns-in_err-floor-clause-image_after c =
    let b = c.args.image.now in
    let a = given _ _ _ (sym c.ok_or.ensures.value ∙ c.in_ok-image.was) in
    let w = c.as_mut_array.ensures.cases in
    let m = rw a at w in
    let s : c.in_ok-image.field-0.now ≡ b = m.same in
    let r = refused _ _ _ (sym c.ok_or-2.ensures.value ∙ c.in_err-floor.was) in
    let n : follower_from b ≡ None = read_refused b (r.0 ∙ (c.read_shown.ensures.value ∙ ap (λ (l : List ℕ). shown_read (follower_from l)) s)) in
    s ∙ sym (ap (taken_by b c.args.p) n)

pub returns-in-Picture-clause-value : goal.returns-in-Picture-clause-value
returns-in-Picture-clause-value c =
    let b = c.args.image.now in
    let v = c.in_ok-image.field-0.now in
    let a = given _ _ _ (sym c.ok_or.ensures.value ∙ c.in_ok-image.was) in
    let w = c.as_mut_array.ensures.cases in
    let m = rw a at w in
    let o = given _ _ _ (sym c.ok_or-2.ensures.value ∙ c.in_ok-floor.was) ∙ ap Some c.in-Picture.is in
    let e = subst (λ (r : Option Shown). ShownBy v r) o c.read_shown.ensures.shown_by in
    sym (ap taken_answer (ap follower_from (sym m.same) ∙ read_showing v c.in-Picture.s e.0 e.1))

pub returns-in-Picture-clause-image_after : goal.returns-in-Picture-clause-image_after
returns-in-Picture-clause-image_after c =
    let x = c.args in
    let b = x.image.now in
    let v = c.in_ok-image.field-0.now in
    let a = given _ _ _ (sym c.ok_or.ensures.value ∙ c.in_ok-image.was) in
    let w = c.as_mut_array.ensures.cases in
    let m = rw a at w in
    let o = given _ _ _ (sym c.ok_or-2.ensures.value ∙ c.in_ok-floor.was) ∙ ap Some c.in-Picture.is in
    let e = subst (λ (r : Option Shown). ShownBy v r) o c.read_shown.ensures.shown_by in
    c.take_shown.ensures e.0 e.1 ∙ sym (ap (taken_by b x.p) (ap follower_from (sym m.same) ∙ read_showing v c.in-Picture.s e.0 e.1))
