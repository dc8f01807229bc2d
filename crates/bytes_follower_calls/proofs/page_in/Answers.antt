-- The slots say whether something is held.
use Rattle.std.specs.Prelude.{◌≡◌, None, Some, Option, Ok, ok_or, Bool, cond, option_map}
use Rattle.std.proofs.Common.{rules}
use mathlib.Core.Path.{refl, sym, ap, subst, ◌∙◌}
use Rattle.power_policy_interface.specs.declared.refusal.Refusal.{Refusal}
use Rattle.interface_display.specs.declared.State.{State}
use Rattle.desk_follower.specs.declared.Follower.{Follower}
use Rattle.desk_follower.specs.declared.Shown.{Shown}
use Rattle.desk_follower.specs.Held.{none_held}
use Rattle.desk_report.specs.Page.{page_for, showing_page}
use Rattle.bytes_follower_image.specs.Image.{follower_from, shown_read, ShownBy}
use Rattle.bytes_take.proofs.Slot.{none_same}
use Rattle.bytes_follower_calls.proofs.Read.{of_picture}
use Rattle.bytes_follower_calls.proofs.page_in.Goals as goal

pub returns-in_err-shown_in : goal.returns-in_err-shown_in
returns-in_err-shown_in c = by (follower_from c.args.image.now) refl
  where
    by : (r : Option Follower) → follower_from c.args.image.now ≡ r → c.from_residual.result ≡ ok_or (option_map page_for r) Refusal.Image
    by None q =
        let t = sym c.in_err-shown_in.was ∙ (c.shown_in.ensures.value ∙ ap (λ (x : Option Follower). ok_or (shown_read x) Refusal.Image) q) in
        let z = c.from_residual.ensures in
        search rules
    by (Some f) q =
        let t = sym c.in_err-shown_in.was ∙ (c.shown_in.ensures.value ∙ ap (λ (x : Option Follower). ok_or (shown_read x) Refusal.Image) q) in
        search rules

pub returns-in-Picture : goal.returns-in-Picture
returns-in-Picture c =
    let b = c.args.image.now in
    let p = c.in-Picture.p in
    let s = subst (λ (x : Shown). ShownBy b (Some x)) c.in-Picture.is c.in_ok-shown_in.ensures.shown_by in
    of_picture b (Some (Shown.Picture p)) p refl s (λ r. ok_or (option_map page_for r) Refusal.Image) (Ok c.showing.result)
    (λ h i.
    let e : c.state.result ≡ cond (none_held 8 h) State.Level State.Waiting =
    c.state.ensures ∙ ap (λ (t : Bool). cond t State.Level State.Waiting) (none_same b p h i) in
    ap Ok (c.showing.ensures ∙ ap (λ (t : State). showing_page t p) e))
