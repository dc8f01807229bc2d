-- The slots say whether something is held.
use Rattle.std.specs.Prelude.{◌≡◌, None, Some, Option, ok_or, Bool, cond}
use Rattle.std.proofs.Common.{rules, tests}
use mathlib.Core.Path.{refl, sym, ap, ◌∙◌}
use Rattle.power_policy_interface.specs.declared.refusal.Refusal.{Refusal}
use Rattle.interface_display.specs.declared.State.{State}
use Rattle.desk_follower.specs.declared.Shown.{Shown}
use Rattle.abstract_calls.specs.Numbers.{refused_number, lost_number, shown_number}
use Rattle.bytes_follower_image.specs.Image.{follower_from, shown_read}
use Rattle.bytes_calls.specs.Calls.{shown_call}
use Rattle.bytes_take.proofs.Slot.{none_same}
use Rattle.bytes_take.specs.Taken.{none_in}
use Rattle.bytes_follower_calls.proofs.Read.{of_lost, of_none, of_picture}
use Rattle.bytes_follower_calls.proofs.shown.Goals as goal

pub returns : goal.returns
returns c = by (shown_read (follower_from c.args.image.now)) refl
  where
    by : (o : Option Shown) → shown_read (follower_from c.args.image.now) ≡ o → c.number_of.result ≡ shown_call (follower_from c.args.image.now)
    by None q =
        let t = c.shown_in.ensures.value ∙ ap (λ (x : Option Shown). ok_or x Refusal.Image) q in
        let m = rw t at c.map.ensures.cases in
        let n = c.number_of.ensures in
        let z : c.number_of.result ≡ refused_number 21 = search rules in
        z ∙ of_none (follower_from c.args.image.now) _ (sym q)
    by (Some (Shown.Lost floor)) q =
        let t = c.shown_in.ensures.value ∙ ap (λ (x : Option Shown). ok_or x Refusal.Image) q in
        let m = rw t at c.map.ensures.cases in
        let n = c.number_of.ensures in
        let z : c.number_of.result ≡ lost_number = search (rules, tests) in
        z ∙ of_lost (follower_from c.args.image.now) floor (sym q)
    by (Some (Shown.Picture p)) q =
        let b = c.args.image.now in
        let t = c.shown_in.ensures.value ∙ ap (λ (x : Option Shown). ok_or x Refusal.Image) q in
        let m = rw t at c.map.ensures.cases in
        let n = c.number_of.ensures in
        let s = rw t at c.shown_in.ensures.shown_by in
        let z : c.number_of.result ≡ shown_number (cond (none_in b) State.Level State.Waiting) p.number p.display = search (rules, tests) in
        of_picture b (Some (Shown.Picture p)) p refl s shown_call c.number_of.result
        (λ h i. z ∙ ap (λ (x : Bool). shown_number (cond x State.Level State.Waiting) p.number p.display) (none_same b p h i))
