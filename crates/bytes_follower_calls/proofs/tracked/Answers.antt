-- What is shown decides.
use Rattle.std.specs.Prelude.{◌≡◌, None, Some, Option, ok_or}
use Rattle.std.proofs.Common.{rules, tests}
use mathlib.Core.Path.{refl, sym, ap, ◌∙◌}
use Rattle.power_policy_interface.specs.declared.refusal.Refusal.{Refusal}
use Rattle.desk_follower.specs.declared.Shown.{Shown}
use Rattle.abstract_calls.specs.Numbers.{refused_number}
use Rattle.bytes_follower_image.specs.Image.{follower_from, shown_read}
use Rattle.bytes_calls.specs.Calls.{tracked_in, tracked_call}
use Rattle.bytes_follower_calls.proofs.Read.{of_shown, of_none}
use Rattle.bytes_follower_calls.proofs.tracked.Goals as goal

pub returns : goal.returns
returns c = by (shown_read (follower_from c.args.image.now)) refl
  where
    by : (o : Option Shown) → shown_read (follower_from c.args.image.now) ≡ o → c.number_of.result ≡ tracked_call (follower_from c.args.image.now)
    by None q =
        let t = c.shown_in.ensures.value ∙ ap (λ (x : Option Shown). ok_or x Refusal.Image) q in
        let m = rw t at c.map.ensures.cases in
        let n = c.number_of.ensures in
        let z : c.number_of.result ≡ refused_number 21 = search rules in
        z ∙ of_none (follower_from c.args.image.now) _ (sym q)
    by (Some (Shown.Lost floor)) q =
        let t = c.shown_in.ensures.value ∙ ap (λ (x : Option Shown). ok_or x Refusal.Image) q in
        let m = rw t at c.map.ensures.cases in
        let n = c.number_of.ensures in
        let z : c.number_of.result ≡ tracked_in (Shown.Lost floor) = search (rules, tests) in
        z ∙ of_shown (follower_from c.args.image.now) (Shown.Lost floor) tracked_in (sym q)
    by (Some (Shown.Picture p)) q =
        let t = c.shown_in.ensures.value ∙ ap (λ (x : Option Shown). ok_or x Refusal.Image) q in
        let m = rw t at c.map.ensures.cases in
        let n = c.number_of.ensures in
        let z : c.number_of.result ≡ tracked_in (Shown.Picture p) = search (rules, tests) in
        z ∙ of_shown (follower_from c.args.image.now) (Shown.Picture p) tracked_in (sym q)
