-- What is shown does not matter, only that something is.
use Rattle.std.specs.Prelude.{◌≡◌, None, Some, Option, ok_or}
use Rattle.std.proofs.Common.{rules}
use mathlib.Core.Path.{refl, ap, ◌∙◌}
use Rattle.power_policy_interface.specs.Refusal.{refusal_number}
use Rattle.power_policy_interface.specs.declared.refusal.Refusal.{Refusal}
use Rattle.desk_follower.specs.declared.Follower.{Follower}
use Rattle.abstract_calls.specs.Numbers.{refused_number}
use Rattle.bytes_follower_image.specs.Image.{follower_from, shown_read}
use Rattle.bytes_calls.specs.Calls.{reader_call}
use Rattle.bytes_follower_calls.proofs.turned_back.Goals as goal

pub returns : goal.returns
returns c = by (follower_from c.args.image.now) refl
  where
    by : (r : Option Follower) → follower_from c.args.image.now ≡ r → c.number_of.result ≡ reader_call r (λ f. refused_number (refusal_number c.args.refusal))
    by None q =
        let t = c.shown_in.ensures.value ∙ ap (λ (x : Option Follower). ok_or (shown_read x) Refusal.Image) q in
        let m = rw t at c.and.ensures in
        let n = c.number_of.ensures in
        search rules
    by (Some f) q =
        let t = c.shown_in.ensures.value ∙ ap (λ (x : Option Follower). ok_or (shown_read x) Refusal.Image) q in
        let m = rw t at c.and.ensures in
        let n = c.number_of.ensures in
        search rules
