-- A take that is refused had no follower.
use Rattle.std.specs.Prelude.{◌≡◌, None, Some, Option}
use Rattle.std.proofs.Common.{rules}
use mathlib.Core.Path.{refl, ap, ◌∙◌}
use Rattle.desk_follower.specs.declared.Follower.{Follower}
use Rattle.abstract_calls.specs.Numbers.{done_number}
use Rattle.bytes_take.specs.Taken.{taken_answer}
use Rattle.bytes_follower_image.specs.Image.{follower_from}
use Rattle.bytes_calls.specs.Calls.{reader_call}
use Rattle.bytes_follower_calls.proofs.store_taken.Goals as goal

pub returns-clause-value : goal.returns-clause-value
returns-clause-value c = by (follower_from c.args.image.now) refl
  where
    by : (r : Option Follower) → follower_from c.args.image.now ≡ r → c.number_of.result ≡ reader_call r (λ f. done_number)
    by None q =
        let t = c.take.ensures.value ∙ ap taken_answer q in
        let m = rw t at c.map.ensures.cases in
        let n = c.number_of.ensures in
        search rules
    by (Some f) q =
        let t = c.take.ensures.value ∙ ap taken_answer q in
        let m = rw t at c.map.ensures.cases in
        let n = c.number_of.ensures in
        search rules
