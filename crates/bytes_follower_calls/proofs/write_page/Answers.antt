-- The page of what is shown is the call's.
use mathlib.Core.Path.{sym, ap, ◌∙◌}
use Rattle.abstract_calls.specs.Called.{Called}
use Rattle.abstract_calls.specs.Lent.{written_as}
use Rattle.bytes_follower_image.specs.Image.{follower_from}
use Rattle.bytes_follower_calls.proofs.Read.{of_page, no_page}
use Rattle.bytes_follower_calls.proofs.write_page.Goals as goal

pub returns-in-Err : goal.returns-in-Err
returns-in-Err c =
    let e = no_page (follower_from c.args.image.now) c.in-Err.refusal c.args.buffer.now (sym c.in-Err.is ∙ c.page_in.ensures) in
    record {
      value = c.number_of.ensures ∙ ap (λ (y : Called). y.number) e;
      buffer_after = ap (λ (y : Called). y.bytes) e;
    }

pub returns-in-Ok : goal.returns-in-Ok
returns-in-Ok c =
    let e = of_page (follower_from c.args.image.now) c.in-Ok.page c.args.buffer.now (sym c.in-Ok.is ∙ c.page_in.ensures) in
    record {
      value = c.stored.ensures ∙ (ap written_as (c.by_number.ensures ∙ c.write.ensures.value) ∙ ap (λ (y : Called). y.number) e);
      buffer_after = c.write.ensures.written ∙ ap (λ (y : Called). y.bytes) e;
    }
