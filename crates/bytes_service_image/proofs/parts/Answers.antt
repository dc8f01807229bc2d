-- The first part that is refused refuses all.
use Rattle.std.proofs.Common.{sym, ◌∙◌, ap}
use Rattle.bytes_groups.specs.Quad.{number_from}
use Rattle.bytes_service_groups.specs.Registration.{registration_from}
use Rattle.bytes_service_groups.specs.Phase.{phase_from}
use Rattle.bytes_service_image.proofs.parts.Goals as goal

pub returns-in_err-read-2 : goal.returns-in_err-read-2
returns-in_err-read-2 c =
    rw (
      ap registration_from (sym c.registered_at.ensures) ∙ (sym c.read.ensures ∙ c.in_ok-read.was),
      sym c.read_state.ensures ∙ c.in_ok-read_state.was,
      ap phase_from (sym c.at-2.ensures) ∙ (sym c.read-2.ensures ∙ c.in_err-read-2.was),
    )
    c.from_residual-in_err-read-2.ensures

pub returns : goal.returns
returns c =
    rw (
      ap registration_from (sym c.registered_at.ensures) ∙ (sym c.read.ensures ∙ c.in_ok-read.was),
      sym c.read_state.ensures ∙ c.in_ok-read_state.was,
      ap phase_from (sym c.at-2.ensures) ∙ (sym c.read-2.ensures ∙ c.in_ok-read-2.was),
      sym c.read_notices.ensures ∙ c.in_ok-read_notices.was,
      c.byte.ensures,
      c.from.ensures ∙ ap number_from c.at.ensures,
    )
