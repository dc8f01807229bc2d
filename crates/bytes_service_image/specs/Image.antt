-- SHP-11: the image of the service, 67 bytes (docs/STATE.md): its groups one after the other. REF-21: bytes are accepted if each
-- group is, and the service that they make is well formed.
use Rattle.std.specs.Prelude.{ℕ, cond, List, ◌++◌, eqb, length, get_or, None, Option, Some}
use Rattle.power_policy_interface.specs.Limits.{service_length}
use Rattle.bytes_groups.specs.Quad.{quad_at, number_from}
use Rattle.bytes_groups.specs.Shown.{shown_at}
use Rattle.machine_service.specs.declared.Service.{Service}
use Rattle.bytes_service_image.specs.WellFormed.{well_formed}
use Rattle.bytes_service_groups.specs.Registration.{head_bytes, registered_at, registration_from}
use Rattle.bytes_service_groups.specs.State.{held_bytes, state_from}
use Rattle.bytes_service_groups.specs.Phase.{phase_bytes, standing_at, phase_from}
use Rattle.bytes_service_groups.specs.Notices.{notices_bytes, notices_from}
use Rattle.abstract_policy.specs.declared.state.InternalState.{InternalState}
use Rattle.abstract_policy.specs.declared.state.Registration.{Registration}
use Rattle.machine_state.specs.declared.memory.Notices.{Notices}
use Rattle.machine_state.specs.declared.phase.Phase.{Phase}

-- writing

unfoldable pub service_bytes : Service → List ℕ
service_bytes s =
    head_bytes s.registration s.number
    ++ (held_bytes s.memory.state s.orders ++ (phase_bytes s.phase ++ notices_bytes s.memory.notices))

-- reading

-- the first part that is refused refuses all
abbrev pub service_with : Option Registration → ℕ → Option InternalState → ℕ → Option Phase → Option Notices → Option Service
service_with None n s k p t = None
service_with (Some g) n None k p t = None
service_with (Some g) n (Some s) k None t = None
service_with (Some g) n (Some s) k (Some p) None = None
service_with (Some g) n (Some s) k (Some p) (Some t) =
    Some (record { registration = g; number = n; memory = record { state = s; notices = t }; orders = k; phase = p })

abbrev pub parts_from : List ℕ → Option Service
parts_from b =
    service_with (registration_from (registered_at b 1)) (number_from (quad_at b 20)) (state_from (shown_at b 24) (get_or b 35 0)) (get_or b 36 0)
    (phase_from (standing_at b 37))
    (notices_from b)

abbrev pub checked : Option Service → Option Service
checked None = None
checked (Some s) = cond (well_formed s) (Some s) None

unfoldable pub service_from : List ℕ → Option Service
service_from b =
    cond (eqb (length b) service_length) (cond (eqb (get_or b 0 0) 1) (checked (parts_from b)) None) None
