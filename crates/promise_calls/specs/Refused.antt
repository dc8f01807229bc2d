-- What turns a call on any bytes back: 21 where no service or follower is written so, else what turns a call on it back, with their numbers, in their order.
use Rattle.std.specs.Prelude.{ℕ, Bool, true, false, List, [], ◌∷◌, ◌++◌, None, Option, Some, is_none, unwrap_or}
use Rattle.machine_service.specs.Refusals.{open_refusals, answer_refusals}
use Rattle.machine_service.specs.declared.Service.{Service}
use Rattle.machine_service.specs.Send.{packet_refusals, picture_refusals}
use Rattle.abstract_calls.specs.DeskCall.{DeskCall, desk_call}
use Rattle.abstract_calls.specs.ServiceCall.{ByteCall, open_event, give_answer, read_order, write_packet, write_picture, wrong_rows, short}
use Rattle.desk_follower.specs.Follower.{fresh}
use Rattle.bytes_service_image.specs.Image.{service_from}
use Rattle.bytes_follower_image.specs.Image.{follower_from}
use Rattle.promise_link.specs.Alike.{seen}

abbrev pub of_image : Option Service → (Service → List (Bool × ℕ)) → List (Bool × ℕ)
of_image None f = (true, 21) ∷ []
of_image (Some s) f = (false, 21) ∷ f s

abbrev pub refusals_of : Service → ByteCall → List (Bool × ℕ)
refusals_of s (open_event psus chargers kind device detail) = wrong_rows s.registration psus chargers ∷ open_refusals s kind device detail
refusals_of s (give_answer psus chargers a) = wrong_rows s.registration psus chargers ∷ answer_refusals s a
refusals_of s read_order = []
refusals_of s (write_packet buffer) = packet_refusals s ++ short buffer
refusals_of s (write_picture buffer) = picture_refusals s ++ short buffer

abbrev pub conditions : List ℕ → ByteCall → List (Bool × ℕ)
conditions b c = of_image (service_from b) (λ s. refusals_of s c)

-- of the desk
abbrev pub desk_conditions : List ℕ → DeskCall → List (Bool × ℕ)
desk_conditions b c = (is_none (follower_from b), 21) ∷ (desk_call c).conditions (seen (unwrap_or (follower_from b) fresh))
