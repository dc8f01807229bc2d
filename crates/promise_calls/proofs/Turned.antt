-- A call that is turned back, low byte 0, leaves image and buffer, whatever bytes they are: an order, a close and a length have another low byte.
use Rattle.std.specs.Prelude.{Err, None, Ok, Option, Result, Some}
use mathlib.Core.Path.{◌≡◌, refl}
use mathlib.Core.Bool.{Bool, true, false, cond}
use mathlib.Core.List.{List}
use Prim.Native.Nat.{ℕ, ◌%◌}
use lib.Dec.{ltb}
use lib.ListN.{length}
use lib.Seq.{sets}
use Rattle.abstract_policy.specs.declared.state.Records.{Records}
use Rattle.abstract_policy.specs.declared.outcome.Step.{Step}
use Rattle.interface_display.specs.declared.packet.EventPacket.{EventPacket}
use Rattle.interface_display.specs.declared.packet.Picture.{Picture}
use Rattle.machine_service.specs.Service.{Stepped, open_of, answer_of}
use Rattle.machine_service.specs.declared.Service.{Service}
use Rattle.machine_service.specs.Send.{send_packet, send_picture}
use Rattle.wire.specs.Bytes.{event_bytes, picture_bytes}
use Rattle.abstract_calls.specs.Lent.{rows_in, written_as, written_call, packet_call, picture_call}
use Rattle.abstract_calls.specs.ServiceCall.{ByteCall, open_event, give_answer, read_order, write_packet, write_picture}
use Rattle.abstract_calls.specs.Calls.{image_after, returned, buffer_in, buffer_after}
use Rattle.abstract_calls.proofs.Results.{order_low, closed_low, written_low}
use Rattle.bytes_service_image.specs.Image.{service_from}
use Rattle.bytes_calls.specs.Calls.{stepped_at, with_rows, on_service, write_packet_call, write_picture_call}
use Rattle.abi_functions.specs.Ours.{functions}
use Rattle.promise_calls.proofs.Low.{not_two}

stepped_back : (b : List ℕ) (x : Result Step ℕ) (t : Service) → (stepped_at b x t).number % 256 ≡ 0 → (stepped_at b x t).bytes ≡ b
stepped_back b (Ok (Step.Order o)) t e = absurd (not_two (order_low o) e refl)
stepped_back b (Ok (Step.Closed a n)) t e = absurd (not_two (closed_low a n) e refl)
stepped_back b (Err n) t e = refl

service_back : (b : List ℕ) (r : Option Service) (psus chargers : List ℕ) (f : Service → Records → Stepped) → (on_service b r psus chargers f).number % 256 ≡ 0 →
    (on_service b r psus chargers f).bytes ≡ b
service_back b None psus chargers f e = refl
service_back b (Some s) psus chargers f e = go (rows_in s.registration psus chargers) e
  where
    go : (r : Option Records) → (with_rows b r (f s)).number % 256 ≡ 0 → (with_rows b r (f s)).bytes ≡ b
    go (Some r) q = stepped_back b (f s r).step (f s r).service q
    go None q = refl

written_back : (bytes buffer : List ℕ) → (written_call bytes buffer).number % 256 ≡ 0 → (written_call bytes buffer).bytes ≡ buffer
written_back bytes buffer e = go (ltb (length buffer) 64) e
  where
    go : (t : Bool) → written_as (cond t (Err 29) (Ok (length bytes))) % 256 ≡ 0 → cond t buffer (sets buffer 0 bytes) ≡ buffer
    go true q = refl
    go false q = absurd (not_two (written_low (length bytes)) q refl)

packet_back : (x : Result EventPacket ℕ) (buffer : List ℕ) → (packet_call x buffer).number % 256 ≡ 0 → (packet_call x buffer).bytes ≡ buffer
packet_back (Err n) buffer e = refl
packet_back (Ok p) buffer e = written_back (event_bytes p) buffer e

picture_back : (x : Result Picture ℕ) (buffer : List ℕ) → (picture_call x buffer).number % 256 ≡ 0 → (picture_call x buffer).bytes ≡ buffer
picture_back (Err n) buffer e = refl
picture_back (Ok p) buffer e = written_back (picture_bytes p) buffer e

write_packet_back : (r : Option Service) (buffer : List ℕ) → (write_packet_call r buffer).number % 256 ≡ 0 → (write_packet_call r buffer).bytes ≡ buffer
write_packet_back None buffer e = refl
write_packet_back (Some s) buffer e = packet_back (send_packet s) buffer e

write_picture_back : (r : Option Service) (buffer : List ℕ) → (write_picture_call r buffer).number % 256 ≡ 0 → (write_picture_call r buffer).bytes ≡ buffer
write_picture_back None buffer e = refl
write_picture_back (Some s) buffer e = picture_back (send_picture s) buffer e

pub call_back : (b : List ℕ) (c : ByteCall) → returned functions b c % 256 ≡ 0 → (image_after functions b c ≡ b) × (buffer_after functions b c ≡ buffer_in c)
call_back b (open_event psus chargers kind device detail) e =
    (service_back b (service_from b) psus chargers (λ s r. open_of s kind device detail r) e, refl)
call_back b (give_answer psus chargers a) e = (service_back b (service_from b) psus chargers (λ s r. answer_of s a r) e, refl)
call_back b read_order e = (refl, refl)
call_back b (write_packet buffer) e = (refl, write_packet_back (service_from b) buffer e)
call_back b (write_picture buffer) e = (refl, write_picture_back (service_from b) buffer e)
