-- What each C function returns and what it leaves in the bytes it is lent (docs/STATE.md). A call that is turned back leaves them as they were.
use Rattle.std.specs.Prelude.{ℕ, cond, List, eqb, length, Err, None, Ok, Option, Result, Some}
use Rattle.power_policy_interface.specs.Limits.{service_length, follower_length}
use Rattle.power_policy_interface.specs.Refusal.{refusal_number}
use Rattle.power_policy_interface.specs.declared.refusal.Refusal.{Refusal}
use Rattle.interface_display.specs.declared.State.{State}
use Rattle.abstract_policy.specs.declared.order.Order.{Order}
use Rattle.interface_display.specs.declared.packet.Packet.{Packet}
use Rattle.power_policy_service.specs.declared.config.Config.{Config}
use Rattle.abstract_policy.specs.declared.state.Records.{Records}
use Rattle.abstract_policy.specs.declared.outcome.Step.{Step}
use Rattle.machine_state.specs.Phase.{order_of}
use Rattle.machine_state.specs.declared.phase.Phase.{Phase}
use Rattle.machine_service.specs.Service.{Stepped, answer_in, start_of, open_of, answer_of}
use Rattle.machine_service.specs.declared.Service.{Service}
use Rattle.machine_service.specs.Send.{send_packet, send_picture}
use Rattle.wire.specs.Read.{read_packet}
use Rattle.desk_follower.specs.Follower.{fresh, taken, state_of, consumer_of}
use Rattle.desk_follower.specs.declared.Follower.{Follower}
use Rattle.desk_follower.specs.declared.Shown.{Shown}
use Rattle.desk_report.specs.Page.{page_bytes, page_for}
use Rattle.abstract_calls.specs.Called.{Called, called, refused_call}
use Rattle.abstract_calls.specs.Lent.{rows_in, packet_call, picture_call, page_call}
use Rattle.abstract_calls.specs.Numbers.{refused_number, order_number, closed_number, done_number, consumer_number, lost_number, shown_number, tracked_number}
use Rattle.bytes_service_image.specs.Image.{service_bytes, service_from}
use Rattle.bytes_follower_image.specs.Image.{follower_bytes, follower_from}

-- the number of a call, or that of what turns it back
abbrev pub number_of : Result ℕ Refusal → ℕ
number_of (Ok n) = n
number_of (Err r) = refused_number (refusal_number r)

-- start: REF-20, then REF-21 for bytes of another length than an image's

abbrev pub started_call : List ℕ → Result Service ℕ → Called
started_call image (Err n) = refused_call n image
started_call image (Ok s) = cond (eqb (length image) service_length) (called done_number (service_bytes s)) (refused_call 21 image)

abbrev pub start_call : List ℕ → Option Config → ℕ → ℕ → Called
start_call image config ports chargers = started_call image (start_of config ports chargers)

-- the image of a service in bytes of its length; others stay
abbrev pub put_service : List ℕ → Service → List ℕ
put_service image s = cond (eqb (length image) service_length) (service_bytes s) image

-- open and answer: 21, then 22 for records of another length or with a field out of range, then what turns the service's call back

abbrev pub stepped_at : List ℕ → Result Step ℕ → Service → Called
stepped_at image (Ok (Step.Order o)) s = called (order_number o) (put_service image s)
stepped_at image (Ok (Step.Closed a n)) s = called (closed_number a n) (put_service image s)
stepped_at image (Err n) s = refused_call n image

abbrev pub stepped_call : List ℕ → Stepped → Called
stepped_call image x = stepped_at image x.step x.service

abbrev pub with_rows : List ℕ → Option Records → (Records → Stepped) → Called
with_rows image None f = refused_call 22 image
with_rows image (Some r) f = stepped_call image (f r)

abbrev pub on_service : List ℕ → Option Service → List ℕ → List ℕ → (Service → Records → Stepped) → Called
on_service image None psus chargers f = refused_call 21 image
on_service image (Some s) psus chargers f =
    with_rows image (rows_in s.registration psus chargers) (f s)

abbrev pub open_call : List ℕ → List ℕ → List ℕ → ℕ → ℕ → ℕ → Called
open_call image psus chargers kind device detail =
    on_service image (service_from image) psus chargers (λ s r. open_of s kind device detail r)

abbrev pub answer_call : List ℕ → List ℕ → List ℕ → ℕ → Called
answer_call image psus chargers a = on_service image (service_from image) psus chargers (λ s r. answer_of s a r)

-- order: where the event stands; closed, with how many orders it gave

abbrev pub stand_number : Option Order → Phase → ℕ → ℕ
stand_number None p n = closed_number (answer_in p) n
stand_number (Some o) p n = order_number o

abbrev pub order_call : Option Service → ℕ
order_call None = refused_number 21
order_call (Some s) = stand_number (order_of s.phase) s.phase s.orders

-- both writes, into a buffer: 21, then 25 and 27, then 29

abbrev pub write_packet_call : Option Service → List ℕ → Called
write_packet_call None buffer = refused_call 21 buffer
write_packet_call (Some s) buffer = packet_call (send_packet s) buffer

abbrev pub write_picture_call : Option Service → List ℕ → Called
write_picture_call None buffer = refused_call 21 buffer
write_picture_call (Some s) buffer = picture_call (send_picture s) buffer

-- the follower

-- the image of a follower in bytes of its length; others stay
abbrev pub put_follower : List ℕ → Follower → List ℕ
put_follower image f = cond (eqb (length image) follower_length) (follower_bytes f) image

abbrev pub follower_start_call : List ℕ → Called
follower_start_call image = cond (eqb (length image) follower_length) (called done_number (follower_bytes fresh)) (refused_call 21 image)

abbrev pub taken_call : List ℕ → Follower → Result Packet ℕ → Called
taken_call image f (Err n) = refused_call n image
taken_call image f (Ok p) = called done_number (put_follower image (taken f p))

-- 21, then the first of 30 to 33 from the left
abbrev pub take_on : List ℕ → Option Follower → List ℕ → Called
take_on image None packet = refused_call 21 image
take_on image (Some f) packet = taken_call image f (read_packet packet)

abbrev pub take_call : List ℕ → List ℕ → Called
take_call image packet = take_on image (follower_from image) packet

-- what is shown

abbrev pub shown_as : State → Shown → ℕ
shown_as t (Shown.Lost floor) = lost_number
shown_as t (Shown.Picture s) = shown_number t s.number s.display

abbrev pub tracked_in : Shown → ℕ
tracked_in (Shown.Lost floor) = tracked_number (record { mask = 0 })
tracked_in (Shown.Picture s) = tracked_number s.display.providers

abbrev pub reader_call : Option Follower → (Follower → ℕ) → ℕ
reader_call None t = refused_number 21
reader_call (Some f) t = t f

abbrev pub shown_call : Option Follower → ℕ
shown_call r = reader_call r (λ f. shown_as (state_of f) f.shown)

abbrev pub consumer_call : Option Follower → ℕ
consumer_call r = reader_call r (λ f. consumer_number (consumer_of f.shown))

abbrev pub tracked_call : Option Follower → ℕ
tracked_call r = reader_call r (λ f. tracked_in f.shown)

-- the page, into a buffer: 21, then 34
abbrev pub write_page_call : Option Follower → List ℕ → Called
write_page_call None buffer = refused_call 21 buffer
write_page_call (Some f) buffer = page_call (page_bytes (page_for f)) buffer
