-- What a call on an image returns and leaves in its buffer is what the definition says: the image is read as the service, which stands where the
-- definition stands (promise_run Returns.antt).
use Rattle.std.specs.Prelude.{Err, None, Ok, Option, Result, Some}
use mathlib.Core.Path.{◌≡◌, refl, ap, ◌∙◌}
use mathlib.Core.List.{List}
use Prim.Native.Nat.{ℕ}
use Rattle.abstract_policy.specs.declared.order.Order.{Order}
use Rattle.interface_display.specs.declared.packet.EventPacket.{EventPacket}
use Rattle.interface_display.specs.declared.packet.Picture.{Picture}
use Rattle.power_policy_interface.specs.declared.psu.Error.{Error}
use Rattle.abstract_policy.specs.Policy.{Policy, Stand, between, at, order_at}
use Rattle.abstract_policy.specs.Returns.{open_to, answer_to}
use Rattle.abstract_policy.specs.declared.state.Records.{Records}
use Rattle.abstract_policy.specs.declared.state.Registration.{Registration}
use Rattle.abstract_policy.specs.declared.outcome.Step.{Step}
use Rattle.machine_state.specs.Phase.{order_of}
use Rattle.machine_service.specs.Service.{Stepped, answer_in, open_of, answer_of}
use Rattle.machine_service.specs.declared.Service.{Service}
use Rattle.promise_run.specs.Demands.{Equal}
use Rattle.abstract_calls.specs.Lent.{rows_in, packet_call, picture_call}
use Rattle.abstract_calls.specs.Numbers.{closed_number, step_number}
use Rattle.abstract_calls.specs.ServiceCall.{ByteCall, open_event, give_answer, read_order, write_packet, write_picture, rows_to, stand_to}
use Rattle.abstract_calls.specs.Calls.{returned, buffer_after}
use Rattle.abstract_calls.specs.Definition.{return_to, buffer_to}
use Rattle.bytes_service_image.specs.Image.{service_bytes}
use Rattle.promise_invariant.proofs.Good.{Good}
use Rattle.bytes_calls.specs.Calls.{stepped_at, with_rows, on_service, stand_number, order_call, write_packet_call, write_picture_call}
use Rattle.abi_functions.specs.Ours.{functions}
use Rattle.promise_calls.proofs.Images.{image_read}

stepped_number : (b : List ℕ) (x : Result Step ℕ) (t : Service) → (stepped_at b x t).number ≡ step_number x
stepped_number b (Ok (Step.Order o)) t = refl
stepped_number b (Ok (Step.Closed a n)) t = refl
stepped_number b (Err n) t = refl

rows_number : (b : List ℕ) (r : Option Records) (f : Records → Stepped) (k : Records → Result Step ℕ) → ((x : Records) → (f x).step ≡ k x) →
    (with_rows b r f).number ≡ rows_to r (λ x. step_number (k x))
rows_number b None f k e = refl
rows_number b (Some r) f k e = stepped_number b (f r).step (f r).service ∙ ap step_number (e r)

stand_number_lem : (s : Service) (p : Policy) (x : Stand) → order_of s.phase ≡ order_at x → (x ≡ between → answer_in s.phase ≡ p.answer) →
    (x ≡ between → s.orders ≡ p.orders) → stand_number (order_of s.phase) s.phase s.orders ≡ stand_to x p
stand_number_lem s p between e a n =
    ap (λ (o : Option Order). stand_number o s.phase s.orders) e
    ∙ (ap (λ (x : Result (Unit {0}) Error). closed_number x s.orders) (a refl) ∙ ap (closed_number p.answer) (n refl))
stand_number_lem s p (at n o k) e a m = ap (λ (q : Option Order). stand_number q s.phase s.orders) e

module _ (s : Service) (p : Policy) (h : Good s) (q : Equal s p) where
  pub returns_are : (c : ByteCall) → returned functions (service_bytes s) c ≡ return_to p c
  returns_are (open_event psus chargers kind device detail) =
      ap (λ (x : Option Service). (on_service (service_bytes s) x psus chargers (λ t r. open_of t kind device detail r)).number) (image_read s h)
      ∙ (rows_number (service_bytes s) (rows_in s.registration psus chargers) (λ r. open_of s kind device detail r) (λ r. open_to p kind device detail r)
      (λ r. q.opening kind device detail r)
      ∙ ap (λ (g : Registration). rows_to (rows_in g psus chargers) (λ r. step_number (open_to p kind device detail r))) q.registered)
  returns_are (give_answer psus chargers a) =
      ap (λ (x : Option Service). (on_service (service_bytes s) x psus chargers (λ t r. answer_of t a r)).number) (image_read s h)
      ∙ (rows_number (service_bytes s) (rows_in s.registration psus chargers) (λ r. answer_of s a r) (λ r. answer_to p.stand a r) (λ r. q.answering a r)
      ∙ ap (λ (g : Registration). rows_to (rows_in g psus chargers) (λ r. step_number (answer_to p.stand a r))) q.registered)
  returns_are read_order = ap order_call (image_read s h) ∙ stand_number_lem s p p.stand q.order q.answer q.orders
  returns_are (write_packet buffer) =
      ap (λ (x : Option Service). (write_packet_call x buffer).number) (image_read s h) ∙ ap (λ (x : Result EventPacket ℕ). (packet_call x buffer).number) q.packet
  returns_are (write_picture buffer) =
      ap (λ (x : Option Service). (write_picture_call x buffer).number) (image_read s h) ∙ ap (λ (x : Result Picture ℕ). (picture_call x buffer).number) q.picture

  pub buffers_are : (c : ByteCall) → buffer_after functions (service_bytes s) c ≡ buffer_to p c
  buffers_are (open_event psus chargers kind device detail) = refl
  buffers_are (give_answer psus chargers a) = refl
  buffers_are read_order = refl
  buffers_are (write_packet buffer) =
      ap (λ (x : Option Service). (write_packet_call x buffer).bytes) (image_read s h) ∙ ap (λ (x : Result EventPacket ℕ). (packet_call x buffer).bytes) q.packet
  buffers_are (write_picture buffer) =
      ap (λ (x : Option Service). (write_picture_call x buffer).bytes) (image_read s h) ∙ ap (λ (x : Result Picture ℕ). (picture_call x buffer).bytes) q.picture
