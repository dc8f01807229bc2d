-- Ours keep the promise: after every list of calls the image is that of a well-formed service that stands where the definition stands.
use Rattle.std.specs.Prelude.{None, Ok, Option, Some}
use mathlib.Core.Path.{◌≡◌, refl, sym, ap, ◌∙◌, subst}
use mathlib.Core.Bool.{Bool, false}
use mathlib.Core.List.{List, [], ◌∷◌, ◌++◌}
use mathlib.Core.Logic.{inl, inr}
use Prim.Native.Nat.{ℕ}
use lib.Dec.{eqb}
use lib.ListN.{length}
use Rattle.power_policy_interface.specs.Limits.{service_length, follower_length}
use Rattle.interface_records.specs.Row.{AllBytes}
use Rattle.interface_display.specs.declared.packet.EventPacket.{EventPacket}
use Rattle.interface_display.specs.declared.packet.Packet.{Packet}
use Rattle.interface_display.specs.declared.packet.Picture.{Picture}
use Rattle.power_policy_service.specs.declared.config.Config.{Config}
use Rattle.abstract_policy.specs.Refusals.{first_refused, Applies, waiting}
use Rattle.abstract_policy.specs.Policy.{Policy, Stand, between, at, order_at, is_at, started}
use Rattle.abstract_policy.specs.Returns.{packet_to, picture_to}
use Rattle.abstract_policy.specs.declared.state.Registration.{Registration}
use Rattle.machine_state.specs.Phase.{order_of}
use Rattle.machine_service.specs.Service.{start_of, fresh_service}
use Rattle.machine_service.specs.declared.Service.{Service}
use Rattle.wire.specs.Read.{read_packet}
use Rattle.promise_run.specs.Demands as run
use Rattle.promise_run.specs.Demands.{Equal}
use Rattle.promise_run.proofs.Linked.{after_start}
use Rattle.promise_run.proofs.Starts.{start_fits}
use Rattle.abstract_calls.specs.Numbers.{refused_number}
use Rattle.abstract_calls.specs.ServiceCall.{ByteCall, open_event, give_answer, read_order, write_packet, write_picture}
use Rattle.abstract_calls.specs.Calls.{buffer_in, CallsBytes, image_after, returned, buffer_after, images, Writes, desk_after, desk_returned, desk_buffer_in, desk_buffer_after}
use Rattle.abstract_calls.specs.DeskCall.{DeskCall, take_packet, read_shown, read_consumer, read_tracked, write_page}
use Rattle.abstract_calls.specs.Functions.{Arguments, config_of}
use Rattle.abstract_calls.specs.Definition.{calls_of, defined, conditions_to, Refuses}
use Rattle.bytes_service_image.specs.Image.{service_bytes, service_from}
use Rattle.bytes_service_image.proofs.Service.{service_bytes_lem}
use Rattle.bytes_service_image.proofs.Stored.{service_length_lem}
use Rattle.bytes_follower_image.specs.Image.{follower_from}
use Rattle.promise_invariant.proofs.Good.{Good}
use Rattle.bytes_calls.specs.Calls.{start_call}
use Rattle.abi_functions.specs.Ours.{functions}
use Rattle.interface_records.proofs.OneRow.{no_bytes}
use Rattle.abstract_calls.proofs.Lists.{bytes_more}
use Rattle.promise_calls.specs.Refused.{of_image, refusals_of}
use Rattle.promise_calls.proofs.Images.{calls_fit, image_read}
use Rattle.promise_calls.proofs.First.{call_refuses, start_refuses}
use Rattle.promise_calls.proofs.Reached.{reached, reached_good, reached_equal, reached_image, reached_returns, reached_buffers, fits_good}
use Rattle.promise_calls.proofs.Turned.{call_back}
use Rattle.promise_calls.proofs.Written.{packet-sent, picture-sent}
use Rattle.promise.specs.Promise.{start_refused, registers, Serves, Promise}
use Rattle.promise.proofs.Desk.{ours_follower_starts}
use Rattle.promise.proofs.Linked.{ours-link}
use Rattle.promise.proofs.Starts.{start_leaves, start_number, start_back}

-- 21 does not apply to the image of a service: the conditions are those of the definition where it stands

without : (l : List (Bool × ℕ)) (n : ℕ) → Refuses ((false, 21) ∷ l) n → Refuses l n
without l n r = record {
  first = record {
    applies = λ z. go (first_refused l) (r.first.applies z);
    before = λ m a. r.first.before m (inr a);
    none = λ e m a. r.first.none e m (inr a);
    no_other = λ k. r.first.no_other (λ m a. k m (go m a));
  };
  turned_back = r.turned_back;
  accepted = r.accepted;
}
  where
    go : (m : ℕ) → Applies m ((false, 21) ∷ l) → Applies m l
    go m (inl x) = absurd (cc (x.0))
    go m (inr x) = x

open_is : (x : Stand) → waiting (order_at x) ≡ is_at x
open_is between = refl
open_is (at n o k) = refl

module _ (s : Service) (p : Policy) (q : Equal s p) where
  open_same : waiting (order_of s.phase) ≡ is_at p.stand
  open_same = ap waiting q.order ∙ open_is p.stand

  same_conditions : (c : ByteCall) → refusals_of s c ≡ conditions_to p c
  same_conditions (open_event psus chargers kind device detail) = rw (q.registered, q.number, open_same) refl
  same_conditions (give_answer psus chargers a) = rw (q.registered, q.order) refl
  same_conditions read_order = refl
  same_conditions (write_packet buffer) = rw (q.number, open_same) refl
  same_conditions (write_picture buffer) = rw open_same refl

module _ (s : Service) (good : Good s) (demands : run.Demands s) where
  abbrev g : Registration
  g = s.registration

  abbrev image : List ℕ
  image = service_bytes s

  refuses : (l : List ByteCall) (c : ByteCall) → CallsBytes l → Refuses (conditions_to (defined g l) c) (returned functions (images functions image l) c)
  refuses l c b =
      let t = reached s l in
      let h = reached_good s good demands l b in
      subst (λ (i : List ℕ). Refuses (conditions_to (defined g l) c) (returned functions i c)) (reached_image s good demands l b)
      (subst (λ (z : List (Bool × ℕ)). Refuses z (returned functions (service_bytes t) c)) (same_conditions t (defined g l) (reached_equal s good demands l b) c)
      (without (refusals_of t c) (returned functions (service_bytes t) c)
      (subst (λ (r : Option Service). Refuses (of_image r (λ x. refusals_of x c)) (returned functions (service_bytes t) c)) (image_read t h) (call_refuses (service_bytes t) c))))

  -- what is written at the end of a run, as a run of its own
  packet_read : (l : List ByteCall) (buffer y : List ℕ) → CallsBytes l → Writes functions (images functions image l) (write_packet buffer) y →
      (e : EventPacket) × (packet_to (defined g l) ≡ Ok e) × (read_packet y ≡ Ok (Packet.Event e))
  packet_read l buffer y b w =
      let calls : List ByteCall = l ++ (write_packet buffer ∷ []) in
      let z = packet-sent s good demands calls (demands.demand_3 (calls_of (started g) calls) (calls_fit (started g) calls (bytes_more l (write_packet buffer) b no_bytes))) l [] b buffer y refl w in
      (z.0, z.1, z.2.read)

  picture_read : (l : List ByteCall) (buffer y : List ℕ) → CallsBytes l → Writes functions (images functions image l) (write_picture buffer) y →
      (v : Picture) × (picture_to (defined g l) ≡ Ok v) × (read_packet y ≡ Ok (Packet.Picture v))
  picture_read l buffer y b w =
      let calls : List ByteCall = l ++ (write_picture buffer ∷ []) in
      let z = picture-sent s good demands calls (demands.demand_3 (calls_of (started g) calls) (calls_fit (started g) calls (bytes_more l (write_picture buffer) b no_bytes))) l [] b buffer y refl w in
      (z.0, z.1, z.2.read)

  ours_serves : Serves functions image g
  ours_serves = record {
    refuses = refuses;
    turned_back = λ l c b e. call_back (images functions image l) c e;
    returns = λ l c b. reached_returns s good demands l b c;
    buffers = λ l c b. reached_buffers s good demands l b c;
    packet_read = packet_read;
    picture_read = picture_read;
    size = λ l b. ap length (sym (reached_image s good demands l b)) ∙ service_length_lem (reached s l);
    bytes = λ l b.
        let h = reached_good s good demands l b in
        subst AllBytes (reached_image s good demands l b) (service_bytes_lem (reached s l) h.typed h.fits);
    link = λ calls b x e. ours-link s good demands calls b (demands.demand_3 (calls_of (started g) calls) (calls_fit (started g) calls b)) x e;
  }

-- a service that a start gave

pub started_good : (a : Arguments) (s : Service) → start_of (config_of a) a.ports a.chargers ≡ Ok s → Good s
started_good a s e =
    fits_good a.ports a.chargers s
    (start_fits a.threshold_mw a.unlimited_mv a.unlimited_ma a.limited_mv a.limited_ma a.minimum_present a.minimum_mw a.ports a.chargers s e)

pub started_demands : (a : Arguments) (s : Service) → start_of (config_of a) a.ports a.chargers ≡ Ok s → run.Demands s
started_demands a s e =
    after_start a.threshold_mw a.unlimited_mv a.unlimited_ma a.limited_mv a.limited_ma a.minimum_present a.minimum_mw a.ports a.chargers s e

-- a start

start_serves : (image : List ℕ) (a : Arguments) → start_refused image a ≡ 0 → (c : Config) → config_of a ≡ Some c →
    Serves functions (start_call image (config_of a) a.ports a.chargers).bytes (registers a c)
start_serves image a q c e =
    let z = start_leaves image a.ports a.chargers (config_of a) c e q in
    let s : Service = fresh_service c a.ports a.chargers in
    subst (λ (b : List ℕ). Serves functions b (registers a c)) (sym z.bytes) (ours_serves s (started_good a s z.service) (started_demands a s z.service))

-- bytes of another length

no_service : (b : List ℕ) → eqb (length b) service_length ≡ false → service_from b ≡ None
unfolding service_from
no_service b e = rw e refl

no_follower : (b : List ℕ) → eqb (length b) follower_length ≡ false → follower_from b ≡ None
no_follower b e = rw e refl

service_other : (b : List ℕ) (c : ByteCall) → eqb (length b) service_length ≡ false →
    (returned functions b c ≡ refused_number 21) × (image_after functions b c ≡ b) × (buffer_after functions b c ≡ buffer_in c)
service_other b (open_event psus chargers kind device detail) e = rw (returned, image_after, no_service b e) (refl, refl, refl)
service_other b (give_answer psus chargers a) e = rw (returned, image_after, no_service b e) (refl, refl, refl)
service_other b read_order e = rw (returned, image_after, no_service b e) (refl, refl, refl)
service_other b (write_packet buffer) e = rw (returned, buffer_after, no_service b e) (refl, refl, refl)
service_other b (write_picture buffer) e = rw (returned, buffer_after, no_service b e) (refl, refl, refl)

desk_other : (b : List ℕ) (c : DeskCall) → eqb (length b) follower_length ≡ false →
    (desk_returned functions b c ≡ refused_number 21) × (desk_after functions b c ≡ b) × (desk_buffer_after functions b c ≡ desk_buffer_in c)
desk_other b (take_packet y) e = rw (desk_returned, desk_after, no_follower b e) (refl, refl, refl)
desk_other b read_shown e = rw (desk_returned, desk_after, no_follower b e) (refl, refl, refl)
desk_other b read_consumer e = rw (desk_returned, desk_after, no_follower b e) (refl, refl, refl)
desk_other b read_tracked e = rw (desk_returned, desk_after, no_follower b e) (refl, refl, refl)
desk_other b (write_page buffer) e = rw (desk_returned, desk_buffer_after, no_follower b e) (refl, refl, refl)

pub promised : Promise functions
promised = record {
  start = λ image a. record {
    first = (start_refuses image (config_of a) a.ports a.chargers).first;
    number = start_number image a.ports a.chargers (config_of a);
    turned_back = start_back image a.ports a.chargers (config_of a);
    serves = start_serves image a;
  };
  follower_start = ours_follower_starts;
  other_length = record {
    service = service_other;
    desk = desk_other;
  };
}
