-- What a write of a run has written are the bytes of the packet or picture that the definition has there: low byte 3 comes from a write that is not turned
-- back, and the length of at most 64 in the next byte is that of the bytes at the front of the buffer.
use Rattle.std.specs.Prelude.{Err, Ok, Result}
use mathlib.Core.Path.{◌≡◌, refl, sym, ap, ◌∙◌, subst}
use mathlib.Core.Bool.{Bool, true, false, cond}
use mathlib.Core.List.{List, [], ◌∷◌, ◌++◌, append_assoc}
use mathlib.Core.Logic.{inl, inr}
use Prim.Native.Nat.{ℕ, ◌+◌, ◌/◌, ◌%◌, ◌≤◌}
use native.Mathlib.Omega.{arith}
use lib.Dec.{ltb}
use lib.ListN.{length, take, drop}
use lib.Seq.{sets, sets-eq, take-append_seam}
use borrow.Author.Tests.{ltb-false}
use Rattle.interface_display.specs.declared.packet.EventPacket.{EventPacket}
use Rattle.interface_display.specs.declared.packet.Packet.{Packet}
use Rattle.interface_display.specs.declared.packet.Picture.{Picture}
use Rattle.abstract_policy.specs.Policy as policy
use Rattle.abstract_policy.specs.Policy.{Call, Policy, started, policies}
use Rattle.abstract_policy.specs.Returns.{packet_to, picture_to}
use Rattle.abstract_policy.specs.declared.state.Registration.{Registration}
use Rattle.abstract_policy.proofs.Chosen.{policies_append}
use Rattle.machine_service.specs.declared.Service.{Service}
use Rattle.wire.specs.Bytes.{packet_bytes}
use Rattle.wire.specs.Read.{read_packet}
use Rattle.wire.proofs.Lengths.{packet_length}
use Rattle.promise_link.proofs.Lists.{read_back}
use Rattle.promise_run.specs.Demands as run
use Rattle.promise_run.specs.Demands.{OnLink}
use Rattle.promise_run.specs.Run as runs
use Rattle.promise_run.specs.Run.{after_call, services}
use Rattle.abstract_calls.specs.Lent.{written_as, written_call, packet_call, picture_call}
use Rattle.abstract_calls.specs.Numbers.{written_number}
use Rattle.abstract_calls.specs.ServiceCall.{ByteCall, write_packet, write_picture, in_buffer}
use Rattle.abstract_calls.specs.Called.{Called, refused_call}
use Rattle.abstract_calls.specs.Calls.{returned, buffer_after, images, CallsBytes, Writes}
use Rattle.abstract_calls.specs.Definition.{call_of, calls_of, defined, return_to, buffer_to}
use Rattle.abstract_calls.proofs.Results.{refused_low, written_length}
use Rattle.bytes_service_image.specs.Image.{service_bytes}
use Rattle.promise_invariant.proofs.Good.{Good}
use Rattle.abi_functions.specs.Ours.{functions}
use Rattle.promise_calls.proofs.Low.{not_two}
use Rattle.promise_calls.proofs.Reached.{reached_equal, reached_returns, reached_buffers}

-- so many bytes of the buffer are those written
front : (bytes buffer : List ℕ) → length bytes ≤ 64 → 64 ≤ length buffer → take (written_number (length bytes) / 256 % 256) (sets buffer 0 bytes) ≡ bytes
front bytes buffer l m =
    ap (λ (n : ℕ). take n (sets buffer 0 bytes)) (written_length (length bytes) l)
    ∙ (ap (λ (x : List ℕ). take (length bytes) x) (sets-eq bytes buffer 0 (omega (arith, l, m)))
    ∙ take-append_seam bytes (drop (0 + length bytes) buffer))

-- lists of calls

pub calls_on : (p : Policy) (l m : List ByteCall) → calls_of p (l ++ m) ≡ calls_of p l ++ calls_of (policies p (calls_of p l)) m
calls_on p [] m = refl
calls_on p (c ∷ l) m =
    let q = policies p (call_of p c) in
    ap (λ (x : List Call). call_of p c ++ x)
    (calls_on q l m ∙ ap (λ (x : Policy). calls_of q l ++ calls_of x m) (sym (policies_append p (call_of p c) (calls_of q l))))
    ∙ sym (append_assoc (call_of p c) (calls_of q l) (calls_of (policies p (calls_of p (c ∷ l))) m))

pub bytes_left : (l m : List ByteCall) → CallsBytes (l ++ m) → CallsBytes l
bytes_left [] m b = tt
bytes_left (c ∷ l) m b = (b.0, bytes_left l m b.1)

wrote_right : (l m : List Call) (s : Service) (p : Packet) → runs.HasSent (services s l) m p → runs.HasSent s (l ++ m) p
wrote_right [] m s p w = w
wrote_right (c ∷ l) m s p w = inr (wrote_right l m (after_call s c) p w)

module _ (s : Service) (good : Good s) (demands : run.Demands s) (calls : List ByteCall) (on : OnLink s (calls_of (started s.registration) calls)) where
  abbrev g : Registration
  g = s.registration

  -- these bytes are a packet's or picture's that the run wrote, and are read as it
  pub record Sent (y : List ℕ) (p : Packet) : Type 0 where
    pub written : on.source.Written p
    pub bytes : y ≡ packet_bytes p
    pub read : read_packet y ≡ Ok p

  module _ (before rest : List ByteCall) (b : CallsBytes before) where
    -- a write of the run: its packet is among what the run wrote
    sent : (w : ByteCall) (c : Call) (p : Packet) (buffer y : List ℕ) → calls ≡ before ++ (w ∷ rest) → call_of (defined g before) w ≡ in_buffer buffer c →
        runs.Sends (services s (calls_of (started g) before)) c p → (written_call (packet_bytes p) buffer).number % 256 ≡ 3 →
        y ≡ take ((written_call (packet_bytes p) buffer).number / 256 % 256) (written_call (packet_bytes p) buffer).bytes → Sent y p
    sent w c p buffer y among is told e f = go (ltb (length buffer) 64) refl is e f
      where
        number : Bool → ℕ
        number t = written_as (cond t (Err 29) (Ok (length (packet_bytes p))))

        wrote : call_of (defined g before) w ≡ c ∷ [] → runs.HasSent s (calls_of (started g) calls) p
        wrote q =
            subst (λ (l : List Call). runs.HasSent s l p) (sym (ap (calls_of (started g)) among ∙ calls_on (started g) before (w ∷ rest)))
            (wrote_right (calls_of (started g) before) (call_of (defined g before) w ++ calls_of (policies (defined g before) (call_of (defined g before) w)) rest) s p
            (subst (λ (l : List Call). runs.HasSent (services s (calls_of (started g) before)) (l ++ calls_of (policies (defined g before) (call_of (defined g before) w)) rest) p) (sym q) (inl told)))

        go : (t : Bool) → ltb (length buffer) 64 ≡ t → call_of (defined g before) w ≡ cond t [] (c ∷ []) → number t % 256 ≡ 3 →
            y ≡ take (number t / 256 % 256) (cond t buffer (sets buffer 0 (packet_bytes p))) → Sent y p
        go true t q h z = absurd (not_two (refused_low 29) h refl)
        go false t q h z =
            let v : on.source.Written p = (on.written p).1 (wrote q) in
            let k : y ≡ packet_bytes p = z ∙ front (packet_bytes p) buffer (packet_length p (on.source.fits p v)) (ltb-false (length buffer) 64 t) in
            record { written = v; bytes = k; read = read_back on.source p y v k }

    -- a write of the run of what the policy has, or is refused: what was written is what it has, as the packet `of` it
    module _ {A : Type 0} (of : A → Packet) (asked : Result A ℕ) (w : ByteCall) (c : Call) (buffer : List ℕ) (made : Result A ℕ → Called)
        (turned : (n : ℕ) → made (Err n) ≡ refused_call n buffer) (wrote : (v : A) → made (Ok v) ≡ written_call (packet_bytes (of v)) buffer)
        (one : call_of (defined g before) w ≡ in_buffer buffer c)
        (number : return_to (defined g before) w ≡ (made asked).number) (bytes : buffer_to (defined g before) w ≡ (made asked).bytes)
        (told : (v : A) → asked ≡ Ok v → runs.Sends (services s (calls_of (started g) before)) c (of v)) where
      any-sent : (y : List ℕ) → calls ≡ before ++ (w ∷ rest) → Writes functions (images functions (service_bytes s) before) w y →
          (v : A) × (asked ≡ Ok v) × Sent y (of v)
      any-sent y among h =
          go asked refl
          (ap (λ (n : ℕ). n % 256) (sym n) ∙ h.0)
          (h.1
          ∙ (ap (λ (m : ℕ). take (m / 256 % 256) (buffer_after functions (images functions (service_bytes s) before) w)) n
          ∙ ap (λ (l : List ℕ). take ((made asked).number / 256 % 256) l) (reached_buffers s good demands before b w ∙ bytes)))
        where
          n : returned functions (images functions (service_bytes s) before) w ≡ (made asked).number
          n = reached_returns s good demands before b w ∙ number

          go : (x : Result A ℕ) → asked ≡ x → (made x).number % 256 ≡ 3 → y ≡ take ((made x).number / 256 % 256) (made x).bytes → (v : A) × (asked ≡ Ok v) × Sent y (of v)
          go (Err k) q e f = absurd (not_two (refused_low k) (ap (λ (r : Called). r.number % 256) (sym (turned k)) ∙ e) refl)
          go (Ok v) q e f = (
            v,
            q,
            sent w c (of v) buffer y among one (told v q) (ap (λ (r : Called). r.number % 256) (sym (wrote v)) ∙ e)
                (f ∙ ap (λ (r : Called). take (r.number / 256 % 256) r.bytes) (wrote v)),
          )

    pub packet-sent : (buffer y : List ℕ) → calls ≡ before ++ (write_packet buffer ∷ rest) → Writes functions (images functions (service_bytes s) before) (write_packet buffer) y →
        (e : EventPacket) × (packet_to (defined g before) ≡ Ok e) × Sent y (Packet.Event e)
    packet-sent buffer y among w =
        any-sent Packet.Event (packet_to (defined g before)) (write_packet buffer) policy.write_packet buffer (λ x. packet_call x buffer) (λ n. refl) (λ e. refl) refl refl refl
        (λ e q. (e, (reached_equal s good demands before b).packet ∙ q, refl)) y among w

    pub picture-sent : (buffer y : List ℕ) → calls ≡ before ++ (write_picture buffer ∷ rest) → Writes functions (images functions (service_bytes s) before) (write_picture buffer) y →
        (v : Picture) × (picture_to (defined g before) ≡ Ok v) × Sent y (Packet.Picture v)
    picture-sent buffer y among w =
        any-sent Packet.Picture (picture_to (defined g before)) (write_picture buffer) policy.write_picture buffer (λ x. picture_call x buffer) (λ n. refl) (λ v. refl) refl refl refl
        (λ v q. (v, (reached_equal s good demands before b).picture ∙ q, refl)) y among w
