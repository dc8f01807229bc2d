-- A run is a writer on the link: a picture shows what the definition holds at its number, a packet without error leads from there to the next,
-- and an event has one packet. By induction on the calls; while the number stays, what is held stays.
use Rattle.std.specs.Prelude.{Err, None, Ok, Option, Result, Some}
use mathlib.Core.Path.{◌≡◌, refl, sym, ap, ◌∙◌, subst}
use mathlib.Core.Bool.{Bool, true, false, cond, not, ◌&&◌}
use mathlib.Core.List.{List, [], ◌∷◌}
use mathlib.Core.Logic.{⊎_elim}
use Prim.Native.Nat.{ℕ, suc, ◌<◌, ◌≤◌}
use native.Mathlib.Omega.{arith}
use lib.Dec.{leb, ltb, eqb}
use borrow.Author.Tests.{eq-eqb, ne_eqb, eqb-true, eqb-false, lt-ltb, le-leb}
use Rattle.power_policy_interface.specs.Psu.{answer_byte}
use Rattle.power_policy_interface.specs.declared.psu.Error.{Error}
use Rattle.interface_display.specs.declared.AvailableConsumer.{AvailableConsumer}
use Rattle.power_policy_interface.specs.declared.service.UnconstrainedState.{UnconstrainedState}
use Rattle.interface_display.specs.Notices as display
use Rattle.interface_display.specs.Notices.{applied_all, all_applied}
use Rattle.interface_display.specs.Providers.{len}
use Rattle.interface_display.specs.declared.Display.{Display}
use Rattle.interface_display.specs.declared.packet.EventPacket.{EventPacket}
use Rattle.interface_display.specs.declared.packet.Packet.{Packet}
use Rattle.interface_display.specs.declared.packet.Picture.{Picture}
use Rattle.abstract_policy.specs.State.{display_of}
use Rattle.abstract_policy.specs.Policy.{Call, open_event, give_answer, write_packet, write_picture, Policy, policy_after, held_at, policies}
use Rattle.abstract_policy.specs.declared.state.InternalState.{InternalState}
use Rattle.abstract_policy.specs.declared.state.Registration.{Registration}
use Rattle.machine_state.specs.Memory.{notices_with}
use Rattle.machine_state.specs.declared.memory.Disconnected.{Disconnected}
use Rattle.machine_state.specs.declared.memory.Memory.{Memory}
use Rattle.machine_state.specs.declared.memory.Notices.{Notices}
use Rattle.machine_state.specs.declared.memory.ProviderNotice.{ProviderNotice}
use Rattle.machine_state.specs.declared.phase.Phase.{Phase}
use Rattle.machine_service.specs.Refusals.{is_open}
use Rattle.machine_service.specs.declared.Service.{Service}
use Rattle.machine_service.specs.Send.{notices_of, packet_of, picture_of, send_packet, send_picture}
use Rattle.machine_follows.specs.Machine.{listed}
use Rattle.machine_follows.proofs.Serves.{service}
use Rattle.wire.specs.WellFormed.{notices_fit, consumer_fits, event_fits, picture_fits, well_formed}
use Rattle.promise_link.specs.Source.{number_in}
use Rattle.promise_run.specs.Run.{after_call, Sends, HasSent, CallsFit}
use Rattle.promise_run.proofs.Matches.{Last, policy_of, Closed, StateAt, Runs, Moved, stays, asks, closes, goes}
use Rattle.std.proofs.lemmas.Bool.{and_from, true≢false}

-- the notices of a packet are those of the event, in order

listed_with : (p : Option ProviderNotice) (d : Option Disconnected) (c : Option AvailableConsumer) (u : Option UnconstrainedState) →
    display.listed (notices_of (notices_with p d c u)) ≡ listed (notices_with p d c u)
listed_with None None None None = refl
listed_with None None None (Some u) = refl
listed_with None None (Some c) None = refl
listed_with None None (Some c) (Some u) = refl
listed_with None (Some x) None None = refl
listed_with None (Some x) None (Some u) = refl
listed_with None (Some x) (Some c) None = refl
listed_with None (Some x) (Some c) (Some u) = refl
listed_with (Some (ProviderNotice.Disconnected a)) None None None = refl
listed_with (Some (ProviderNotice.Disconnected a)) None None (Some u) = refl
listed_with (Some (ProviderNotice.Disconnected a)) None (Some c) None = refl
listed_with (Some (ProviderNotice.Disconnected a)) None (Some c) (Some u) = refl
listed_with (Some (ProviderNotice.Disconnected a)) (Some x) None None = refl
listed_with (Some (ProviderNotice.Disconnected a)) (Some x) None (Some u) = refl
listed_with (Some (ProviderNotice.Disconnected a)) (Some x) (Some c) None = refl
listed_with (Some (ProviderNotice.Disconnected a)) (Some x) (Some c) (Some u) = refl
listed_with (Some (ProviderNotice.Connected a b)) None None None = refl
listed_with (Some (ProviderNotice.Connected a b)) None None (Some u) = refl
listed_with (Some (ProviderNotice.Connected a b)) None (Some c) None = refl
listed_with (Some (ProviderNotice.Connected a b)) None (Some c) (Some u) = refl
listed_with (Some (ProviderNotice.Connected a b)) (Some x) None None = refl
listed_with (Some (ProviderNotice.Connected a b)) (Some x) None (Some u) = refl
listed_with (Some (ProviderNotice.Connected a b)) (Some x) (Some c) None = refl
listed_with (Some (ProviderNotice.Connected a b)) (Some x) (Some c) (Some u) = refl

pub listed_same : (n : Notices) → display.listed (notices_of n) ≡ listed n
listed_same n = listed_with n.provider n.disconnected n.connected n.unconstrained

-- what is held now is what is held at the present number

now_held : (q : Policy) (l : List Call) → held_at q l q.number ≡ display_of q.state
now_held q [] = refl
now_held q (c ∷ l) = rw (eq-eqb q.number q.number refl)

module _ (H : ℕ → Display) where
  abbrev Agrees : Policy → List Call → Type 0
  Agrees q l = (n : ℕ) → q.number ≤ n → H n ≡ held_at q l n

  now : (q : Policy) (l : List Call) → Agrees q l → H q.number ≡ display_of q.state
  now q l a = a q.number (omega arith) ∙ now_held q l

  -- later, where the number is not passed
  later : (q : Policy) (c : Call) (l : List Call) (t : Policy) → policy_after q c ≡ t → q.number ≤ t.number → (t.number ≡ q.number → display_of t.state ≡ display_of q.state) →
      Agrees q (c ∷ l) → Agrees t l
  later q c l t e le same a n m = a n (omega (arith, le, m)) ∙ go (eqb n q.number) refl
    where
      go : (b : Bool) → eqb n q.number ≡ b → cond b (display_of q.state) (held_at (policy_after q c) l n) ≡ held_at t l n
      go true x =
          let z : t.number ≡ q.number = omega (arith, eqb-true n q.number x, le, m) in
          let y : n ≡ t.number = omega (arith, eqb-true n q.number x, z) in
          sym (same z) ∙ (sym (now_held t l) ∙ ap (λ k. held_at t l k) (sym y))
      go false x = ap (λ z. held_at z l n) e

  moved_number : (s t : Service) (held heldₜ : Last) (before beforeₜ : InternalState) → Moved s t held heldₜ before beforeₜ → s.number ≤ t.number
  moved_number s t held heldₜ before beforeₜ (stays e f g) = let x : t.number ≡ s.number = ap (λ (z : Service). z.number) e in omega (arith, x)
  moved_number s t held heldₜ before beforeₜ (asks o e f g) = omega (arith, e)
  moved_number s t held heldₜ before beforeₜ (closes e f) = omega (arith, e)

  moved_held : (s t : Service) (held heldₜ : Last) (before beforeₜ : InternalState) → Moved s t held heldₜ before beforeₜ → t.number ≡ s.number → display_of heldₜ.state ≡ display_of held.state
  moved_held s t held heldₜ before beforeₜ (stays e f g) z = ap (λ (x : Last). display_of x.state) f
  moved_held s t held heldₜ before beforeₜ (asks o e f g) z = ap (λ (x : Last). display_of x.state) f
  moved_held s t held heldₜ before beforeₜ (closes e f) z = absurd (omega (arith, e, z))

  -- what was held at the number before
  abbrev Before : Service → InternalState → Type 0
  Before s before = (n : ℕ) → s.number ≡ suc n → H n ≡ display_of before

  before_on : (s t : Service) (held heldₜ : Last) (before beforeₜ : InternalState) → Moved s t held heldₜ before beforeₜ → H s.number ≡ display_of held.state → Before s before → Before t beforeₜ
  before_on s t held heldₜ before beforeₜ (stays e f g) h b n x = b n (sym (ap (λ (z : Service). z.number) e) ∙ x) ∙ ap display_of (sym g)
  before_on s t held heldₜ before beforeₜ (asks o e f g) h b n x = b n (sym e ∙ x) ∙ ap display_of (sym g)
  before_on s t held heldₜ before beforeₜ (closes e f) h b n x =
      let z : n ≡ s.number = omega (arith, e, x) in
      ap H z ∙ (h ∙ ap display_of (sym f))

  -- what a call writes

  abbrev Tells : Packet → Type 0
  Tells (Packet.Picture v) = v.display ≡ H v.number
  Tells (Packet.Event e) = (n : ℕ) → e.number ≡ suc n → e.answer ≡ 0 → all_applied e.notices (H n) ≡ H (suc n)

  done_ok : (a : Result (Unit {0}) Error) → answer_byte a ≡ 0 → a ≡ Ok tt
  done_ok (Ok tt) e = refl
  done_ok (Err Error.InvalidDevice) e = absurd (omega (arith, e))
  done_ok (Err Error.CannotProvide) e = absurd (omega (arith, e))
  done_ok (Err Error.CannotConsume) e = absurd (omega (arith, e))
  done_ok (Err (Error.InvalidState x)) e = absurd (omega (arith, e))
  done_ok (Err Error.InvalidResponse) e = absurd (omega (arith, e))
  done_ok (Err Error.Busy) e = absurd (omega (arith, e))
  done_ok (Err Error.Timeout) e = absurd (omega (arith, e))
  done_ok (Err Error.Bus) e = absurd (omega (arith, e))
  done_ok (Err Error.Charger) e = absurd (omega (arith, e))
  done_ok (Err Error.Failed) e = absurd (omega (arith, e))

  picture_tells : (g : Registration) (number k : ℕ) (a : Result (Unit {0}) Error) (m : Memory) (held : Last) (before : InternalState) → Closed k a m held before → H number ≡ display_of held.state →
      Tells (Packet.Picture (picture_of (service g number k (Phase.Closed a) m)))
  picture_tells g number k a m held before c h = ap (λ (x : Last). display_of x.state) c.same ∙ sym h

  packet_tells : (g : Registration) (number k : ℕ) (a : Result (Unit {0}) Error) (m : Memory) (held : Last) (before : InternalState) → Closed k a m held before → H number ≡ display_of held.state →
      Before (service g number k (Phase.Closed a) m) before → Tells (Packet.Event (packet_of (service g number k (Phase.Closed a) m)))
  packet_tells g number k a m held before c h b n e z =
      ap (λ l. applied_all l (H n)) (listed_same m.notices)
      ∙ (ap (λ d. applied_all (listed m.notices) d) (b n e)
      ∙ (sym (c.leads (done_ok a z)) ∙ (sym h ∙ ap H e)))

  -- a call that writes is made between events

  abbrev IsSent : EventPacket → Result EventPacket ℕ → Type 0
  IsSent e (Ok f) = e ≡ f
  IsSent e (Err n) = ⊥

  abbrev IsShown : Picture → Result Picture ℕ → Type 0
  IsShown v (Ok w) = v ≡ w
  IsShown v (Err n) = ⊥

  sent : (s : Service) (e : EventPacket) → send_packet s ≡ Ok e → (is_open s.phase ≡ false) × (e ≡ packet_of s) × (eqb s.number 0 ≡ false)
  sent s e q = go (is_open s.phase) refl (eqb s.number 0) refl (subst (IsSent e) (sym q) refl)
    where
      go : (x : Bool) → is_open s.phase ≡ x → (y : Bool) → eqb s.number 0 ≡ y →
          IsSent e (cond (eqb (cond x 25 (cond y 27 0)) 0) (Ok (packet_of s)) (Err (cond x 25 (cond y 27 0)))) →
          (is_open s.phase ≡ false) × (e ≡ packet_of s) × (eqb s.number 0 ≡ false)
      go true ex true ey z = absurd z
      go true ex false ey z = absurd z
      go false ex true ey z = absurd z
      go false ex false ey z = (ex, z, ey)

  shown : (s : Service) (v : Picture) → send_picture s ≡ Ok v → (is_open s.phase ≡ false) × (v ≡ picture_of s)
  shown s v q = go (is_open s.phase) refl (subst (IsShown v) (sym q) refl)
    where
      go : (x : Bool) → is_open s.phase ≡ x → IsShown v (cond (eqb (cond x 25 0) 0) (Ok (picture_of s)) (Err (cond x 25 0))) →
          (is_open s.phase ≡ false) × (v ≡ picture_of s)
      go true ex z = absurd z
      go false ex z = (ex, z)

  picture_at : (g : Registration) (number k : ℕ) (p : Phase) (m : Memory) (held : Last) (before : InternalState) → StateAt g number k p m held before → is_open p ≡ false → H number ≡ display_of held.state →
      Tells (Packet.Picture (picture_of (service g number k p m)))
  picture_at g number k (Phase.Closed a) m held before c o h = picture_tells g number k a m held before c h
  picture_at g number k (Phase.Leaving i p f) m held before c o h = absurd (true≢false o)
  picture_at g number k (Phase.Switching l old f new) m held before c o h = absurd (true≢false o)
  picture_at g number k (Phase.Connecting s new) m held before c o h = absurd (true≢false o)
  picture_at g number k (Phase.Providing p d) m held before c o h = absurd (true≢false o)

  packet_at : (g : Registration) (number k : ℕ) (p : Phase) (m : Memory) (held : Last) (before : InternalState) → StateAt g number k p m held before → is_open p ≡ false → H number ≡ display_of held.state →
      Before (service g number k p m) before → Tells (Packet.Event (packet_of (service g number k p m)))
  packet_at g number k (Phase.Closed a) m held before c o h b = packet_tells g number k a m held before c h b
  packet_at g number k (Phase.Leaving i p f) m held before c o h b = absurd (true≢false o)
  packet_at g number k (Phase.Switching l old f new) m held before c o h b = absurd (true≢false o)
  packet_at g number k (Phase.Connecting s new) m held before c o h b = absurd (true≢false o)
  packet_at g number k (Phase.Providing p d) m held before c o h b = absurd (true≢false o)

  writes_tells : (s : Service) (held : Last) (before : InternalState) (c : Call) (p : Packet) → Runs s held before → H s.number ≡ display_of held.state → Before s before → Sends s c p → Tells p
  writes_tells s held before (open_event kind device detail r) p x h b w = absurd w
  writes_tells s held before (give_answer a r) p x h b w = absurd w
  writes_tells s held before write_packet p x h b w =
      let q = sent s w.0 w.1 in
      subst Tells (sym (w.2 ∙ ap Packet.Event q.1)) (packet_at s.registration s.number s.orders s.phase s.memory held before x.state q.0 h b)
  writes_tells s held before write_picture p x h b w =
      let q = shown s w.0 w.1 in
      subst Tells (sym (w.2 ∙ ap Packet.Picture q.1)) (picture_at s.registration s.number s.orders s.phase s.memory held before x.state q.0 h)

  pub wrote_tells : (l : List Call) (s : Service) (held : Last) (before : InternalState) (p : Packet) → CallsFit l → Runs s held before → Agrees (policy_of s held) l → Before s before → HasSent s l p → Tells p
  wrote_tells [] s held before p cf x a b w = elim w [ ]
  wrote_tells (c ∷ l) s held before p cf x a b w =
      ⊎_elim (λ z. writes_tells s held before c p x (now (policy_of s held) (c ∷ l) a) b z)
      (λ z.
      let t = goes s held before c cf.0 x in
      wrote_tells l (after_call s c) t.heldₜ t.beforeₜ p cf.1 t.runs
      (later (policy_of s held) c l (policy_of (after_call s c) t.heldₜ) t.same
      (moved_number s (after_call s c) held t.heldₜ before t.beforeₜ t.moves)
      (moved_held s (after_call s c) held t.heldₜ before t.beforeₜ t.moves) a)
      (before_on s (after_call s c) held t.heldₜ before t.beforeₜ t.moves (now (policy_of s held) (c ∷ l) a) b) z)
      w

-- an event has one packet

abbrev pub packet_for : Service → List Call → ℕ → EventPacket
packet_for s [] n = packet_of s
packet_for s (c ∷ l) n = cond (not (is_open s.phase) && eqb n s.number) (packet_of s) (packet_for (after_call s c) l n)

now_packet : (s : Service) (l : List Call) → is_open s.phase ≡ false → packet_for s l s.number ≡ packet_of s
now_packet s [] o = refl
now_packet s (c ∷ l) o = rw (o, eq-eqb s.number s.number refl)

module _ (K : ℕ → EventPacket) where
  abbrev Ahead : Service → ℕ → Type 0
  Ahead s n = (s.number ≤ n) × (is_open s.phase ≡ true → s.number < n)

  abbrev Keeps : Service → List Call → Type 0
  Keeps s l = (n : ℕ) → Ahead s n → K n ≡ packet_for s l n

  skip : (s : Service) (c : Call) (l : List Call) (n : ℕ) → (n ≡ s.number → ⊥) → packet_for s (c ∷ l) n ≡ packet_for (after_call s c) l n
  skip s c l n d = rw (ne_eqb n s.number d) (go (not (is_open s.phase)))
    where
      go : (b : Bool) → cond (b && false) (packet_of s) (packet_for (after_call s c) l n) ≡ packet_for (after_call s c) l n
      go true = refl
      go false = refl

  still : (s : Service) (c : Call) (l : List Call) (n : ℕ) → after_call s c ≡ s → (b : Bool) → is_open s.phase ≡ b → (d : Bool) → eqb n s.number ≡ d →
      cond (not b && d) (packet_of s) (packet_for (after_call s c) l n) ≡ packet_for (after_call s c) l n
  still s c l n e true eb d ed = refl
  still s c l n e false eb false ed = refl
  still s c l n e false eb true ed =
      sym (ap (λ z. packet_for z l n) e ∙ (ap (λ k. packet_for s l k) (eqb-true n s.number ed) ∙ now_packet s l eb))

  keeps_on : (s : Service) (held heldₜ : Last) (before beforeₜ : InternalState) (c : Call) (l : List Call) → Moved s (after_call s c) held heldₜ before beforeₜ → Keeps s (c ∷ l) → Keeps (after_call s c) l
  keeps_on s held heldₜ before beforeₜ c l (stays e f g) k n a =
      k n (subst (λ z. Ahead z n) e a) ∙ still s c l n e (is_open s.phase) refl (eqb n s.number) refl
  keeps_on s held heldₜ before beforeₜ c l (asks o e f g) k n a =
      k n (omega (arith, e, a.0), λ x. omega (arith, e, a.1 o)) ∙ skip s c l n (λ x. absurd (omega (arith, x, e, a.1 o)))
  keeps_on s held heldₜ before beforeₜ c l (closes e f) k n a =
      k n (omega (arith, e, a.0), λ x. omega (arith, e, a.0)) ∙ skip s c l n (λ x. absurd (omega (arith, x, e, a.0)))

  abbrev IsOne : Packet → Type 0
  IsOne (Packet.Event e) = e ≡ K e.number
  IsOne (Packet.Picture v) = Unit {0}

  writes_one : (s : Service) (c : Call) (l : List Call) (p : Packet) → Keeps s (c ∷ l) → Sends s c p → IsOne p
  writes_one s (open_event kind device detail r) l p k w = absurd w
  writes_one s (give_answer a r) l p k w = absurd w
  writes_one s write_picture l p k w = subst IsOne (sym w.2) tt
  writes_one s write_packet l p k w =
      let q = sent (λ n. display_of s.memory.state) s w.0 w.1 in
      let a : Ahead s s.number = (omega arith, λ x. absurd (eqb-false 0 0 (sym x ∙ q.0) refl)) in
      subst IsOne (sym (w.2 ∙ ap Packet.Event q.1)) (sym (k s.number a ∙ now_packet s (write_packet ∷ l) q.0))

  pub wrote_one : (l : List Call) (s : Service) (held : Last) (before : InternalState) (p : Packet) → CallsFit l → Runs s held before → Keeps s l → HasSent s l p → IsOne p
  wrote_one [] s held before p cf x k w = elim w [ ]
  wrote_one (c ∷ l) s held before p cf x k w =
      ⊎_elim (λ z. writes_one s c l p k z)
      (λ z.
      let t = goes s held before c cf.0 x in
      wrote_one l (after_call s c) t.heldₜ t.beforeₜ p cf.1 t.runs (keeps_on s held t.heldₜ before t.beforeₜ c l t.moves k) z)
      w

-- each packet and picture has its fields within what is laid out (PKT)

padded_with : (p : Option ProviderNotice) (d : Option Disconnected) (c : Option AvailableConsumer) (u : Option UnconstrainedState) →
    display.padded (notices_of (notices_with p d c u)) ≡ true
padded_with None None None None = refl
padded_with None None None (Some u) = refl
padded_with None None (Some c) None = refl
padded_with None None (Some c) (Some u) = refl
padded_with None (Some x) None None = refl
padded_with None (Some x) None (Some u) = refl
padded_with None (Some x) (Some c) None = refl
padded_with None (Some x) (Some c) (Some u) = refl
padded_with (Some (ProviderNotice.Disconnected a)) None None None = refl
padded_with (Some (ProviderNotice.Disconnected a)) None None (Some u) = refl
padded_with (Some (ProviderNotice.Disconnected a)) None (Some c) None = refl
padded_with (Some (ProviderNotice.Disconnected a)) None (Some c) (Some u) = refl
padded_with (Some (ProviderNotice.Disconnected a)) (Some x) None None = refl
padded_with (Some (ProviderNotice.Disconnected a)) (Some x) None (Some u) = refl
padded_with (Some (ProviderNotice.Disconnected a)) (Some x) (Some c) None = refl
padded_with (Some (ProviderNotice.Disconnected a)) (Some x) (Some c) (Some u) = refl
padded_with (Some (ProviderNotice.Connected a b)) None None None = refl
padded_with (Some (ProviderNotice.Connected a b)) None None (Some u) = refl
padded_with (Some (ProviderNotice.Connected a b)) None (Some c) None = refl
padded_with (Some (ProviderNotice.Connected a b)) None (Some c) (Some u) = refl
padded_with (Some (ProviderNotice.Connected a b)) (Some x) None None = refl
padded_with (Some (ProviderNotice.Connected a b)) (Some x) None (Some u) = refl
padded_with (Some (ProviderNotice.Connected a b)) (Some x) (Some c) None = refl
padded_with (Some (ProviderNotice.Connected a b)) (Some x) (Some c) (Some u) = refl

padded_all : (n : Notices) → display.padded (notices_of n) ≡ true
padded_all n = padded_with n.provider n.disconnected n.connected n.unconstrained

answer_le : (a : Result (Unit {0}) Error) → leb (answer_byte a) 10 ≡ true
answer_le (Ok tt) = refl
answer_le (Err Error.InvalidDevice) = refl
answer_le (Err Error.CannotProvide) = refl
answer_le (Err Error.CannotConsume) = refl
answer_le (Err (Error.InvalidState x)) = refl
answer_le (Err Error.InvalidResponse) = refl
answer_le (Err Error.Busy) = refl
answer_le (Err Error.Timeout) = refl
answer_le (Err Error.Bus) = refl
answer_le (Err Error.Charger) = refl
answer_le (Err Error.Failed) = refl

packet_fits : (g : Registration) (number k : ℕ) (a : Result (Unit {0}) Error) (m : Memory) (held : Last) (before : InternalState) → Closed k a m held before → number ≤ 4294967295 → eqb number 0 ≡ false →
    event_fits (packet_of (service g number k (Phase.Closed a) m)) ≡ true
unfolding event_fits
packet_fits g number k a m held before c nb nz =
    let n : display.padded (notices_of m.notices) && notices_fit (display.listed (notices_of m.notices)) ≡ true =
    and_from (display.padded (notices_of m.notices)) (notices_fit (display.listed (notices_of m.notices))) (padded_all m.notices)
    (ap notices_fit (listed_same m.notices) ∙ c.sized.notices) in
    and_from (ltb 0 number) _ (lt-ltb 0 number (omega (arith, eqb-false number 0 nz)))
    (and_from (leb number 4294967295) _ (le-leb number 4294967295 nb)
    (and_from (leb (answer_byte a) 10) _ (answer_le a) (and_from (leb k 35) _ (le-leb k 35 c.few) n)))

picture_fits_lem : (g : Registration) (number k : ℕ) (a : Result (Unit {0}) Error) (m : Memory) (held : Last) (before : InternalState) → Closed k a m held before → number ≤ 4294967295 →
    picture_fits (picture_of (service g number k (Phase.Closed a) m)) ≡ true
unfolding picture_fits
picture_fits_lem g number k a m held before c nb =
    let t = c.sized.state.tracks in
    and_from (leb number 4294967295) _ (le-leb number 4294967295 nb)
    (and_from (consumer_fits m.state.current_consumer_state) _ c.sized.state.consumer
    (and_from (leb m.state.unconstrained.available 16) _ c.sized.state.available
    (and_from (ltb m.state.connected_providers.mask 65536) _ (lt-ltb m.state.connected_providers.mask 65536 t.ports)
    (le-leb (len m.state.connected_providers) 4 t.few))))

packet_fits_at : (g : Registration) (number k : ℕ) (p : Phase) (m : Memory) (held : Last) (before : InternalState) → StateAt g number k p m held before → is_open p ≡ false → number ≤ 4294967295 → eqb number 0 ≡ false →
    event_fits (packet_of (service g number k p m)) ≡ true
packet_fits_at g number k (Phase.Closed a) m held before c o nb nz = packet_fits g number k a m held before c nb nz
packet_fits_at g number k (Phase.Leaving i p f) m held before c o nb nz = absurd (eqb-false 0 0 o refl)
packet_fits_at g number k (Phase.Switching l old f new) m held before c o nb nz = absurd (eqb-false 0 0 o refl)
packet_fits_at g number k (Phase.Connecting s new) m held before c o nb nz = absurd (eqb-false 0 0 o refl)
packet_fits_at g number k (Phase.Providing p d) m held before c o nb nz = absurd (eqb-false 0 0 o refl)

picture_fits_at : (g : Registration) (number k : ℕ) (p : Phase) (m : Memory) (held : Last) (before : InternalState) → StateAt g number k p m held before → is_open p ≡ false → number ≤ 4294967295 →
    picture_fits (picture_of (service g number k p m)) ≡ true
picture_fits_at g number k (Phase.Closed a) m held before c o nb = picture_fits_lem g number k a m held before c nb
picture_fits_at g number k (Phase.Leaving i p f) m held before c o nb = absurd (eqb-false 0 0 o refl)
picture_fits_at g number k (Phase.Switching l old f new) m held before c o nb = absurd (eqb-false 0 0 o refl)
picture_fits_at g number k (Phase.Connecting s new) m held before c o nb = absurd (eqb-false 0 0 o refl)
picture_fits_at g number k (Phase.Providing p d) m held before c o nb = absurd (eqb-false 0 0 o refl)

writes_fits : (s : Service) (held : Last) (before : InternalState) (c : Call) (p : Packet) → Runs s held before → Sends s c p → well_formed p ≡ true
writes_fits s held before (open_event kind device detail r) p x w = absurd w
writes_fits s held before (give_answer a r) p x w = absurd w
writes_fits s held before write_packet p x w =
    let q = sent (λ n. display_of held.state) s w.0 w.1 in
    subst (λ z. well_formed z ≡ true) (sym (w.2 ∙ ap Packet.Event q.1))
    (packet_fits_at s.registration s.number s.orders s.phase s.memory held before x.state q.0 x.number q.2)
writes_fits s held before write_picture p x w =
    let q = shown (λ n. display_of held.state) s w.0 w.1 in
    subst (λ z. well_formed z ≡ true) (sym (w.2 ∙ ap Packet.Picture q.1))
    (picture_fits_at s.registration s.number s.orders s.phase s.memory held before x.state q.0 x.number)

pub wrote_fits : (l : List Call) (s : Service) (held : Last) (before : InternalState) (p : Packet) → CallsFit l → Runs s held before → HasSent s l p → well_formed p ≡ true
wrote_fits [] s held before p cf x w = elim w [ ]
wrote_fits (c ∷ l) s held before p cf x w =
    ⊎_elim (λ z. writes_fits s held before c p x z)
    (λ z. let t = goes s held before c cf.0 x in wrote_fits l (after_call s c) t.heldₜ t.beforeₜ p cf.1 t.runs z)
    w

-- what is written is of an event that has closed, or of the start

grows : (l : List Call) (s : Service) (held : Last) (before : InternalState) → CallsFit l → Runs s held before → s.number ≤ (policies (policy_of s held) l).number
grows [] s held before cf x = omega arith
grows (c ∷ l) s held before cf x =
    let t = goes s held before c cf.0 x in
    let n : s.number ≤ (after_call s c).number = moved_number (λ k. display_of held.state) s (after_call s c) held t.heldₜ before t.beforeₜ t.moves in
    let m : (after_call s c).number ≤ (policies (policy_of (after_call s c) t.heldₜ) l).number = grows l (after_call s c) t.heldₜ t.beforeₜ cf.1 t.runs in
    subst (λ z. s.number ≤ (policies z l).number) (sym t.same) (omega (arith, n, m))

writes_number : (s : Service) (held : Last) (c : Call) (p : Packet) → Sends s c p → number_in p ≡ s.number
writes_number s held (open_event kind device detail r) p w = absurd w
writes_number s held (give_answer a r) p w = absurd w
writes_number s held write_packet p w = ap number_in (w.2 ∙ ap Packet.Event (sent (λ n. display_of held.state) s w.0 w.1).1)
writes_number s held write_picture p w = ap number_in (w.2 ∙ ap Packet.Picture (shown (λ n. display_of held.state) s w.0 w.1).1)

pub wrote_closed : (l : List Call) (s : Service) (held : Last) (before : InternalState) (p : Packet) → CallsFit l → Runs s held before → HasSent s l p →
    number_in p ≤ (policies (policy_of s held) l).number
wrote_closed [] s held before p cf x w = elim w [ ]
wrote_closed (c ∷ l) s held before p cf x w =
    ⊎_elim
    (λ z. let e : number_in p ≡ s.number = writes_number s held c p z in omega (arith, e, grows (c ∷ l) s held before cf x))
    (λ z.
    let t = goes s held before c cf.0 x in
    subst (λ q. number_in p ≤ (policies q l).number) (sym t.same) (wrote_closed l (after_call s c) t.heldₜ t.beforeₜ p cf.1 t.runs z))
    w
