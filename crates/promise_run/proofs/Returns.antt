-- What a call returns is what the definition says, whichever it is: turned back by the same number, or the same order or close, since the
-- machine stands for what is left of the event; and the same packet and picture, since it has what the event closed last has left.
use Rattle.std.specs.Prelude.{Err, None, Ok, Option, Result, Some}
use mathlib.Core.Path.{◌≡◌, refl, sym, ap, ◌∙◌, subst}
use mathlib.Core.Bool.{Bool, true, false, cond}
use mathlib.Core.List.{List, [], ◌∷◌, ◌++◌}
use Prim.Native.Nat.{ℕ}
use lib.Dec.{eqb}
use borrow.Author.Tests.{eqb-false}
use Rattle.power_policy_interface.specs.Psu.{answer_byte}
use Rattle.interface_display.specs.declared.AvailableConsumer.{AvailableConsumer}
use Rattle.power_policy_interface.specs.declared.service.UnconstrainedState.{UnconstrainedState}
use Rattle.power_policy_interface.specs.declared.service.event.Event.{Event}
use Rattle.interface_display.specs.Notices.{empty, pushed}
use Rattle.interface_display.specs.declared.notices.Notices as display
use Rattle.interface_display.specs.declared.packet.EventPacket.{EventPacket}
use Rattle.abstract_policy.specs.Refusals.{first_refused, open_conditions, not_registered, unknown_event, numbers_used, unknown_answer, packet_conditions, no_answer}
use Rattle.abstract_policy.specs.Given.{result_of, event_of}
use Rattle.abstract_policy.specs.State.{display_of}
use Rattle.abstract_policy.specs.Action.{ask}
use Rattle.abstract_policy.specs.Interaction.{close, event}
use Rattle.abstract_policy.specs.Returns.{brings, open_to, answer_to, pushed_all, packet_to, picture_to}
use Rattle.abstract_policy.specs.Policy.{Call, between, order_at, is_at, policies}
use Rattle.abstract_policy.specs.declared.state.InternalState.{InternalState}
use Rattle.abstract_policy.specs.declared.state.Records.{Records}
use Rattle.abstract_policy.specs.declared.state.Registration.{Registration}
use Rattle.abstract_policy.specs.declared.order.Order.{Order}
use Rattle.abstract_policy.specs.declared.outcome.Step.{Step}
use Rattle.machine_state.specs.Memory.{no_notices}
use Rattle.machine_state.specs.Phase.{order_of, switch_order, connect_order}
use Rattle.machine_state.specs.declared.memory.Disconnected.{Disconnected}
use Rattle.machine_state.specs.declared.memory.Memory.{Memory}
use Rattle.machine_state.specs.declared.memory.Notices.{Notices}
use Rattle.machine_state.specs.declared.memory.ProviderNotice.{ProviderNotice}
use Rattle.machine_state.specs.declared.phase.Phase.{Phase}
use Rattle.machine_state.specs.declared.phase.Turn.{Turn}
use Rattle.machine_update.specs.Update.{remember}
use Rattle.machine_process.specs.Process.{answered_of, process_of}
use Rattle.machine_service.specs.Refusals.{is_open}
use Rattle.machine_service.specs.Service.{answer_in, stepped, moved, answer_of, opened_of, open_of, refused}
use Rattle.machine_service.specs.declared.Service.{Service}
use Rattle.machine_service.specs.Service.{Stepped}
use Rattle.machine_service.specs.Send.{push_provider, push_disconnected, push_connected, push_unconstrained, notices_of, send_packet, send_picture}
use Rattle.machine_follows.specs.Machine.{of_provider, of_disconnected, of_connected, of_unconstrained, held_of, listed, rest, stands_at, stands_for}
use Rattle.machine_follows.proofs.Follows.{opened, leaving_answered, switching_answered, connecting_answered, providing_answered}
use Rattle.machine_follows.proofs.Serves.{service, moved_brings}
use Rattle.promise_run.specs.Run.{after_call, services, CallsFit}
use Rattle.promise_run.specs.Demands.{stand_of, Equal}
use Rattle.promise_run.proofs.Matches.{Last, last_of, policy_of, open_is, StateAt, Runs, goes}

closed_step : (b : Bool) (x : Stepped) (s : Service) → (cond (eqb (cond b 24 26) 0) x (refused (cond b 24 26) s)).step ≡ Err (cond b 24 26)
closed_step true x s = refl
closed_step false x s = refl

open_step : (b : Bool) (x : Stepped) (s : Service) → (cond (eqb (cond b 24 0) 0) x (refused (cond b 24 0) s)).step ≡ cond b (Err 24) x.step
open_step true x s = refl
open_step false x s = refl

-- an answer at an open phase
answer_returns : (g : Registration) (number k : ℕ) (p : Phase) (m : Memory) (o : Order) (a : ℕ) (r : Records) → order_of p ≡ Some o →
    stands_at g p m ≡ ask o (λ x y. rest g p x (held_of m) y close) →
    stands_for g (answered_of g p o m (result_of a) r) ≡ rest g p (result_of a) (held_of m) r close →
    (answer_of (service g number k p m) a r).step ≡ answer_to (stand_of k (stands_at g p m)) a r
answer_returns g number k p m o a r eo es e =
    let s = service g number k p m in
    let t = answered_of g p o m (result_of a) r in
    rw eo (open_step (no_answer o a) (moved g number k t) s)
    ∙ (ap (λ z. cond (no_answer o a) (Err 24) z) (moved_brings g number k t.phase t.memory ∙ ap (brings k) e)
    ∙ ap (λ z. answer_to (stand_of k z) a r) (sym es))

step_of : (x : Bool) (y : Bool) (n : ℕ) (s : Service) (z : Stepped) → (cond x (cond y (stepped (Ok (Step.Closed (Ok tt) 0)) s) z) (refused n s)).step ≡ cond x (cond y (Ok (Step.Closed (Ok tt) 0)) z.step) (Err n)
step_of true true n s z = refl
step_of true false n s z = refl
step_of false true n s z = refl
step_of false false n s z = refl

module _ (g : Registration) (number k : ℕ) (kind device detail : ℕ) (r : Records) where
  abbrev conditions : Bool → ℕ
  conditions waits = first_refused (open_conditions g.ports g.chargers waits number kind device detail)

  abbrev says : Bool → Result Step ℕ → Result Step ℕ
  says waits z = cond (eqb (conditions waits) 0) (cond (eqb kind 5) (Ok (Step.Closed (Ok tt) 0)) z) (Err (conditions waits))

  open_returns : (p : Phase) (m : Memory) (held : Last) → (is_open p ≡ false → m.state ≡ held.state) →
      (open_of (service g number k p m) kind device detail r).step ≡ open_to (policy_of (service g number k p m) held) kind device detail r
  open_returns p m held same =
      step_of (eqb (conditions (is_open p)) 0) (eqb kind 5) (conditions (is_open p)) (service g number k p m) (opened_of (service g number k p m) device (event_of kind detail) r)
      ∙ (go (is_open p) refl ∙ ap (λ w. says w (brings 0 (event g device (event_of kind detail) held.state r))) (sym (open_is k g p m)))
    where
      turn : InternalState → Turn
      turn x = process_of g (remember x no_notices) device (event_of kind detail) r

      opens-same : is_open p ≡ false → (moved g number 0 (turn m.state)).step ≡ brings 0 (event g device (event_of kind detail) held.state r)
      opens-same e =
          ap (λ x. (moved g number 0 (turn x)).step) (same e)
          ∙ (moved_brings g number 0 (turn held.state).phase (turn held.state).memory ∙ ap (brings 0) (opened g held.state device (event_of kind detail) r))

      refused-open : (z w : Result Step ℕ) → says true z ≡ says true w
      refused-open z w = tested (not_registered g.ports g.chargers kind device) (unknown_event kind detail) (numbers_used kind number)
        where
          tested : (a b d : Bool) → (let n : ℕ = cond a 23 (cond b 24 25) in cond (eqb n 0) (cond (eqb kind 5) (Ok (Step.Closed (Ok tt) 0)) z) (Err n) ≡ cond (eqb n 0) (cond (eqb kind 5) (Ok (Step.Closed (Ok tt) 0)) w) (Err n))
          tested true b d = refl
          tested false true d = refl
          tested false false d = refl

      go : (w : Bool) → is_open p ≡ w → says w (moved g number 0 (turn m.state)).step ≡ says w (brings 0 (event g device (event_of kind detail) held.state r))
      go true e = refused-open (moved g number 0 (turn m.state)).step (brings 0 (event g device (event_of kind detail) held.state r))
      go false e = ap (λ z. says false z) (opens-same e)

-- closed, what the last event has left is what the machine has
closed_last : (g : Registration) (number k : ℕ) (p : Phase) (m : Memory) (held : Last) (before : InternalState) → StateAt g number k p m held before → is_open p ≡ false → last_of k (answer_in p) (held_of m) ≡ held
closed_last g number k (Phase.Closed a) m held before c o = c.same
closed_last g number k (Phase.Leaving i p f) m held before c o = absurd (eqb-false 0 0 o refl)
closed_last g number k (Phase.Switching l old f new) m held before c o = absurd (eqb-false 0 0 o refl)
closed_last g number k (Phase.Connecting s new) m held before c o = absurd (eqb-false 0 0 o refl)
closed_last g number k (Phase.Providing p d) m held before c o = absurd (eqb-false 0 0 o refl)

answers_at : (g : Registration) (number k : ℕ) (p : Phase) (m : Memory) (held : Last) (before : InternalState) (n : ℕ) (r : Records) → Runs (service g number k p m) held before →
    (answer_of (service g number k p m) n r).step ≡ answer_to (stand_of k (stands_at g p m)) n r
answers_at g number k (Phase.Closed a) m held before n r x = closed_step (unknown_answer None n) _ (service g number k (Phase.Closed a) m)
answers_at g number k (Phase.Leaving i p f) m held before n r x =
    answer_returns g number k (Phase.Leaving i p f) m (Order.Detach i) n r refl refl (leaving_answered g i p f m x.limits.chargers x.state.fits (result_of n) r)
answers_at g number k (Phase.Switching l old f new) m held before n r x =
    answer_returns g number k (Phase.Switching l old f new) m (switch_order l old) n r refl refl (switching_answered g l old f new m x.limits.chargers x.state.fits (result_of n) r)
answers_at g number k (Phase.Connecting s new) m held before n r x =
    answer_returns g number k (Phase.Connecting s new) m (connect_order s new) n r refl refl (connecting_answered g s new m x.limits.chargers x.state.fits (result_of n) r)
answers_at g number k (Phase.Providing p d) m held before n r x =
    answer_returns g number k (Phase.Providing p d) m (Order.ConnectProvider p d) n r refl refl (providing_answered g p d m x.state.fits (result_of n) r)

-- the writes

-- pushed one list after the other, and each notice as `send` pushes it

pushed_on : (n : display.Notices) (l m : List Event) → pushed_all n (l ++ m) ≡ pushed_all (pushed_all n l) m
pushed_on n [] m = refl
pushed_on n (e ∷ l) m = pushed_on (pushed n e) l m

provider_pushed : (n : display.Notices) (p : Option ProviderNotice) → push_provider n p ≡ pushed_all n (of_provider p)
provider_pushed n None = refl
provider_pushed n (Some (ProviderNotice.Disconnected p)) = refl
provider_pushed n (Some (ProviderNotice.Connected p c)) = refl

disconnected_pushed : (n : display.Notices) (d : Option Disconnected) → push_disconnected n d ≡ pushed_all n (of_disconnected d)
disconnected_pushed n None = refl
disconnected_pushed n (Some d) = refl

connected_pushed : (n : display.Notices) (c : Option AvailableConsumer) → push_connected n c ≡ pushed_all n (of_connected c)
connected_pushed n None = refl
connected_pushed n (Some c) = refl

unconstrained_pushed : (n : display.Notices) (u : Option UnconstrainedState) → push_unconstrained n u ≡ pushed_all n (of_unconstrained u)
unconstrained_pushed n None = refl
unconstrained_pushed n (Some u) = refl

notices_pushed : (n : Notices) → notices_of n ≡ pushed_all empty (listed n)
notices_pushed n =
    let p = of_provider n.provider in
    let d = of_disconnected n.disconnected in
    let c = of_connected n.connected in
    let u = of_unconstrained n.unconstrained in
    unconstrained_pushed (push_connected (push_disconnected (push_provider empty n.provider) n.disconnected) n.connected) n.unconstrained
    ∙ (ap (λ x. pushed_all x u)
    (connected_pushed (push_disconnected (push_provider empty n.provider) n.disconnected) n.connected
    ∙ ap (λ x. pushed_all x c) (disconnected_pushed (push_provider empty n.provider) n.disconnected ∙ ap (λ x. pushed_all x d) (provider_pushed empty n.provider)))
    ∙ sym
    (pushed_on empty p (d ++ (c ++ u))
    ∙ (pushed_on (pushed_all empty p) d (c ++ u) ∙ pushed_on (pushed_all (pushed_all empty p) d) c u)))

module _ (g : Registration) (number k : ℕ) where
  packet_at : (p : Phase) (m : Memory) (held : Last) (before : InternalState) → StateAt g number k p m held before →
      send_packet (service g number k p m) ≡ packet_to (policy_of (service g number k p m) held)
  packet_at (Phase.Closed a) m held before c =
      ap (λ x. sentOf (record { number = number; answer = answer_byte a; orders = k; notices = x })) (notices_pushed m.notices)
      ∙ ap (λ (x : Last). sentOf (record { number = number; answer = answer_byte x.answer; orders = x.orders; notices = pushed_all empty x.notices })) c.same
    where
      sentOf : EventPacket → Result EventPacket ℕ
      sentOf e =
          let n : ℕ = first_refused (packet_conditions false number) in
          cond (eqb n 0) (Ok e) (Err n)
  packet_at (Phase.Leaving i p f) m held before c = refl
  packet_at (Phase.Switching l old f new) m held before c = refl
  packet_at (Phase.Connecting s new) m held before c = refl
  packet_at (Phase.Providing p d) m held before c = refl

  picture_at : (p : Phase) (m : Memory) (held : Last) (before : InternalState) → StateAt g number k p m held before →
      send_picture (service g number k p m) ≡ picture_to (policy_of (service g number k p m) held)
  picture_at (Phase.Closed a) m held before c =
      ap (λ (x : Last). Ok (record { number = number; display = display_of x.state })) c.same
  picture_at (Phase.Leaving i p f) m held before c = refl
  picture_at (Phase.Switching l old f new) m held before c = refl
  picture_at (Phase.Connecting s new) m held before c = refl
  picture_at (Phase.Providing p d) m held before c = refl

  -- the open order
  open_order : (p : Phase) (m : Memory) → order_of p ≡ order_at (stand_of k (stands_at g p m))
  open_order (Phase.Closed a) m = refl
  open_order (Phase.Leaving i p f) m = refl
  open_order (Phase.Switching l old f new) m = refl
  open_order (Phase.Connecting s new) m = refl
  open_order (Phase.Providing p d) m = refl

pub run_equal : (l : List Call) (s : Service) (held : Last) (before : InternalState) → CallsFit l → Runs s held before → Equal (services s l) (policies (policy_of s held) l)
run_equal [] s held before cf x = record {
  registered = refl;
  number = refl;
  state = λ e. ap (λ (y : Last). y.state) (last (is-closed e));
  answer = λ e. ap (λ (y : Last). y.answer) (last (is-closed e));
  orders = λ e. ap (λ (y : Last). y.orders) (last (is-closed e));
  notices = λ e. ap (λ (y : Last). y.notices) (last (is-closed e));
  order = open_order s.registration s.number s.orders s.phase s.memory;
  stand = refl;
  opening = λ kind device detail r.
      open_returns s.registration s.number s.orders kind device detail r s.phase s.memory held (λ o. ap (λ (y : Last). y.state) (last o));
  answering = λ a r. answers_at s.registration s.number s.orders s.phase s.memory held before a r x;
  packet = packet_at s.registration s.number s.orders s.phase s.memory held before x.state;
  picture = picture_at s.registration s.number s.orders s.phase s.memory held before x.state;
}
  where
    last : is_open s.phase ≡ false → last_of s.orders (answer_in s.phase) (held_of s.memory) ≡ held
    last o = closed_last s.registration s.number s.orders s.phase s.memory held before x.state o

    is-closed : stand_of s.orders (stands_at s.registration s.phase s.memory) ≡ between → is_open s.phase ≡ false
    is-closed e = sym (open_is s.orders s.registration s.phase s.memory) ∙ ap is_at e
run_equal (c ∷ l) s held before cf x =
    let t = goes s held before c cf.0 x in
    subst (λ z. Equal (services (after_call s c) l) (policies z l)) (sym t.same) (run_equal l (after_call s c) t.heldₜ t.beforeₜ cf.1 t.runs)
