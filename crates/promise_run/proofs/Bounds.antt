-- DEM-1a over whole runs: in every run the service stays within what a start registers, so that each event that it accepts is bounded and
-- leaves its packet (machine_follows Serves.antt); and a call that is turned back leaves the service as it was.
use Rattle.std.specs.Prelude.{Result}
use mathlib.Core.Path.{◌≡◌, refl, sym, ap, ◌∙◌, subst}
use mathlib.Core.Bool.{false}
use mathlib.Core.List.{List, [], ◌∷◌}
use Prim.Native.Nat.{ℕ, suc}
use lib.Dec.{eqb}
use lib.ListN.{length}
use Rattle.power_policy_interface.specs.Psu.{answer_byte}
use Rattle.power_policy_interface.specs.declared.psu.Error.{Error}
use Rattle.interface_display.specs.Notices as display
use Rattle.abstract_policy.specs.Refusals.{first_refused}
use Rattle.abstract_policy.specs.Given.{event_of}
use Rattle.abstract_policy.specs.Action.{Held, Interaction, done, ask}
use Rattle.abstract_policy.specs.Fed.{Answers, fed_by, orders_by}
use Rattle.abstract_policy.specs.Policy.{Call}
use Rattle.abstract_policy.specs.declared.state.InternalState.{InternalState}
use Rattle.abstract_policy.specs.declared.state.Records.{Records}
use Rattle.abstract_policy.specs.declared.state.Registration.{Registration}
use Rattle.abstract_policy.proofs.Bound.{event_bound}
use Rattle.machine_state.specs.declared.memory.Memory.{Memory}
use Rattle.machine_state.specs.declared.phase.Phase.{Phase}
use Rattle.machine_service.specs.Refusals.{open_refusals, answer_refusals}
use Rattle.machine_service.specs.Service as service
use Rattle.machine_service.specs.Service.{open_of, refused}
use Rattle.machine_service.specs.declared.Service.{Service}
use Rattle.machine_service.specs.Send.{notices_of, answer_byte_of}
use Rattle.machine_follows.specs.Machine.{stands_at}
use Rattle.machine_follows.specs.Served.{service_after, numbered, Stands, Opens, Registered, event_at}
use Rattle.machine_follows.proofs.Serves.{follows, counted_bound}
use Rattle.promise_run.specs.Run.{after_call, services, CallsFit}
use Rattle.promise_run.specs.Demands.{Bounded, Packs}
use Rattle.promise_run.proofs.Matches.{Last, Runs, goes}
use Rattle.promise_run.proofs.Writer.{listed_same}

pub runs_registered : (l : List Call) (s : Service) (held : Last) (before : InternalState) → CallsFit l → Runs s held before → Registered (services s l)
runs_registered [] s held before cf x = record { chargers = x.limits.chargers; number = x.number }
runs_registered (c ∷ l) s held before cf x =
    let t = goes s held before c cf.0 x in
    runs_registered l (after_call s c) t.heldₜ t.beforeₜ cf.1 t.runs

-- an event that has closed leaves its packet

abbrev IsDone : Result (Unit {0}) Error → Held → Interaction → Type 0
IsDone a h (done b k) = (b ≡ a) × (k ≡ h)
IsDone a h (ask o k) = ⊥

packs_at : (g : Registration) (p : Phase) (m : Memory) (a : Result (Unit {0}) Error) (h : Held) → IsDone a h (stands_at g p m) →
    (answer_byte_of p ≡ answer_byte a) × (display.listed (notices_of m.notices) ≡ h.notices) × (m.state ≡ h.state)
packs_at g (Phase.Closed b) m a h q = (ap answer_byte q.0, listed_same m.notices ∙ ap (λ (x : Held). x.notices) q.1, ap (λ (x : Held). x.state) q.1)
packs_at g (Phase.Leaving i p f) m a h q = absurd q
packs_at g (Phase.Switching l old f new) m a h q = absurd q
packs_at g (Phase.Connecting s new) m a h q = absurd q
packs_at g (Phase.Providing p c) m a h q = absurd q

pub closed_packet : (s : Service) (g : Registration) (number given : ℕ) (a : Result (Unit {0}) Error) (h : Held) → Stands s g number given (done a h) → Packs s a h number given
closed_packet s g number given a h t =
    let q = packs_at g s.phase s.memory a h (subst (IsDone a h) (sym t.left) (refl, refl)) in
    record { number = t.numbered; answer = q.0; orders = t.counted; notices = q.1; held = q.2 }

event_packet : (s : Service) (kind device detail : ℕ) (r : Records) (l : Answers) (a : Result (Unit {0}) Error) (h : Held) → Registered s → Opens s kind device detail →
    fed_by (event_at s kind device detail r) l ≡ done a h →
    Packs (service_after (open_of s kind device detail r).service l) a h (suc s.number) (length (orders_by (event_at s kind device detail r) l))
event_packet s kind device detail r l a h g o e =
    let n : ℕ = length (orders_by (event_at s kind device detail r) l) in
    let t = service_after (open_of s kind device detail r).service l in
    closed_packet t s.registration (suc s.number) n a h
    (subst (λ i. Stands t s.registration (numbered s.number i) n i) e (follows s kind device detail r l g o))

pub run_bounded : (l : List Call) (s : Service) (held : Last) (before : InternalState) → CallsFit l → Runs s held before → Bounded (services s l)
run_bounded l s held before cf x =
    let g = runs_registered l s held before cf x in
    record {
      stands = λ kind device detail r m o. follows (services s l) kind device detail r m g o;
      closes = λ kind device detail r. event_bound (services s l).registration device (event_of kind detail) (services s l).memory.state r;
      bound = λ kind device detail r m o. counted_bound (services s l) kind device detail r m g o;
      packs = λ kind device detail r m a h o e. event_packet (services s l) kind device detail r m a h g o e;
    }

-- turned back: the number of the first condition that holds, and the service as it was
pub open_turned_back : (s : Service) (kind device detail : ℕ) (r : Records) → eqb (first_refused (open_refusals s kind device detail)) 0 ≡ false →
    open_of s kind device detail r ≡ refused (first_refused (open_refusals s kind device detail)) s
open_turned_back s kind device detail r e = rw e

pub answer_turned_back : (s : Service) (a : ℕ) (r : Records) → eqb (first_refused (answer_refusals s a)) 0 ≡ false →
    service.answer_of s a r ≡ refused (first_refused (answer_refusals s a)) s
answer_turned_back s a r e = rw e
