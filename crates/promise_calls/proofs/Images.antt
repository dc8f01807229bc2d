-- The service's image through a run: the bytes of a well-formed service are read as this service, so that a call leaves the bytes of the service after
-- it. A call that is turned back leaves both, and every call leaves what the start registered.
use Rattle.std.specs.Prelude.{Err, None, Ok, Option, Result, Some}
use mathlib.Core.Path.{◌≡◌, refl, sym, ap, ◌∙◌}
use mathlib.Core.Bool.{Bool, true, false, cond}
use mathlib.Core.List.{List, [], ◌∷◌, ◌++◌}
use Prim.Native.Nat.{ℕ}
use lib.Dec.{eqb, ltb}
use lib.ListN.{length}
use borrow.Author.Tests.{eq-eqb}
use Rattle.power_policy_interface.specs.Limits.{service_length}
use Rattle.power_policy_interface.specs.declared.charger.State as charger
use Rattle.power_policy_interface.specs.declared.psu.State as psu
use Rattle.interface_records.specs.Row.{AllBytes}
use Rattle.interface_records.specs.Charger.{charger_row}
use Rattle.interface_records.specs.Psu.{psu_row}
use Rattle.abstract_policy.specs.declared.order.Order.{Order}
use Rattle.abstract_policy.specs.Refusals.{first_refused}
use Rattle.abstract_policy.specs.Given.{event_of, result_of}
use Rattle.abstract_policy.specs.Policy as policy
use Rattle.abstract_policy.specs.Policy.{Call, Policy, policies}
use Rattle.abstract_policy.specs.declared.state.Records.{Records}
use Rattle.abstract_policy.specs.declared.state.Registration.{Registration}
use Rattle.abstract_policy.specs.declared.outcome.Step.{Step}
use Rattle.abstract_policy.proofs.Chosen.{policies_registration}
use Rattle.machine_state.specs.Phase.{order_of}
use Rattle.machine_state.specs.declared.phase.Turn.{Turn}
use Rattle.machine_process.specs.Process.{answered_of, process_of}
use Rattle.machine_service.specs.Refusals.{open_refusals, answer_refusals}
use Rattle.machine_service.specs.Service.{Stepped, stepped, refused, moved_by, cleared_of, opened_of, open_of, order_in, answered_by, answer_of}
use Rattle.machine_service.specs.declared.Service.{Service}
use Rattle.promise_run.specs.Run.{after_call, services, CallFits, CallsFit}
use Rattle.promise_run.specs.Sized.{RecordsFit}
use Rattle.promise_run.proofs.Rows.{row_fits}
use Rattle.abstract_calls.specs.Lent.{rows_of, rows_in}
use Rattle.abstract_calls.specs.ServiceCall.{ByteCall, open_event, give_answer, read_order, write_packet, write_picture, on_rows, in_buffer}
use Rattle.abstract_calls.specs.Calls.{image_after, images, CallBytes, CallsBytes}
use Rattle.abstract_calls.specs.Definition.{call_of, calls_of}
use Rattle.bytes_service_image.specs.Image.{service_bytes, service_from}
use Rattle.bytes_service_image.proofs.Service.{service_read_write}
use Rattle.bytes_service_image.proofs.Stored.{service_length_lem}
use Rattle.promise_invariant.proofs.Good.{Good}
use Rattle.promise_invariant.proofs.Invariant.{services_good}
use Rattle.bytes_calls.specs.Calls.{put_service, stepped_at, with_rows, on_service}
use Rattle.abi_functions.specs.Ours.{functions}

-- what a call leaves of the service

-- turned back, the service is as it was
abbrev BackAt : Service → Result Step ℕ → Service → Type 0
BackAt s (Ok (Step.Order o)) t = Unit {0}
BackAt s (Ok (Step.Closed a n)) t = Unit {0}
BackAt s (Err n) t = t ≡ s

-- and in any case what is registered is
record Keeps (s : Service) (x : Stepped) : Type 0 where
  back : BackAt s x.step x.service
  registered : x.service.registration ≡ s.registration

moved_keeps : (s : Service) (o : Option Order) (n k : ℕ) (t : Turn) → Keeps s (moved_by o s.registration n k t)
moved_keeps s None n k t = record { back = tt; registered = refl }
moved_keeps s (Some o) n k t = record { back = tt; registered = refl }

open_keeps : (s : Service) (kind device detail : ℕ) (r : Records) → Keeps s (open_of s kind device detail r)
open_keeps s kind device detail r = go (eqb n 0) (eqb kind 5)
  where
    n : ℕ
    n = first_refused (open_refusals s kind device detail)

    t : Turn
    t = process_of s.registration (cleared_of s) device (event_of kind detail) r

    go : (a b : Bool) → Keeps s (cond a (cond b (stepped (Ok (Step.Closed (Ok tt) 0)) s) (opened_of s device (event_of kind detail) r)) (refused n s))
    go true true = record { back = tt; registered = refl }
    go true false = moved_keeps s (order_of t.phase) s.number 0 t
    go false b = record { back = refl; registered = refl }

answer_keeps : (s : Service) (a : ℕ) (r : Records) → Keeps s (answer_of s a r)
answer_keeps s a r = go (eqb n 0)
  where
    n : ℕ
    n = first_refused (answer_refusals s a)

    t : Turn
    t = answered_of s.registration s.phase (order_in (order_of s.phase)) s.memory (result_of a) r

    go : (b : Bool) → Keeps s (cond b (answered_by s (order_in (order_of s.phase)) (result_of a) r) (refused n s))
    go true = moved_keeps s (order_of t.phase) s.number s.orders t
    go false = record { back = refl; registered = refl }

after_registration : (s : Service) (c : Call) → (after_call s c).registration ≡ s.registration
after_registration s (policy.open_event kind device detail r) = (open_keeps s kind device detail r).registered
after_registration s (policy.give_answer a r) = (answer_keeps s a r).registered
after_registration s policy.write_packet = refl
after_registration s policy.write_picture = refl

pub services_registration : (l : List Call) (s : Service) → (services s l).registration ≡ s.registration
services_registration [] s = refl
services_registration (c ∷ l) s = services_registration l (after_call s c) ∙ after_registration s c

pub services_on : (l m : List Call) (s : Service) → services s (l ++ m) ≡ services (services s l) m
services_on [] m s = refl
services_on (c ∷ l) m s = services_on l m (after_call s c)

-- records that are read from bytes have their figures within their types

rows_fit : (g : Registration) (psus chargers : List ℕ) (f : Records → Call) → AllBytes psus → ((r : Records) → RecordsFit r → CallFits (f r)) →
    CallsFit (on_rows (rows_in g psus chargers) f)
rows_fit g psus chargers f b k = go (psu_row g.ports psus) refl (charger_row g.chargers chargers)
  where
    go : (p : Option (List psu.State)) → psu_row g.ports psus ≡ p → (c : Option (List charger.State)) → CallsFit (on_rows (rows_of p c) f)
    go None e c = tt
    go (Some l) e None = tt
    go (Some l) e (Some m) = (k (record { psus = l; chargers = m }) (row_fits g.ports psus l m b e), tt)

write_fits : (buffer : List ℕ) (c : Call) → CallFits c → CallsFit (in_buffer buffer c)
write_fits buffer c k = go (ltb (length buffer) 64)
  where
    go : (t : Bool) → CallsFit (cond t [] (c ∷ []))
    go true = tt
    go false = (k, tt)

call_fits : (p : Policy) (c : ByteCall) → CallBytes c → CallsFit (call_of p c)
call_fits p (open_event psus chargers kind device detail) b = rows_fit p.registration psus chargers (λ r. policy.open_event kind device detail r) b (λ r w. w)
call_fits p (give_answer psus chargers a) b = rows_fit p.registration psus chargers (λ r. policy.give_answer a r) b (λ r w. w)
call_fits p read_order b = tt
call_fits p (write_packet buffer) b = write_fits buffer policy.write_packet tt
call_fits p (write_picture buffer) b = write_fits buffer policy.write_picture tt

fits_on : (l m : List Call) → CallsFit l → CallsFit m → CallsFit (l ++ m)
fits_on [] m x y = y
fits_on (c ∷ l) m x y = (x.0, fits_on l m x.1 y)

pub calls_fit : (p : Policy) (l : List ByteCall) → CallsBytes l → CallsFit (calls_of p l)
calls_fit p [] b = tt
calls_fit p (c ∷ l) b =
    fits_on (call_of p c) (calls_of (policies p (call_of p c)) l) (call_fits p c b.0) (calls_fit (policies p (call_of p c)) l b.1)

-- one call on an image

pub image_read : (s : Service) → Good s → service_from (service_bytes s) ≡ Some s
image_read s h = service_read_write s h.typed h.fits

put_is : (s t : Service) → put_service (service_bytes s) t ≡ service_bytes t
put_is s t = ap (λ (x : Bool). cond x (service_bytes t) (service_bytes s)) (eq-eqb (length (service_bytes s)) service_length (service_length_lem s))

stepped_bytes_lem : (s : Service) (x : Result Step ℕ) (t : Service) → BackAt s x t → (stepped_at (service_bytes s) x t).bytes ≡ service_bytes t
stepped_bytes_lem s (Ok (Step.Order o)) t b = put_is s t
stepped_bytes_lem s (Ok (Step.Closed a n)) t b = put_is s t
stepped_bytes_lem s (Err n) t b = ap service_bytes (sym b)

rows_bytes : (s : Service) (r : Option Records) (f : Records → Stepped) (c : Records → Call) → ((x : Records) → Keeps s (f x)) → ((x : Records) → (f x).service ≡ after_call s (c x)) →
    (with_rows (service_bytes s) r f).bytes ≡ service_bytes (services s (on_rows r c))
rows_bytes s None f c k e = refl
rows_bytes s (Some r) f c k e = stepped_bytes_lem s (f r).step (f r).service (k r).back ∙ ap service_bytes (e r)

-- a write leaves the service
write_same : (s : Service) (buffer : List ℕ) (c : Call) → after_call s c ≡ s → service_bytes s ≡ service_bytes (services s (in_buffer buffer c))
write_same s buffer c e = go (ltb (length buffer) 64)
  where
    go : (t : Bool) → service_bytes s ≡ service_bytes (services s (cond t [] (c ∷ [])))
    go true = refl
    go false = ap service_bytes (sym e)

-- what is registered is the definition's
pub image_after_lem : (s : Service) (p : Policy) (c : ByteCall) → s.registration ≡ p.registration → Good s →
    image_after functions (service_bytes s) c ≡ service_bytes (services s (call_of p c))
image_after_lem s p (open_event psus chargers kind device detail) e h =
    ap (λ (x : Option Service). (on_service (service_bytes s) x psus chargers (λ t r. open_of t kind device detail r)).bytes) (image_read s h)
    ∙ (rows_bytes s (rows_in s.registration psus chargers) (λ r. open_of s kind device detail r) (λ r. policy.open_event kind device detail r)
    (λ r. open_keeps s kind device detail r) (λ r. refl)
    ∙ ap (λ (g : Registration). service_bytes (services s (on_rows (rows_in g psus chargers) (λ r. policy.open_event kind device detail r)))) e)
image_after_lem s p (give_answer psus chargers a) e h =
    ap (λ (x : Option Service). (on_service (service_bytes s) x psus chargers (λ t r. answer_of t a r)).bytes) (image_read s h)
    ∙ (rows_bytes s (rows_in s.registration psus chargers) (λ r. answer_of s a r) (λ r. policy.give_answer a r) (λ r. answer_keeps s a r) (λ r. refl)
    ∙ ap (λ (g : Registration). service_bytes (services s (on_rows (rows_in g psus chargers) (λ r. policy.give_answer a r)))) e)
image_after_lem s p read_order e h = refl
image_after_lem s p (write_packet buffer) e h = write_same s buffer policy.write_packet refl
image_after_lem s p (write_picture buffer) e h = write_same s buffer policy.write_picture refl

pub call_good : (s : Service) (p : Policy) (c : ByteCall) → CallBytes c → Good s → Good (services s (call_of p c))
call_good s p c b h = services_good (call_of p c) s (call_fits p c b) h

-- a list of them

pub images_are : (l : List ByteCall) (s : Service) (p : Policy) → s.registration ≡ p.registration → CallsBytes l → Good s →
    images functions (service_bytes s) l ≡ service_bytes (services s (calls_of p l))
images_are [] s p e b h = refl
images_are (c ∷ l) s p e b h =
    let t = services s (call_of p c) in
    let q = policies p (call_of p c) in
    let same : t.registration ≡ q.registration = services_registration (call_of p c) s ∙ (e ∙ sym (policies_registration p (call_of p c))) in
    ap (λ (x : List ℕ). images functions x l) (image_after_lem s p c e h)
    ∙ (images_are l t q same b.1 (call_good s p c b.0 h)
    ∙ ap service_bytes (sym (services_on (call_of p c) (calls_of q l) s)))
