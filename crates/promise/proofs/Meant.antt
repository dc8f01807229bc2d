-- The meaning of a registration that a start accepts: along a run the machine is well formed and stands where the definition stands.
use Rattle.std.specs.Prelude.{Ok, Some}
use mathlib.Core.Path.{◌≡◌, refl, ap, ◌∙◌, subst}
use mathlib.Core.List.{List, [], ◌∷◌}
use Prim.Native.Nat.{ℕ, ◌+◌, ◌*◌, ◌≤◌}
use native.Mathlib.Omega.{arith}
use lib.ListN.{length}
use Rattle.power_policy_interface.specs.declared.service.event.Event.{Event}
use Rattle.interface_display.specs.Notices.{empty, listed}
use Rattle.interface_display.specs.declared.packet.EventPacket.{EventPacket}
use Rattle.power_policy_service.specs.declared.config.Config.{Config}
use Rattle.abstract_policy.specs.Orders.{orders_of}
use Rattle.abstract_policy.specs.Policy.{started}
use Rattle.abstract_policy.specs.Returns.{pushed_all, packet_to}
use Rattle.abstract_policy.specs.declared.state.Registration.{Registration}
use Rattle.abstract_policy.proofs.Orders.{run_counts}
use Rattle.abstract_policy.proofs.Chosen.{run_chooses}
use Rattle.machine_service.specs.Service.{fresh_service}
use Rattle.machine_service.specs.declared.Service.{Service}
use Rattle.machine_follows.proofs.Told.{at_most_four}
use Rattle.promise_run.specs.Demands as run
use Rattle.abstract_calls.specs.ServiceCall.{ByteCall}
use Rattle.abstract_calls.specs.Calls.{CallsBytes}
use Rattle.abstract_calls.specs.Functions.{Arguments, config_of}
use Rattle.abstract_calls.specs.Definition.{calls_of, defined, Closes}
use Rattle.promise_invariant.proofs.Good.{Good, parts}
use Rattle.promise_calls.proofs.Bounds.{orders_bound, stand_closes}
use Rattle.promise_calls.proofs.Images.{calls_fit}
use Rattle.promise_calls.proofs.Ranges.{order_in_range, answer_in_range, held_in_range}
use Rattle.promise_calls.proofs.Reached.{reached, reached_good, reached_equal, reached_registration}
use Rattle.promise.specs.Promise.{start_refused, registers, Meaning}
use Rattle.promise.proofs.Promised.{started_good, started_demands}
use Rattle.promise.proofs.Sent.{packet_is, packet_closed}
use Rattle.promise.proofs.Starts.{start_leaves}

-- four places hold four notices
listed_whole : (l : List Event) → length l ≤ 4 → listed (pushed_all empty l) ≡ l
listed_whole [] h = refl
listed_whole (a ∷ []) h = refl
listed_whole (a ∷ b ∷ []) h = refl
listed_whole (a ∷ b ∷ c ∷ []) h = refl
listed_whole (a ∷ b ∷ c ∷ d ∷ []) h = refl
listed_whole (a ∷ b ∷ c ∷ d ∷ e ∷ l) h = absurd (omega (arith, h))

module _ (s : Service) (good : Good s) (demands : run.Demands s) where
  abbrev g : Registration
  g = s.registration

  abbrev given : List ByteCall → ℕ
  given l = length (orders_of (started g) [] (calls_of (started g) l))

  bound : (l : List ByteCall) → CallsBytes l → given l ≤ 3 + 4 * g.chargers
  bound l b =
      subst (λ (r : Registration). given l ≤ 3 + 4 * r.chargers) (reached_registration s good demands l b)
      (orders_bound (reached s l) (defined g l) (orders_of (started g) [] (calls_of (started g) l)) (reached_good s good demands l b) (reached_equal s good demands l b)
      (run_counts (calls_of (started g) l) (started g) [] refl))

  closes : (l : List ByteCall) → CallsBytes l → Closes g.chargers (defined g l).stand
  closes l b =
      subst (λ (r : Registration). Closes r.chargers (defined g l).stand) (reached_registration s good demands l b)
      (stand_closes (reached s l) (defined g l) (reached_good s good demands l b) (reached_equal s good demands l b))

  notices : (l : List ByteCall) (e : EventPacket) → CallsBytes l → packet_to (defined g l) ≡ Ok e →
      (listed e.notices ≡ (defined g l).notices) × (length (defined g l).notices ≤ 4)
  notices l e b q =
      let m : length (defined g l).notices ≤ 4 =
      subst (λ (x : List Event). length x ≤ 4) ((reached_equal s good demands l b).notices (packet_closed (defined g l) e q)) (at_most_four (reached s l).memory.notices) in
      (ap (λ (x : EventPacket). listed x.notices) (packet_is (defined g l) e q) ∙ listed_whole (defined g l).notices m, m)

  meant : Meaning g
  meant = record {
    bound = bound;
    closes = closes;
    counted = λ l. run_counts (calls_of (started g) l) (started g) [] refl;
    notices = notices;
    choice = run_chooses g (parts s good).limits.ports;
    orders_fit = λ l b. order_in_range (reached s l) (defined g l) (reached_good s good demands l b) (reached_equal s good demands l b);
    answers_fit = λ l b e. answer_in_range (reached s l) (defined g l) (reached_good s good demands l b) (reached_equal s good demands l b) e;
    held_fits = λ l n b. held_in_range s good demands (calls_of (started g) l) n (calls_fit (started g) l b);
  }

-- whatever a start accepts
pub accepted_means : (image : List ℕ) (a : Arguments) → start_refused image a ≡ 0 → (c : Config) → config_of a ≡ Some c → Meaning (registers a c)
accepted_means image a q c e =
    let z = start_leaves image a.ports a.chargers (config_of a) c e q in
    let s : Service = fresh_service c a.ports a.chargers in
    meant s (started_good a s z.service) (started_demands a s z.service)
