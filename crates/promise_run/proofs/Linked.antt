-- DEM-1 to DEM-3 for a run of the service: machine and definition go through it together (Returns.antt), the run is a writer on the link
-- (Writer.antt), and the link's theorem holds for every writer. An accepted start is a fresh service with its figures in their types
-- (Starts.antt), where machine and definition begin alike.
use Rattle.std.specs.Prelude.{Ok}
use mathlib.Core.Path.{◌≡◌, refl, sym, ap, ◌∙◌, subst}
use mathlib.Core.List.{List}
use Prim.Native.Nat.{ℕ, ◌≤◌}
use native.Mathlib.Omega.{arith}
use Rattle.interface_display.specs.declared.packet.Packet.{Packet}
use Rattle.power_policy_service.specs.Config.{config_from, ConfigFits}
use Rattle.power_policy_service.specs.declared.config.Config.{Config}
use Rattle.abstract_policy.specs.State.{fresh_state}
use Rattle.abstract_policy.specs.Policy.{Call, started, held_at, policies}
use Rattle.machine_service.specs.Service.{fresh_service, start_of}
use Rattle.machine_service.specs.declared.Service.{Service}
use Rattle.promise_link.specs.Link.{Demand3}
use Rattle.promise_link.specs.Source.{Source}
use Rattle.promise_link.proofs.Demand.{demand_3}
use Rattle.promise_run.specs.Run.{HasSent, services, CallsFit}
use Rattle.promise_run.specs.Sized.{StartFits}
use Rattle.promise_run.specs.Demands.{Bounded, Equal, OnLink, Demands}
use Rattle.promise_run.proofs.Matches.{Runs, first_last}
use Rattle.promise_run.proofs.Bounds.{run_bounded}
use Rattle.promise_run.proofs.Returns.{run_equal}
use Rattle.promise_run.proofs.Starts.{start_fits}
use Rattle.promise_run.proofs.Writer.{wrote_tells, packet_for, wrote_one, wrote_fits, wrote_closed}

-- a start that is accepted, and calls whose records have their figures within their types
module _ (config : Config) (ports chargers : ℕ) (ports-few : ports ≤ 16) (chargers-few : chargers ≤ 8) (config_fits : ConfigFits config) (calls : List Call)
    (calls_fit : CallsFit calls) where
  abbrev pub start : Service
  start = fresh_service config ports chargers

  pub fresh_runs : Runs start first_last fresh_state
  fresh_runs = record {
    limits = record { chargers = chargers-few; ports = ports-few; config = config_fits };
    number = omega arith;
    state = record {
      same = refl;
      few = omega arith;
      leads = λ e. refl;
      sized = record {
        state = record { consumer = refl; available = refl; tracks = record { ports = omega arith; few = omega arith } };
        notices = refl;
      };
    };
  }

  -- what is held comes from the event's definition, fed with the start and the calls; what is written from the machine
  abbrev pub source : Source
  source = record {
    held = held_at (started start.registration) calls;
    Closed = λ n. n ≤ (policies (started start.registration) calls).number;
    closed = λ p w. wrote_closed calls start first_last fresh_state p calls_fit fresh_runs w;
    Written = HasSent start calls;
    fits = λ p w. wrote_fits calls start first_last fresh_state p calls_fit fresh_runs w;
    picture = λ v w.
        wrote_tells (held_at (started start.registration) calls) calls start first_last fresh_state (Packet.Picture v) calls_fit fresh_runs (λ n l. refl) (λ n e. absurd (omega (arith, e))) w;
    event = λ n e w.
        wrote_tells (held_at (started start.registration) calls) calls start first_last fresh_state (Packet.Event e) calls_fit fresh_runs (λ m l. refl) (λ m q. absurd (omega (arith, q))) w n;
    one = λ e f x y q.
        wrote_one (packet_for start calls) calls start first_last fresh_state (Packet.Event e) calls_fit fresh_runs (λ n a. refl) x
        ∙ (ap (packet_for start calls) q ∙ sym (wrote_one (packet_for start calls) calls start first_last fresh_state (Packet.Event f) calls_fit fresh_runs (λ n a. refl) y));
  }

  -- demand 3, whole
  pub run_demand_3 : Demand3 source
  run_demand_3 = demand_3 source

  -- demand 2: after the calls, machine and definition are at the same point, and the next call returns the same, whichever it is
  pub run_demand_2 : Equal (services start calls) (policies (started start.registration) calls)
  run_demand_2 = run_equal calls start first_last fresh_state calls_fit fresh_runs

  -- demand 1: every event accepted after these calls closes after at most 3 + 4 × chargers orders
  pub run_demand_1 : Bounded (services start calls)
  run_demand_1 = run_bounded calls start first_last fresh_state calls_fit fresh_runs

  -- the source is what demand 3 asks of this run
  pub run_on_link : OnLink start calls
  run_on_link = record {
    source = source;
    held = λ n. refl;
    closed = λ n. (λ c. c, λ c. c);
    written = λ p. (λ w. w, λ w. w);
    demand = run_demand_3;
  }

-- after any start, whatever its numbers: if it is accepted, the three demands hold of every list of calls

fresh_demands : (config : Config) (ports chargers : ℕ) → ports ≤ 16 → chargers ≤ 8 → ConfigFits config → Demands (fresh_service config ports chargers)
fresh_demands config ports chargers p c f = record {
  demand_1 = λ calls fit. run_demand_1 config ports chargers p c f calls fit;
  demand_2 = λ calls fit. run_demand_2 config ports chargers p c f calls fit;
  demand_3 = λ calls fit. run_on_link config ports chargers p c f calls fit;
}

pub after_start : (threshold unlimited_mv unlimited_ma limited_mv limited_ma presence minimum ports chargers : ℕ) (s : Service) →
    start_of (config_from threshold unlimited_mv unlimited_ma limited_mv limited_ma presence minimum) ports chargers ≡ Ok s → Demands s
after_start threshold unlimited_mv unlimited_ma limited_mv limited_ma presence minimum ports chargers s e =
    let f : StartFits ports chargers s = start_fits threshold unlimited_mv unlimited_ma limited_mv limited_ma presence minimum ports chargers s e in
    subst Demands (sym f.fresh) (fresh_demands f.config ports chargers f.few_ports f.few_chargers f.figures)
