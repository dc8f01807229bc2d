-- The services that calls lead to, and what the test says of them part by part: each `&&` is split into fields, and the orders are compared as
-- numbers.
use mathlib.Core.Path.{◌≡◌}
use mathlib.Core.Bool.{true, ◌&&◌}
use Prim.Native.Nat.{ℕ, ◌^◌, ◌≤◌}
use lib.Dec.{leb, ltb}
use borrow.Author.Tests.{leb-true, le-leb}
use Rattle.power_policy_interface.specs.Limits.{largest}
use Rattle.interface_display.specs.Providers.{len}
use Rattle.power_policy_service.specs.Config.{ConfigFits}
use Rattle.abstract_policy.specs.declared.state.InternalState.{InternalState}
use Rattle.abstract_policy.specs.declared.state.Registration.{Registration}
use Rattle.machine_state.specs.declared.memory.Memory.{Memory}
use Rattle.machine_state.specs.declared.memory.Notices.{Notices}
use Rattle.machine_state.specs.declared.phase.Phase.{Phase}
use Rattle.machine_service.specs.declared.Service.{Service}
use Rattle.std.proofs.lemmas.Bool.{and_parts}
use Rattle.bytes_service_image.specs.Typed.{ConsumerTyped, ProviderTyped, PhaseTyped, Typed}
use Rattle.bytes_service_image.specs.WellFormed.{registration_fits, consumer_fits, providers_fit, state_fits, phase_fits, orders_least, orders_most, orders_fit, provider_fits, disconnected_fits, unconstrained_fits, notices_fit, tells, number_fits, event_fits, well_formed}

pub record Good (s : Service) : Type 0 where
  pub fits : well_formed s ≡ true
  pub typed : Typed s

-- part by part

pub record StateGood (ports : ℕ) (s : InternalState) : Type 0 where
  pub consumer : consumer_fits ports s.current_consumer_state ≡ true
  pub typed : ConsumerTyped s.current_consumer_state
  pub available : leb s.unconstrained.available ports ≡ true
  pub tracked : ltb s.connected_providers.mask (2 ^ ports) ≡ true
  pub few : leb (len s.connected_providers) 4 ≡ true

pub record NoticesGood (ports : ℕ) (n : Notices) : Type 0 where
  pub provider : provider_fits ports n.provider ≡ true
  pub granted : ProviderTyped n.provider
  pub disconnected : disconnected_fits ports n.disconnected ≡ true
  pub connected : consumer_fits ports n.connected ≡ true
  pub typed : ConsumerTyped n.connected
  pub unconstrained : unconstrained_fits ports n.unconstrained ≡ true

pub record MemoryGood (ports : ℕ) (m : Memory) : Type 0 where
  pub state : StateGood ports m.state
  pub notices : NoticesGood ports m.notices

-- k orders are counted at this phase
pub record At (ports chargers k : ℕ) (p : Phase) (m : Memory) : Type 0 where
  pub fits : phase_fits ports chargers p ≡ true
  pub typed : PhaseTyped p
  pub least : orders_least p ≤ k
  pub most : k ≤ orders_most chargers p
  pub memory : MemoryGood ports m
  pub told : tells p m.notices ≡ true

-- what a start accepts
pub record Limits (g : Registration) : Type 0 where
  pub ports : g.ports ≤ 16
  pub chargers : g.chargers ≤ 8
  pub config : ConfigFits g.config

pub record Parts (s : Service) : Type 0 where
  pub limits : Limits s.registration
  pub number : s.number ≤ largest
  pub next : number_fits s.phase s.number ≡ true
  pub stands : At s.registration.ports s.registration.chargers s.orders s.phase s.memory

-- from the test to its parts

state_parts : (ports : ℕ) (s : InternalState) → state_fits ports s ≡ true → ConsumerTyped s.current_consumer_state → StateGood ports s
state_parts ports s h t =
    let p = s.connected_providers in
    let x = and_parts (consumer_fits ports s.current_consumer_state) (leb s.unconstrained.available ports && providers_fit ports p) h in
    let y = and_parts (leb s.unconstrained.available ports) (providers_fit ports p) x.1 in
    let z = and_parts (ltb p.mask (2 ^ ports)) (leb (len p) 4) y.1 in
    record { consumer = x.0; typed = t; available = y.0; tracked = z.0; few = z.1 }

notices_parts : (ports : ℕ) (n : Notices) → notices_fit ports n ≡ true → ProviderTyped n.provider → ConsumerTyped n.connected → NoticesGood ports n
notices_parts ports n h t u =
    let x =
    and_parts (provider_fits ports n.provider) (disconnected_fits ports n.disconnected && (consumer_fits ports n.connected && unconstrained_fits ports n.unconstrained)) h in
    let y = and_parts (disconnected_fits ports n.disconnected) (consumer_fits ports n.connected && unconstrained_fits ports n.unconstrained) x.1 in
    let z = and_parts (consumer_fits ports n.connected) (unconstrained_fits ports n.unconstrained) y.1 in
    record { provider = x.0; granted = t; disconnected = y.0; connected = z.0; typed = u; unconstrained = z.1 }

pub parts : (s : Service) → Good s → Parts s
unfolding well_formed
parts s h =
    let g = s.registration in
    let n = s.memory.notices in
    let t = h.typed in
    let state = state_fits g.ports s.memory.state in
    let phase = phase_fits g.ports g.chargers s.phase in
    let orders = orders_fit g.chargers s.phase s.orders in
    let told = notices_fit g.ports n && tells s.phase n in
    let x = and_parts (registration_fits g) (state && event_fits g.ports g.chargers s.phase s.number s.orders n) h.fits in
    let r = and_parts (leb g.ports 16) (leb g.chargers 8) x.0 in
    let y = and_parts state (event_fits g.ports g.chargers s.phase s.number s.orders n) x.1 in
    let z = and_parts phase (number_fits s.phase s.number && (orders && told)) y.1 in
    let u = and_parts (number_fits s.phase s.number) (orders && told) z.1 in
    let v = and_parts orders told u.1 in
    let o = and_parts (leb (orders_least s.phase) s.orders) (leb s.orders (orders_most g.chargers s.phase)) v.0 in
    let w = and_parts (notices_fit g.ports n) (tells s.phase n) v.1 in
    record {
      limits = record { ports = leb-true g.ports 16 r.0; chargers = leb-true g.chargers 8 r.1; config = t.config };
      number = t.number;
      next = u.0;
      stands = record {
        fits = z.0;
        typed = t.phase;
        least = leb-true (orders_least s.phase) s.orders o.0;
        most = leb-true s.orders (orders_most g.chargers s.phase) o.1;
        memory = record {
          state = state_parts g.ports s.memory.state y.0 t.consumer;
          notices = notices_parts g.ports n w.0 t.provider t.connected;
        };
        told = w.1;
      };
    }

-- and back

pub good : (s : Service) → Parts s → Good s
unfolding well_formed
good s h =
    let g = s.registration in
    let a = h.stands in
    let m = a.memory.state in
    let l = a.memory.notices in
    record {
      fits =
          rw
          (le-leb g.ports 16 h.limits.ports, le-leb g.chargers 8 h.limits.chargers, m.consumer, m.available, m.tracked, m.few, a.fits, h.next, le-leb (orders_least s.phase) s.orders a.least, le-leb s.orders (orders_most g.chargers s.phase) a.most, l.provider, l.disconnected, l.connected, l.unconstrained, a.told);
      typed = record { config = h.limits.config; number = h.number; consumer = m.typed; phase = a.typed; provider = l.granted; connected = l.typed };
    }
