-- Each step of an event keeps what is well formed: ports come from the event or the choice, both below the count, and every order counts one
-- toward the most of the phase that it leads to. In the order of the definitions of `update` and `process`.
use Rattle.std.specs.Prelude.{Err, None, Ok, Option, Result, Some}
use mathlib.Core.Path.{◌≡◌, refl}
use mathlib.Core.Bool.{Bool, true, false, cond, ◌&&◌}
use Prim.Native.Nat.{ℕ, zero, suc, ◌+◌, ◌*◌, ◌-◌, ◌^◌, ◌≤◌, ◌<◌, min}
use native.Mathlib.Nat.{min-le_left, min-le_right}
use native.Mathlib.Omega.{arith}
use lib.Bits.{bit_or, bit_xor, or_lt, xor_lt}
use lib.Dec.{leb, ltb}
use lib.Pow.{pow-lt, pow_mono}
use borrow.Author.Tests.{leb-true, ltb-true, le-leb, lt-ltb}
use Rattle.power_policy_interface.specs.Psu.{kind_of, has_kind, expect_of, idle_or_consumer, idle_or_provider, invalid_state, can_connect_consumer_of, can_connect_provider_of}
use Rattle.power_policy_interface.specs.Service.{same_unconstrained}
use Rattle.power_policy_interface.specs.Capability.{capability_fits}
use Rattle.power_policy_interface.specs.declared.capability.DisconnectFlags.{DisconnectFlags}
use Rattle.power_policy_interface.specs.declared.psu.Error.{Error}
use Rattle.power_policy_interface.specs.declared.capability.ProviderPowerCapability.{ProviderPowerCapability}
use Rattle.power_policy_interface.specs.declared.psu.StateKind.{StateKind}
use Rattle.power_policy_interface.specs.declared.psu.event.EventData.{EventData}
use Rattle.power_policy_interface.specs.declared.service.UnconstrainedState.{UnconstrainedState}
use Rattle.interface_display.specs.Providers.{contains, len, room, insert_of, remove_of, Inserted, Removed}
use Rattle.interface_display.specs.declared.AvailableConsumer.{AvailableConsumer}
use Rattle.interface_display.specs.declared.providers.Providers.{Providers}
use Rattle.interface_display.proofs.Tracked.{Tracks, insert_tracks, remove_tracks}
use Rattle.power_policy_service.specs.Choice.{Chosen}
use Rattle.power_policy_service.specs.Provider.{total_of, total_with, power_state_of, grant_of}
use Rattle.power_policy_service.specs.declared.provider.PowerState.{PowerState}
use Rattle.power_policy_service.proofs.Choice.{chosen}
use Rattle.abstract_policy.specs.State.{with_consumer, with_power_state, with_providers, with_unconstrained, psu_of, charger_unpowered}
use Rattle.abstract_policy.specs.Interaction.{available_of, unconstrained_of, reason_of, is_connected_consumer, same_available, find_best_consumer, no_reason, detached_reason}
use Rattle.abstract_policy.specs.declared.state.InternalState.{InternalState}
use Rattle.abstract_policy.specs.declared.state.Records.{Records}
use Rattle.abstract_policy.specs.declared.state.Registration.{Registration}
use Rattle.machine_state.specs.Memory.{no_notices, tell_connected, tell_disconnected, tell_provider, tell_unconstrained, next_powered}
use Rattle.machine_state.specs.declared.memory.Memory.{Memory}
use Rattle.machine_state.specs.declared.memory.Notices.{Notices}
use Rattle.machine_state.specs.declared.memory.ProviderNotice.{ProviderNotice}
use Rattle.machine_state.specs.declared.phase.Leaver.{Leaver}
use Rattle.machine_state.specs.declared.phase.Phase.{Phase}
use Rattle.machine_state.specs.declared.phase.Stage.{Stage}
use Rattle.machine_state.specs.declared.phase.Turn.{Turn}
use Rattle.machine_update.specs.Update.{at, remember, closed, finish_update_of, connect_if, connect_psu_of, told_switch, switch_of, cleared, disconnect_of, connect_from, left_of, leave_of, charge_stage, told_connected, charge_of, update_none, update_to, update_of}
use Rattle.machine_process.specs.Process.{provide_if, provide_for, post_provider_of, remove_provider_of, depart_of, process_of, following, after_stage, after_order, answered_to}
use Rattle.machine_follows.specs.Machine.{stands_for}
use Rattle.machine_follows.proofs.Serves.{open_orders}
use Rattle.wire.specs.WellFormed as wire
use Rattle.std.proofs.lemmas.Bool.{and_parts, and_from}
use Rattle.promise_run.specs.Sized.{RequestFits, RecordsFit}
use Rattle.promise_run.proofs.Sized.{best_fits, psu_fits, available_le, grant_fits}
use Rattle.bytes_service_image.specs.Typed.{ConsumerTyped}
use Rattle.bytes_service_image.specs.WellFormed.{result_fits, consumer_fits, phase_fits, orders_most, not_disconnected, not_connected, not_updated, nothing_told}
use Rattle.promise_invariant.proofs.Good.{StateGood, NoticesGood, MemoryGood, At, Limits}

-- a turn after k orders, the open one counted
abbrev pub TurnGood : Registration → ℕ → Turn → Type 0
TurnGood g k t = At g.ports g.chargers (k + open_orders (stands_for g t)) t.phase t.memory

-- a port that is registered, with figures of 16 bits
pub record ConsumerGood (ports : ℕ) (c : AvailableConsumer) : Type 0 where
  pub port : ltb c.psu ports ≡ true
  pub capability : capability_fits c.consumer_power_capability.capability ≡ true

-- what is held and told

with_consumer_lem : (ports : ℕ) (c : Option AvailableConsumer) (s : InternalState) → consumer_fits ports c ≡ true → ConsumerTyped c → StateGood ports s → StateGood ports (with_consumer c s)
with_consumer_lem ports c s e t h = record { consumer = e; typed = t; available = h.available; tracked = h.tracked; few = h.few }

no_consumer_lem : (ports : ℕ) (s : InternalState) → StateGood ports s → StateGood ports (with_consumer None s)
no_consumer_lem ports s h = with_consumer_lem ports None s refl tt h

with_power : (ports : ℕ) (w : PowerState) (s : InternalState) → StateGood ports s → StateGood ports (with_power_state w s)
with_power ports w s h = record { consumer = h.consumer; typed = h.typed; available = h.available; tracked = h.tracked; few = h.few }

told_disconnected : (ports p : ℕ) (f : DisconnectFlags) (n : Notices) → ltb p ports ≡ true → NoticesGood ports n → NoticesGood ports (tell_disconnected p f n)
told_disconnected ports p f n e h = record { provider = h.provider; granted = h.granted; disconnected = e; connected = h.connected; typed = h.typed; unconstrained = h.unconstrained }

told_connected_lem : (ports : ℕ) (c : AvailableConsumer) (n : Notices) → ConsumerGood ports c → NoticesGood ports n → NoticesGood ports (tell_connected c n)
told_connected_lem ports c n e h =
    record { provider = h.provider; granted = h.granted; disconnected = h.disconnected; connected = e.port; typed = e.capability; unconstrained = h.unconstrained }

-- the tracked set: bits below the count of ports, at most four

tracks : (ports : ℕ) (s : InternalState) → ports ≤ 16 → StateGood ports s → Tracks s.connected_providers
tracks ports s l h =
    let m : s.connected_providers.mask < 2 ^ ports = ltb-true s.connected_providers.mask (2 ^ ports) h.tracked in
    let w : 2 ^ ports ≤ 2 ^ 16 = pow_mono l in
    record { ports = omega (arith, m, w); few = leb-true (len s.connected_providers) 4 h.few }

insert_mask : (s : Providers) (p ports : ℕ) → p < ports → s.mask < 2 ^ ports → (insert_of s p).providers.mask < 2 ^ ports
insert_mask s p ports l h = go (contains s p) (room s p)
  where
    go : (c b : Bool) →
        (cond {A = Inserted} c (record { found = Ok false; providers = s })
        (cond {A = Inserted} b (record { found = Ok true; providers = record { mask = bit_or s.mask (2 ^ p) } }) (record { found = Err p; providers = s }))
        ).providers.mask
        < 2 ^ ports
    go true b = h
    go false true = or_lt ports s.mask (2 ^ p) h (pow-lt l)
    go false false = h

remove_mask : (s : Providers) (p ports : ℕ) → p < ports → s.mask < 2 ^ ports → (remove_of s p).providers.mask < 2 ^ ports
remove_mask s p ports l h = go (contains s p)
  where
    go : (c : Bool) →
        (cond {A = Removed} c (record { found = true; providers = record { mask = bit_xor s.mask (2 ^ p) } }) (record { found = false; providers = s })).providers.mask
        < 2 ^ ports
    go true = xor_lt ports s.mask (2 ^ p) h (pow-lt l)
    go false = h

with_tracked : (ports : ℕ) (p : Providers) (s : InternalState) → p.mask < 2 ^ ports → Tracks p → StateGood ports s → StateGood ports (with_providers p s)
with_tracked ports p s l t h =
    record { consumer = h.consumer; typed = h.typed; available = h.available; tracked = lt-ltb p.mask (2 ^ ports) l; few = le-leb (len p) 4 t.few }

-- a check before a connect fails with a set of kinds that is not empty

expect_fits : (set : ℕ) (k : StateKind) → ltb 0 set && leb set 15 ≡ true → result_fits (expect_of set k) ≡ true
expect_fits set k e = go (has_kind set k)
  where
    go : (b : Bool) → result_fits (cond b (Ok tt) (Err (invalid_state set k))) ≡ true
    go true = refl
    go false = e

-- passing over chargers goes forward
next_from_lem : (r : Records) (n i : ℕ) → i ≤ next_powered r n i
next_from_lem r zero i = omega arith
next_from_lem r (suc n) i = go (charger_unpowered r i) (next_from_lem r n (suc i))
  where
    go : (b : Bool) → suc i ≤ next_powered r n (suc i) → i ≤ cond b (next_powered r n (suc i)) i
    go true h = omega arith
    go false h = omega arith

-- no phase has more orders than an event
pub orders_most_lem : {ports chargers k : ℕ} {p : Phase} {m : Memory} → At ports chargers k p m → k ≤ 3 + 4 * chargers
orders_most_lem {ports} {chargers} {k} {p} h = omega (arith, most p h.fits, h.most)
  where
    first : (i : ℕ) (b : Bool) → ltb i chargers && b ≡ true → i < chargers
    first i b e = ltb-true i chargers (and_parts (ltb i chargers) b e).0

    most : (q : Phase) → phase_fits ports chargers q ≡ true → orders_most chargers q ≤ 3 + 4 * chargers
    most (Phase.Closed a) e = omega arith
    most (Phase.Leaving i q f) e = omega (arith, first i (ltb q ports) e)
    most (Phase.Switching Leaver.Psu old f new) e = omega arith
    most (Phase.Switching (Leaver.Charger i) old f new) e = omega (arith, first i (ltb old ports && ltb new.psu ports) e)
    most (Phase.Connecting Stage.Psu new) e = omega arith
    most (Phase.Connecting Stage.Settling new) e = omega arith
    most (Phase.Connecting (Stage.Readying i) new) e = omega (arith, first i (ltb new.psu ports) e)
    most (Phase.Connecting (Stage.Initializing i) new) e = omega (arith, first i (ltb new.psu ports) e)
    most (Phase.Connecting (Stage.Attaching i) new) e = omega (arith, first i (ltb new.psu ports) e)
    most (Phase.Providing q c) e = omega arith

module _ (g : Registration) (limits : Limits g) (r : Records) where
  -- the update

  closed_good : (a : Result (Unit {0}) Error) (m : Memory) (k : ℕ) → result_fits a ≡ true → MemoryGood g.ports m → k ≤ 3 + 4 * g.chargers → TurnGood g k (closed a m)
  closed_good a m k e h l = record { fits = e; typed = tt; least = omega arith; most = omega arith; memory = h; told = refl }

  finish_good : (m : Memory) (k : ℕ) → MemoryGood g.ports m → k ≤ 3 + 4 * g.chargers → TurnGood g k (finish_update_of g m r)
  finish_good m k h l = closed_good (Ok tt) _ k refl (go (same_unconstrained u m.state.unconstrained)) l
    where
      u : UnconstrainedState
      u = unconstrained_of g m.state r

      few : leb (available_of r g.ports) g.ports ≡ true
      few = le-leb (available_of r g.ports) g.ports (available_le r g.ports)

      go : (b : Bool) → MemoryGood g.ports (cond b m (remember (with_unconstrained u m.state) (tell_unconstrained u m.notices)))
      go true = h
      go false =
          let s = h.state in
          let n = h.notices in
          record {
            state = record { consumer = s.consumer; typed = s.typed; available = few; tracked = s.tracked; few = s.few };
            notices = record { provider = n.provider; granted = n.granted; disconnected = n.disconnected; connected = n.connected; typed = n.typed; unconstrained = few };
          }

  connect_good : (a : Result (Unit {0}) Error) (m : Memory) (new : AvailableConsumer) (k : ℕ) → result_fits a ≡ true → MemoryGood g.ports m → ConsumerGood g.ports new →
      not_connected m.notices ≡ true → k ≤ 1 + g.chargers → TurnGood g k (connect_if a m new)
  connect_good (Ok tt) m new k e h c t l = record { fits = c.port; typed = c.capability; least = omega arith; most = omega arith; memory = h; told = t }
  connect_good (Err x) m new k e h c t l = closed_good (Err x) m k e h (omega arith)

  connect_psu_good : (m : Memory) (new : AvailableConsumer) (k : ℕ) → MemoryGood g.ports m → ConsumerGood g.ports new →
      not_connected m.notices ≡ true → k ≤ 1 + g.chargers → TurnGood g k (connect_psu_of m new r)
  connect_psu_good m new k = connect_good (can_connect_consumer_of (psu_of r new.psu)) m new k (expect_fits idle_or_consumer (kind_of (psu_of r new.psu).psu_state) refl)

  switch_good : (m : Memory) (i old : ℕ) (f : DisconnectFlags) (new : AvailableConsumer) (k : ℕ) → MemoryGood g.ports m → ltb old g.ports ≡ true → ConsumerGood g.ports new →
      not_updated m.notices ≡ true → k ≤ 1 + i → i ≤ g.chargers → TurnGood g k (switch_of g m i old f new r)
  switch_good m i old f new k h o c t l b = go (ltb j g.chargers) refl
    where
      j : ℕ
      j = next_powered r (g.chargers - i) i

      go : (b : Bool) → ltb j g.chargers ≡ b → TurnGood g k (cond b (at (Phase.Switching (Leaver.Charger j) old f new) m) (connect_psu_of (told_switch m old f new) new r))
      go true e = record {
        fits = and_from (ltb j g.chargers) (ltb old g.ports && ltb new.psu g.ports) e (and_from (ltb old g.ports) (ltb new.psu g.ports) o c.port);
        typed = c.capability;
        least = omega arith;
        most = omega (arith, next_from_lem r (g.chargers - i) i);
        memory = h;
        told = t;
      }
      go false e =
          connect_psu_good (told_switch m old f new) new k
          (record { state = h.state; notices = told_disconnected g.ports old (reason_of old new f) m.notices o h.notices }) c
          (and_parts (not_disconnected m.notices.disconnected) (not_connected m.notices) t).1
          (omega arith)

  disconnect_good : (m : Memory) (old : ℕ) (f : DisconnectFlags) (new : AvailableConsumer) → MemoryGood g.ports m → ltb old g.ports ≡ true → ConsumerGood g.ports new →
      not_updated m.notices ≡ true → TurnGood g 0 (disconnect_of g m old f new r)
  disconnect_good m old f new h o c t = go (is_connected_consumer (psu_of r old).psu_state)
    where
      left : MemoryGood g.ports (cleared m)
      left = record { state = no_consumer_lem g.ports m.state h.state; notices = h.notices }

      go : (b : Bool) → TurnGood g 0 (cond b (at (Phase.Switching Leaver.Psu old f new) (cleared m)) (switch_of g (cleared m) 0 old f new r))
      go true = record { fits = and_from (ltb old g.ports) (ltb new.psu g.ports) o c.port; typed = c.capability; least = omega arith; most = omega arith; memory = left; told = t }
      go false = switch_good (cleared m) 0 old f new 0 left o c t (omega arith) (omega arith)

  connect_from_good : (current : Option AvailableConsumer) (m : Memory) (new : AvailableConsumer) (f : DisconnectFlags) → MemoryGood g.ports m → consumer_fits g.ports current ≡ true → ConsumerGood g.ports new →
      not_updated m.notices ≡ true → TurnGood g 0 (connect_from current g m new f r)
  connect_from_good None m new f h o c t =
      connect_psu_good m new 0 h c (and_parts (not_disconnected m.notices.disconnected) (not_connected m.notices) t).1 (omega arith)
  connect_from_good (Some d) m new f h o c t = go (same_available d new)
    where
      go : (b : Bool) → TurnGood g 0 (cond b (finish_update_of g m r) (disconnect_of g m d.psu f new r))
      go true = finish_good m 0 h (omega arith)
      go false = disconnect_good m d.psu f new h o c t

  leave_good : (m : Memory) (i p : ℕ) (f : DisconnectFlags) (k : ℕ) → MemoryGood g.ports m → ltb p g.ports ≡ true →
      not_updated m.notices ≡ true → k ≤ i → i ≤ g.chargers → TurnGood g k (leave_of g m i p f r)
  leave_good m i p f k h o t l b = go (ltb j g.chargers) refl
    where
      j : ℕ
      j = next_powered r (g.chargers - i) i

      go : (b : Bool) → ltb j g.chargers ≡ b → TurnGood g k (cond b (at (Phase.Leaving j p f) m) (finish_update_of g (left_of m p f) r))
      go true e = record {
        fits = and_from (ltb j g.chargers) (ltb p g.ports) e o;
        typed = tt;
        least = omega arith;
        most = omega (arith, next_from_lem r (g.chargers - i) i);
        memory = h;
        told = t;
      }
      go false e =
          finish_good (left_of m p f) k
          (record { state = no_consumer_lem g.ports m.state h.state; notices = told_disconnected g.ports p f m.notices o h.notices })
          (omega arith)

  charge_good : (m : Memory) (i : ℕ) (new : AvailableConsumer) (k : ℕ) → MemoryGood g.ports m → ConsumerGood g.ports new →
      not_connected m.notices ≡ true → 2 + i ≤ k → k ≤ 3 + g.chargers + 3 * i → i ≤ g.chargers → TurnGood g k (charge_of g m i new r)
  charge_good m i new k h c t least most b = go (ltb i g.chargers) refl (charger_unpowered r i)
    where
      go : (b : Bool) → ltb i g.chargers ≡ b → (u : Bool) →
          TurnGood g k (cond b (at (Phase.Connecting (charge_stage u i) new) m) (finish_update_of g (told_connected m new) r))
      go true e true =
          record { fits = and_from (ltb i g.chargers) (ltb new.psu g.ports) e c.port; typed = c.capability; least = omega arith; most = omega arith; memory = h; told = t }
      go true e false =
          record { fits = and_from (ltb i g.chargers) (ltb new.psu g.ports) e c.port; typed = c.capability; least = omega arith; most = omega arith; memory = h; told = t }
      go false e u =
          finish_good (told_connected m new) k (record { state = h.state; notices = told_connected_lem g.ports new m.notices c h.notices })
          (omega arith)

  none_good : (current : Option AvailableConsumer) (m : Memory) (f : DisconnectFlags) → MemoryGood g.ports m → consumer_fits g.ports current ≡ true →
      not_updated m.notices ≡ true → TurnGood g 0 (update_none current g m f r)
  none_good None m f h o t = finish_good m 0 h (omega arith)
  none_good (Some c) m f h o t = leave_good m 0 c.psu f 0 h o t (omega arith) (omega arith)

  -- the best consumer is of a registered port
  chosen_good : (m : Memory) → RecordsFit r → (c : AvailableConsumer) → find_best_consumer g m.state r ≡ Some c → ConsumerGood g.ports c
  chosen_good m w c e = record { port = lt-ltb c.psu g.ports (below (rw e at x)); capability = (and_parts (leb c.psu 15) (capability_fits c.consumer_power_capability.capability) (rw e at y)).1 }
    where
      x : Chosen g.config.min_consumer_threshold_mw m.state.current_consumer_state r.psus (min 16 g.ports) (find_best_consumer g m.state r)
      x = chosen g.config.min_consumer_threshold_mw m.state.current_consumer_state r.psus (min 16 g.ports)

      y : wire.consumer_fits (find_best_consumer g m.state r) ≡ true
      y = best_fits g.config.min_consumer_threshold_mw m.state.current_consumer_state r (min 16 g.ports) (min-le_left 16 g.ports) w

      below : Chosen g.config.min_consumer_threshold_mw m.state.current_consumer_state r.psus (min 16 g.ports) (Some c) → c.psu < g.ports
      below b = omega (arith, b.offer.registered, min-le_right 16 g.ports)

  update_good : (m : Memory) (f : DisconnectFlags) → RecordsFit r → MemoryGood g.ports m → not_updated m.notices ≡ true → TurnGood g 0 (update_of g m f r)
  update_good m f w h t = go (find_best_consumer g m.state r) refl
    where
      go : (best : Option AvailableConsumer) → find_best_consumer g m.state r ≡ best → TurnGood g 0 (update_to best g m f r)
      go None e = none_good m.state.current_consumer_state m f h h.state.consumer t
      go (Some new) e = connect_from_good m.state.current_consumer_state m new f h h.state.consumer (chosen_good m w new e) t

  -- providers

  provide_if_good : (a : Result (Unit {0}) Error) (m : Memory) (p : ℕ) (c : ProviderPowerCapability) → result_fits a ≡ true → MemoryGood g.ports m → ltb p g.ports ≡ true → capability_fits c.capability ≡ true →
      nothing_told m.notices ≡ true → TurnGood g 0 (provide_if a m p c)
  provide_if_good (Ok tt) m p c e h o f t = record { fits = o; typed = f; least = omega arith; most = omega arith; memory = h; told = t }
  provide_if_good (Err x) m p c e h o f t = closed_good (Err x) m 0 e h (omega arith)

  provide_good : (q : Option ProviderPowerCapability) (m : Memory) (p : ℕ) → RequestFits q → MemoryGood g.ports m → ltb p g.ports ≡ true →
      nothing_told m.notices ≡ true → TurnGood g 0 (provide_for q g m p r)
  provide_good None m p w h o t = closed_good (Ok tt) m 0 refl h (omega arith)
  provide_good (Some q) m p w h o t =
      let s = power_state_of g.config (total_with p q r.psus (min 16 g.ports)) in
      provide_if_good (can_connect_provider_of (psu_of r p)) (remember (with_power_state s m.state) m.notices) p (grant_of g.config s q)
      (expect_fits idle_or_provider (kind_of (psu_of r p).psu_state) refl)
      (record { state = with_power g.ports s m.state h.state; notices = h.notices })
      o
      (grant_fits g.config s q limits.config w)
      t

  provided_good : (m : Memory) (p : ℕ) (c : ProviderPowerCapability) → MemoryGood g.ports m → ltb p g.ports ≡ true → capability_fits c.capability ≡ true →
      MemoryGood g.ports (post_provider_of m p c)
  provided_good m p c h o f =
      let t = m.state.connected_providers in
      let n = h.notices in
      record {
        state =
            with_tracked g.ports (insert_of t p).providers m.state
            (insert_mask t p g.ports (ltb-true p g.ports o) (ltb-true t.mask (2 ^ g.ports) h.state.tracked))
            (insert_tracks t p (tracks g.ports m.state limits.ports h.state)) h.state;
        notices = record { provider = o; granted = f; disconnected = n.disconnected; connected = n.connected; typed = n.typed; unconstrained = n.unconstrained };
      }

  removal_good : (m : Memory) (p : ℕ) → MemoryGood g.ports m → ltb p g.ports ≡ true → MemoryGood g.ports (remove_provider_of g m p r)
  removal_good m p h o = go (remove_of t p).found
    where
      t : Providers
      t = m.state.connected_providers

      s : PowerState
      s = power_state_of g.config (total_of r.psus (min 16 g.ports))

      go : (b : Bool) →
          MemoryGood g.ports
          (cond b (remember (with_power_state s (with_providers (remove_of t p).providers m.state)) (tell_provider (ProviderNotice.Disconnected p) m.notices)) m)
      go true =
          let n = h.notices in
          record {
            state =
                with_power g.ports s (with_providers (remove_of t p).providers m.state)
                (with_tracked g.ports (remove_of t p).providers m.state
                (remove_mask t p g.ports (ltb-true p g.ports o) (ltb-true t.mask (2 ^ g.ports) h.state.tracked))
                (remove_tracks t p (tracks g.ports m.state limits.ports h.state)) h.state);
            notices = record { provider = o; granted = tt; disconnected = n.disconnected; connected = n.connected; typed = n.typed; unconstrained = n.unconstrained };
          }
      go false = h

  -- the event

  removal_tells : (s : InternalState) (p : ℕ) → not_updated (remove_provider_of g (remember s no_notices) p r).notices ≡ true
  removal_tells s p = go (remove_of s.connected_providers p).found _
    where
      go : (b : Bool) (x : InternalState) → not_updated (cond {A = Memory} b (remember x (tell_provider (ProviderNotice.Disconnected p) no_notices)) (remember s no_notices)).notices ≡ true
      go true x = refl
      go false x = refl

  depart_good : (s : InternalState) (p : ℕ) (f : DisconnectFlags) → RecordsFit r → MemoryGood g.ports (remember s no_notices) → ltb p g.ports ≡ true → TurnGood g 0 (depart_of g (remember s no_notices) p f r)
  depart_good s p f w h o = update_good (remove_provider_of g (remember s no_notices) p r) f w (removal_good (remember s no_notices) p h o) (removal_tells s p)

  pub process_good : (s : InternalState) (p : ℕ) (e : EventData) → RecordsFit r → MemoryGood g.ports (remember s no_notices) → ltb p g.ports ≡ true → TurnGood g 0 (process_of g (remember s no_notices) p e r)
  process_good s p EventData.Attached w h o = closed_good (Ok tt) (remember s no_notices) 0 refl h (omega arith)
  process_good s p EventData.UpdatedConsumerCapability w h o = update_good (remember s no_notices) no_reason w h refl
  process_good s p EventData.RequestedProviderCapability w h o =
      provide_good (psu_of r p).requested_provider_capability (remember s no_notices) p (psu_fits r p w).1 h o refl
  process_good s p (EventData.Disconnected f) w h o = depart_good s p f w h o
  process_good s p EventData.Detached w h o = depart_good s p detached_reason w h o

  -- the answer to an order: no new consumer is chosen, so the records need not fit

  follow : (i : ℕ) → i < g.chargers → following i ≡ suc i
  follow i l = rw (lt-ltb i 255 (omega (arith, limits.chargers)))

  stage_good : (s : Stage) (new : AvailableConsumer) (m : Memory) (k : ℕ) → At g.ports g.chargers k (Phase.Connecting s new) m → TurnGood g k (after_stage g m s new r)
  stage_good Stage.Psu new m k h = record {
    fits = h.fits;
    typed = h.typed;
    least = omega (arith, h.least);
    most = omega (arith, h.most);
    memory = record { state = with_consumer_lem g.ports (Some new) m.state h.fits h.typed h.memory.state; notices = h.memory.notices };
    told = h.told;
  }
  stage_good Stage.Settling new m k h =
      charge_good m 0 new k h.memory (record { port = h.fits; capability = h.typed }) h.told (omega (arith, h.least)) (omega (arith, h.most)) (omega arith)
  stage_good (Stage.Readying i) new m k h =
      record { fits = h.fits; typed = h.typed; least = omega (arith, h.least); most = omega (arith, h.most); memory = h.memory; told = h.told }
  stage_good (Stage.Initializing i) new m k h =
      record { fits = h.fits; typed = h.typed; least = omega (arith, h.least); most = omega (arith, h.most); memory = h.memory; told = h.told }
  stage_good (Stage.Attaching i) new m k h =
      let l : i < g.chargers = ltb-true i g.chargers (and_parts (ltb i g.chargers) (ltb new.psu g.ports) h.fits).0 in
      rw (follow i l)
      (charge_good m (suc i) new k h.memory
      (record { port = (and_parts (ltb i g.chargers) (ltb new.psu g.ports) h.fits).1; capability = h.typed })
      h.told
      (omega (arith, h.least))
      (omega (arith, h.most))
      (omega (arith, l)))

  after_good : (p : Phase) (m : Memory) (k : ℕ) → At g.ports g.chargers k p m → TurnGood g k (after_order g p m r)
  after_good (Phase.Closed a) m k h = closed_good a m k h.fits h.memory h.most
  after_good (Phase.Leaving i p f) m k h =
      let l : i < g.chargers = ltb-true i g.chargers (and_parts (ltb i g.chargers) (ltb p g.ports) h.fits).0 in
      rw (follow i l)
      (leave_good m (suc i) p f k h.memory (and_parts (ltb i g.chargers) (ltb p g.ports) h.fits).1 h.told (omega (arith, h.most)) (omega (arith, l)))
  after_good (Phase.Switching Leaver.Psu old f new) m k h =
      switch_good m 0 old f new k h.memory (and_parts (ltb old g.ports) (ltb new.psu g.ports) h.fits).0
      (record { port = (and_parts (ltb old g.ports) (ltb new.psu g.ports) h.fits).1; capability = h.typed })
      h.told
      (omega (arith, h.most))
      (omega arith)
  after_good (Phase.Switching (Leaver.Charger i) old f new) m k h =
      let l : i < g.chargers = ltb-true i g.chargers (and_parts (ltb i g.chargers) (ltb old g.ports && ltb new.psu g.ports) h.fits).0 in
      let o : ltb old g.ports && ltb new.psu g.ports ≡ true = (and_parts (ltb i g.chargers) (ltb old g.ports && ltb new.psu g.ports) h.fits).1 in
      rw (follow i l)
      (switch_good m (suc i) old f new k h.memory (and_parts (ltb old g.ports) (ltb new.psu g.ports) o).0
      (record { port = (and_parts (ltb old g.ports) (ltb new.psu g.ports) o).1; capability = h.typed })
      h.told
      (omega (arith, h.most))
      (omega (arith, l)))
  after_good (Phase.Connecting s new) m k h = stage_good s new m k h
  after_good (Phase.Providing p c) m k h = closed_good (Ok tt) (post_provider_of m p c) k refl (provided_good m p c h.memory h.fits h.typed) (omega (arith, h.most))

  -- an error closes the event where it stands
  pub answered_good : (a : Result (Unit {0}) Error) (p : Phase) (m : Memory) (k : ℕ) → result_fits a ≡ true → At g.ports g.chargers k p m → TurnGood g k (answered_to a g p m r)
  answered_good (Ok tt) p m k e h = after_good p m k h
  answered_good (Err x) p m k e h = closed_good (Err x) m k e h.memory (orders_most_lem h)
