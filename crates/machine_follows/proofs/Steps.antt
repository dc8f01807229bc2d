-- Each step of the update stands for the part of the event that it takes: passing over unpowered chargers to the next powered one is the
-- loop over all of them, and the rest is the same case distinction on both sides.
use Rattle.std.specs.Prelude.{Err, None, Ok, Option, Result, Some}
use mathlib.Core.Path.{◌≡◌, refl, sym, ap, ◌∙◌}
use mathlib.Core.Bool.{Bool, true, false, cond}
use Prim.Native.Nat.{ℕ, zero, suc, ◌+◌, ◌-◌}
use native.Mathlib.Omega.{arith}
use lib.Dec.{ltb}
use borrow.Author.Tests.{lt-ltb, le-ltb}
use Rattle.power_policy_interface.specs.Psu.{can_connect_consumer_of}
use Rattle.power_policy_interface.specs.Service.{same_unconstrained}
use Rattle.power_policy_interface.specs.declared.capability.DisconnectFlags.{DisconnectFlags}
use Rattle.power_policy_interface.specs.declared.psu.Error.{Error}
use Rattle.power_policy_interface.specs.declared.service.UnconstrainedState.{UnconstrainedState}
use Rattle.power_policy_interface.specs.declared.service.event.Event.{Event}
use Rattle.interface_display.specs.declared.AvailableConsumer.{AvailableConsumer}
use Rattle.abstract_policy.specs.State.{psu_of, charger_unpowered, with_consumer, with_unconstrained}
use Rattle.abstract_policy.specs.Interaction.{unconstrained_of, reason_of, is_connected_consumer, same_available, find_best_consumer, update_unconstrained_state, attach_charger, post_consumer_connected, detach_charger, disconnect_chargers, disconnect_current, connect_consumer, connect_new_consumer, connect_best, update_current_consumer, close}
use Rattle.abstract_policy.specs.Action.{Held, Interaction, done, ask, Action, ◌>>◌, set, notify, ok, charger_ok, charger, psu, when, unless, each}
use Rattle.abstract_policy.specs.declared.state.Records.{Records}
use Rattle.abstract_policy.specs.declared.state.Registration.{Registration}
use Rattle.abstract_policy.specs.declared.order.Order.{Order}
use Rattle.machine_state.specs.Memory.{tell_unconstrained, next_powered}
use Rattle.machine_state.specs.declared.memory.Memory.{Memory}
use Rattle.machine_state.specs.declared.phase.Leaver.{Leaver}
use Rattle.machine_state.specs.declared.phase.Phase.{Phase}
use Rattle.machine_state.specs.declared.phase.Turn.{Turn}
use Rattle.machine_update.specs.Update.{at, finish_update_of, connect_if, connect_psu_of, told_switch, switch_of, cleared, disconnect_of, connect_from, left_of, leave_of, charge_stage, told_connected, charge_of, update_none, update_to, update_of}
use Rattle.machine_follows.specs.Machine.{held_of, listed, charged, switched, leaving, stands_for, NotConnected, NotUpdated}
use Rattle.machine_follows.proofs.Told.{told_disconnected, told_connected_lem, told_unconstrained}

-- one test on both sides
abbrev Next : Type 0
Next = Unit {0} → Held → Records → Interaction

by_test : (g : Registration) (b : Bool) (x y : Turn) (i j : Interaction) → stands_for g x ≡ i → stands_for g y ≡ j → stands_for g (cond b x y) ≡ cond b i j
by_test g true x y i j p q = p
by_test g false x y i j p q = q

-- the last step

finish_told : (b : Bool) (u : UnconstrainedState) (m : Memory) (r : Records) → m.notices.unconstrained ≡ None →
    done (Ok tt) (held_of (cond b m (record { state = with_unconstrained u m.state; notices = tell_unconstrained u m.notices })))
    ≡ unless b (set (with_unconstrained u) >> notify (Event.Unconstrained u)) (held_of m) r close
finish_told true u m r e = refl
finish_told false u m r e = ap (λ l. done (Ok tt) (record { state = with_unconstrained u m.state; notices = l })) (told_unconstrained u m.notices e)

pub finish_update : (g : Registration) (m : Memory) (r : Records) → m.notices.unconstrained ≡ None →
    stands_for g (finish_update_of g m r) ≡ update_unconstrained_state g (held_of m) r close
unfolding update_unconstrained_state
finish_update g m r e =
    finish_told (same_unconstrained (unconstrained_of g m.state r) m.state.unconstrained) (unconstrained_of g m.state r) m r e

-- the loop over the chargers asks at charger j, if that is below the count, and goes on behind it
abbrev pub asked_at : ℕ → ℕ → Held → Records → Next → Interaction
asked_at j count h r k =
    cond (ltb j count)
    (ask (Order.Detach j) (λ a r'. charger_ok a h r' (λ u h' r''. each (count - suc j) (suc j) detach_charger h' r'' k)))
    (k tt h r)

here : (n i count : ℕ) (h : Held) (r : Records) (k : Next) → i + suc n ≡ count → (b : Bool) →
    each n (suc i) detach_charger h r k ≡ asked_at (next_powered r n (suc i)) count h r k →
    unless b (charger (Order.Detach i)) h r (λ u h' r'. each n (suc i) detach_charger h' r' k)
    ≡ asked_at (cond b (next_powered r n (suc i)) i) count h r k
here n i count h r k e true ih = ih
here n i count h r k e false ih =
    let c : count - suc i ≡ n = omega arith in
    rw (lt-ltb i count (omega arith), c)

pub sweep : (n i count : ℕ) (h : Held) (r : Records) (k : Next) → i + n ≡ count →
    each n i detach_charger h r k ≡ asked_at (next_powered r n i) count h r k
unfolding detach_charger
sweep zero i count h r k e = rw (le-ltb i count (omega arith))
sweep (suc n) i count h r k e =
    here n i count h r k e (charger_unpowered r i) (sweep n (suc i) count h r k (omega arith))

-- connecting

pub connect_psu : (g : Registration) (m : Memory) (new : AvailableConsumer) (r : Records) →
    stands_for g (connect_psu_of m new r) ≡ (connect_consumer g new >> update_unconstrained_state g) (held_of m) r close
unfolding connect_consumer
connect_psu g m new r = go (can_connect_consumer_of (psu_of r new.psu))
  where
    go : (a : Result (Unit {0}) Error) → stands_for g (connect_if a m new) ≡ (ok a >> (psu (Order.ConnectConsumer new.psu new.consumer_power_capability) >> (post_consumer_connected g new >> update_unconstrained_state g))) (held_of m) r close
    go (Ok tt) = refl
    go (Err e) = refl

told_switch_lem : (g : Registration) (m : Memory) (old : ℕ) (f : DisconnectFlags) (new : AvailableConsumer) (r : Records) → NotUpdated m.notices →
    stands_for g (connect_psu_of (told_switch m old f new) new r)
    ≡ (notify (Event.ConsumerDisconnected old (reason_of old new f)) >> (connect_consumer g new >> update_unconstrained_state g)) (held_of m) r close
told_switch_lem g m old f new r h =
    connect_psu g (told_switch m old f new) new r
    ∙ ap (λ l. (connect_consumer g new >> update_unconstrained_state g) (record { state = m.state; notices = l }) r close) (told_disconnected old (reason_of old new f) m.notices h)

pub switch_from : (g : Registration) (m : Memory) (n i old : ℕ) (f : DisconnectFlags) (new : AvailableConsumer) (r : Records) →
    i + n ≡ g.chargers → NotUpdated m.notices →
    stands_for g (switch_of g m i old f new r) ≡ switched g n i old f new (held_of m) r close
switch_from g m n i old f new r e h =
    let c : g.chargers - i ≡ n = omega arith in
    rw c
    (by_test g (ltb (next_powered r n i) g.chargers) _ _ _ _ refl (told_switch_lem g m old f new r h)
    ∙ sym (sweep n i g.chargers (held_of m) r (λ u h' r'. (notify (Event.ConsumerDisconnected old (reason_of old new f)) >> (connect_consumer g new >> update_unconstrained_state g)) h' r' close) e))

-- the old consumer gives way

give_way : (g : Registration) (m : Memory) (old : ℕ) (f : DisconnectFlags) (new : AvailableConsumer) (r : Records) (b : Bool) → NotUpdated m.notices →
    stands_for g (cond b (at (Phase.Switching Leaver.Psu old f new) m) (switch_of g m 0 old f new r))
    ≡ (when b (psu (Order.Disconnect old)) >> switched g g.chargers 0 old f new) (held_of m) r close
give_way g m old f new r true h = refl
give_way g m old f new r false h = switch_from g m g.chargers 0 old f new r (omega arith) h

pub disconnect_current_lem : (g : Registration) (m : Memory) (current new : AvailableConsumer) (f : DisconnectFlags) (r : Records) → NotUpdated m.notices →
    stands_for g (disconnect_of g m current.psu f new r)
    ≡ (disconnect_current g current new f >> (connect_consumer g new >> update_unconstrained_state g)) (held_of m) r close
unfolding disconnect_current disconnect_chargers
disconnect_current_lem g m current new f r h =
    give_way g (cleared m) current.psu f new r (is_connected_consumer (psu_of r current.psu).psu_state) h

abbrev then_unconstrained : Registration → Action (Unit {0}) → Memory → Records → Interaction
then_unconstrained g a m r = (a >> update_unconstrained_state g) (held_of m) r close

pub connect_from_lem : (g : Registration) (m : Memory) (current : Option AvailableConsumer) (new : AvailableConsumer) (f : DisconnectFlags) (r : Records) → NotUpdated m.notices →
    stands_for g (connect_from current g m new f r) ≡ then_unconstrained g (connect_new_consumer g current new f) m r
unfolding connect_new_consumer
connect_from_lem g m None new f r h = connect_psu g m new r
connect_from_lem g m (Some c) new f r h = go (same_available c new)
  where
    go : (b : Bool) → stands_for g (cond b (finish_update_of g m r) (disconnect_of g m c.psu f new r))
        ≡ then_unconstrained g (unless b (disconnect_current g c new f >> connect_consumer g new)) m r
    go true = finish_update g m r h.later.unconstrained
    go false = disconnect_current_lem g m c new f r h

-- no consumer is left

told_left : (g : Registration) (m : Memory) (p : ℕ) (f : DisconnectFlags) (r : Records) → NotUpdated m.notices →
    stands_for g (finish_update_of g (left_of m p f) r)
    ≡ (notify (Event.ConsumerDisconnected p f) >> (set (with_consumer None) >> update_unconstrained_state g)) (held_of m) r close
told_left g m p f r h =
    finish_update g (left_of m p f) r h.later.unconstrained
    ∙ ap (λ l. update_unconstrained_state g (record { state = with_consumer None m.state; notices = l }) r close) (told_disconnected p f m.notices h)

pub leave_from : (g : Registration) (m : Memory) (n i p : ℕ) (f : DisconnectFlags) (r : Records) → i + n ≡ g.chargers → NotUpdated m.notices →
    stands_for g (leave_of g m i p f r) ≡ leaving g n i p f (held_of m) r close
leave_from g m n i p f r e h =
    let c : g.chargers - i ≡ n = omega arith in
    rw c
    (by_test g (ltb (next_powered r n i) g.chargers) _ _ _ _ refl (told_left g m p f r h)
    ∙ sym (sweep n i g.chargers (held_of m) r (λ u h' r'. (notify (Event.ConsumerDisconnected p f) >> (set (with_consumer None) >> update_unconstrained_state g)) h' r' close) e))

-- the update

update_none_lem : (g : Registration) (m : Memory) (f : DisconnectFlags) (r : Records) (current : Option AvailableConsumer) → m.state.current_consumer_state ≡ current → NotUpdated m.notices →
    stands_for g (update_none current g m f r) ≡ then_unconstrained g (connect_best g None current f) m r
unfolding connect_best disconnect_chargers
update_none_lem g m f r None e h =
    finish_update g m r h.later.unconstrained
    ∙ ap (λ c. update_unconstrained_state g (record { state = with_consumer c m.state; notices = listed m.notices }) r close) e
update_none_lem g m f r (Some c) e h = leave_from g m g.chargers 0 c.psu f r (omega arith) h

update_to_lem : (g : Registration) (m : Memory) (f : DisconnectFlags) (r : Records) (best : Option AvailableConsumer) → NotUpdated m.notices →
    stands_for g (update_to best g m f r) ≡ then_unconstrained g (connect_best g best m.state.current_consumer_state f) m r
unfolding connect_best
update_to_lem g m f r None h = update_none_lem g m f r m.state.current_consumer_state refl h
update_to_lem g m f r (Some new) h = connect_from_lem g m m.state.current_consumer_state new f r h

pub update_follows : (g : Registration) (m : Memory) (f : DisconnectFlags) (r : Records) → NotUpdated m.notices →
    stands_for g (update_of g m f r) ≡ update_current_consumer g f (held_of m) r close
unfolding update_current_consumer
update_follows g m f r h = update_to_lem g m f r (find_best_consumer g m.state r) h

-- the new consumer is connected

told_connect : (g : Registration) (m : Memory) (new : AvailableConsumer) (r : Records) → NotConnected m.notices →
    stands_for g (finish_update_of g (told_connected m new) r)
    ≡ (notify (Event.ConsumerConnected new.psu new.consumer_power_capability) >> update_unconstrained_state g) (held_of m) r close
told_connect g m new r h =
    finish_update g (told_connected m new) r h.unconstrained
    ∙ ap (λ l. update_unconstrained_state g (record { state = m.state; notices = l }) r close) (told_connected_lem new m.notices h)

ready : (g : Registration) (m : Memory) (n i : ℕ) (new : AvailableConsumer) (r : Records) (b : Bool) → g.chargers - suc i ≡ n →
    stands_for g (at (Phase.Connecting (charge_stage b i) new) m)
    ≡ (when b (charger (Order.IsReady i) >> charger (Order.InitCharger i)) >> (charger (Order.Attach i new.consumer_power_capability) >> charged g n (suc i) new)) (held_of m) r close
ready g m n i new r true e = rw e
ready g m n i new r false e = rw e

pub charge_from : (g : Registration) (m : Memory) (n i : ℕ) (new : AvailableConsumer) (r : Records) → i + n ≡ g.chargers → NotConnected m.notices →
    stands_for g (charge_of g m i new r) ≡ charged g n i new (held_of m) r close
unfolding attach_charger
charge_from g m zero i new r e h = rw (le-ltb i g.chargers (omega arith)) (told_connect g m new r h)
charge_from g m (suc n) i new r e h =
    rw (lt-ltb i g.chargers (omega arith)) (ready g m n i new r (charger_unpowered r i) (omega arith))
