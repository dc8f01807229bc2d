-- A logic of actions, what holds before and what holds after, for any condition at the close: each action hands on what it holds, or asks and goes
-- on so whatever is answered, and an error ends the event where nothing is asked of it.
use Rattle.std.specs.Prelude.{Err, None, Ok, Result, Some}
use mathlib.Core.Path.{◌≡◌, refl, sym, subst}
use mathlib.Core.Bool.{Bool, true, false}
use mathlib.Core.List.{[], ◌∷◌, ◌++◌}
use Prim.Native.Nat.{ℕ, zero, suc}
use Rattle.power_policy_interface.specs.Psu.{can_connect_consumer_of}
use Rattle.power_policy_interface.specs.Service.{same_unconstrained}
use Rattle.power_policy_interface.specs.declared.capability.DisconnectFlags.{DisconnectFlags}
use Rattle.power_policy_interface.specs.declared.psu.Error.{Error}
use Rattle.power_policy_interface.specs.declared.service.UnconstrainedState.{UnconstrainedState}
use Rattle.power_policy_interface.specs.declared.service.event.Event.{Event}
use Rattle.interface_display.specs.declared.AvailableConsumer.{AvailableConsumer}
use Rattle.abstract_policy.specs.State.{with_consumer, with_unconstrained, psu_of, charger_unpowered}
use Rattle.abstract_policy.specs.Interaction.{reason_of, unconstrained_of, is_connected_consumer, update_unconstrained_state, attach_charger, post_consumer_connected, detach_charger, disconnect_chargers, disconnect_current, connect_consumer}
use Rattle.abstract_policy.specs.Action.{Held, Interaction, done, Action, ◌>>=◌, ◌>>◌, skip, records, set, notify, await, ok, charger_ok, charger, psu, when, unless, each}
use Rattle.abstract_policy.specs.Ends.{Ends}
use Rattle.abstract_policy.specs.declared.state.InternalState.{InternalState}
use Rattle.abstract_policy.specs.declared.state.Records.{Records}
use Rattle.abstract_policy.specs.declared.state.Registration.{Registration}
use Rattle.abstract_policy.specs.declared.order.Order.{Order}

-- closed without error
pub ends_ok : (C : Held → Type 0) (a : Result (Unit {0}) Error) (h : Held) → Ends C (done a h) → a ≡ (Ok tt) → C h
ends_ok C (Ok tt) h c e = c
ends_ok C (Err x) h c e = absurd (subst IsErr e tt)
  where
    IsErr : Result (Unit {0}) Error → Type 0
    IsErr (Ok tt) = ⊥
    IsErr (Err y) = Unit {0}

abbrev pub Next : Type 0
Next = Unit {0} → Held → Records → Interaction

-- an action begun where P holds goes on where Q does: what comes next ends well there, so the whole does
pub record From (P : Held → Type 0) (m : Action (Unit {0})) (Q : Held → Type 0) : Type 1 where
  pub goes :
      (C : Held → Type 0) (h : Held) (r : Records) (k : Next) → P h → ((h' : Held) (r' : Records) → Q h' → Ends C (k tt h' r')) →
      Ends C (m h r k)

pub then : {P Q R : Held → Type 0} {a b : Action (Unit {0})} → From P a Q → From Q b R → From P (a >> b) R
then {P} {Q} {R} {a} {b} x y = record {
  goes = λ C h r k p q. x.goes C h r (λ u h' r'. b h' r' k) p (λ h' r' z. y.goes C h' r' k z q);
}

pub skips : {P : Held → Type 0} → From P skip P
skips = record { goes = λ C h r k p q. q h r p }

-- a change of the state, and a notice, lead from P to Q

abbrev pub SetsTo : (InternalState → InternalState) → (Held → Type 0) → (Held → Type 0) → Type 0
SetsTo f P Q = (h : Held) → P h → Q (record { state = f h.state; notices = h.notices })

abbrev pub TellsTo : Event → (Held → Type 0) → (Held → Type 0) → Type 0
TellsTo e P Q = (h : Held) → P h → Q (record { state = h.state; notices = h.notices ++ (e ∷ []) })

pub sets : {P Q : Held → Type 0} (f : InternalState → InternalState) → SetsTo f P Q → From P (set f) Q
sets f z = record { goes = λ C h r k p q. q _ r (z h p) }

pub notifies : {P Q : Held → Type 0} (e : Event) → TellsTo e P Q → From P (notify e) Q
notifies e z = record { goes = λ C h r k p q. q _ r (z h p) }

psu_answer : (C : Held → Type 0) (a : Result (Unit {0}) Error) (h : Held) (r : Records) (k : Next) → Ends C (k tt h r) → Ends C (ok a h r k)
psu_answer C (Ok tt) h r k p = p
psu_answer C (Err x) h r k p = tt

charger_answer : (C : Held → Type 0) (a : Result (Unit {0}) Error) (h : Held) (r : Records) (k : Next) → Ends C (k tt h r) → Ends C (charger_ok a h r k)
charger_answer C (Ok tt) h r k p = p
charger_answer C (Err x) h r k p = tt

pub oks : {P : Held → Type 0} (a : Result (Unit {0}) Error) → From P (ok a) P
oks a = record { goes = λ C h r k p q. psu_answer C a h r k (q h r p) }

pub asks_psu : {P : Held → Type 0} (o : Order) → From P (psu o) P
asks_psu o = record { goes = λ C h r k p q. λ a r'. psu_answer C a h r' k (q h r' p) }

pub asks_charger : {P : Held → Type 0} (o : Order) → From P (charger o) P
asks_charger o = record { goes = λ C h r k p q. λ a r'. charger_answer C a h r' k (q h r' p) }

pub waits : {P Q : Held → Type 0} {b : Action (Unit {0})} → From P b Q → From P (await Order.Wait >> b) Q
waits x = record { goes = λ C h r k p q. λ a r'. x.goes C h r' k p q }

pub whens : {P : Held → Type 0} {m : Action (Unit {0})} (b : Bool) → From P m P → From P (when b m) P
whens true x = x
whens false x = skips

pub unlesses : {P : Held → Type 0} {m : Action (Unit {0})} (b : Bool) → From P m P → From P (unless b m) P
unlesses true x = skips
unlesses false x = x

pub loops : {P : Held → Type 0} (n i : ℕ) (f : ℕ → Action (Unit {0})) → ((x : ℕ) → From P (f x) P) → From P (each n i f) P
loops zero i f x = skips
loops (suc n) i f x = then (x i) (loops n (suc i) f x)

-- what reads the state or the records
pub reads : {P Q : Held → Type 0} {a : Action (Unit {0})} (f : InternalState → Records → Action (Unit {0})) →
    ((h : Held) (r : Records) (k : Next) → a h r k ≡ f h.state r h r k) →
    ((s : InternalState) (r : Records) → From (λ h. P h × (h.state ≡ s)) (f s r) Q) →
    From P a Q
reads f e x = record { goes = λ C h r k p q. subst (λ i. Ends C i) (sym (e h r k)) ((x h.state r).goes C h r k (p, refl) q) }

pub forget : {P Q : Held → Type 0} {a : Action (Unit {0})} (s : InternalState) → From P a Q → From (λ h. P h × (h.state ≡ s)) a Q
forget s x = record { goes = λ C h r k p q. x.goes C h r k p.0 q }

-- the chargers change nothing

attaches : {P : Held → Type 0} (new : AvailableConsumer) (i : ℕ) → From P (attach_charger new i) P
unfolding attach_charger
attaches new i =
    reads (λ s r. when (charger_unpowered r i) (charger (Order.IsReady i) >> charger (Order.InitCharger i)) >> charger (Order.Attach i new.consumer_power_capability))
    (λ h r k. refl)
    (λ s r. forget s
    (then (whens (charger_unpowered r i) (then (asks_charger (Order.IsReady i)) (asks_charger (Order.InitCharger i))))
    (asks_charger (Order.Attach i new.consumer_power_capability))))

detaches : {P : Held → Type 0} (i : ℕ) → From P (detach_charger i) P
unfolding detach_charger
detaches i =
    reads (λ s r. unless (charger_unpowered r i) (charger (Order.Detach i))) (λ h r k. refl)
    (λ s r. forget s (unlesses (charger_unpowered r i) (asks_charger (Order.Detach i))))

pub chargers_left : {P : Held → Type 0} (g : Registration) → From P (disconnect_chargers g) P
unfolding disconnect_chargers
chargers_left g = loops g.chargers 0 detach_charger detaches

-- the parts of an update change the state once and tell once

abbrev pub connected_event : AvailableConsumer → Event
connected_event new = Event.ConsumerConnected new.psu new.consumer_power_capability

connected : {P A Q : Held → Type 0} (g : Registration) (new : AvailableConsumer) →
    SetsTo (with_consumer (Some new)) P A → TellsTo (connected_event new) A Q → From P (post_consumer_connected g new) Q
unfolding post_consumer_connected
connected g new z t =
    then (sets (with_consumer (Some new)) z)
    (waits (then (loops g.chargers 0 (attach_charger new) (attaches new)) (notifies (connected_event new) t)))

pub connects : {P A Q : Held → Type 0} (g : Registration) (new : AvailableConsumer) →
    SetsTo (with_consumer (Some new)) P A → TellsTo (connected_event new) A Q → From P (connect_consumer g new) Q
unfolding connect_consumer
connects g new z t =
    reads (λ s r. ok (can_connect_consumer_of (psu_of r new.psu)) >> (psu (Order.ConnectConsumer new.psu new.consumer_power_capability) >> post_consumer_connected g new))
    (λ h r k. refl)
    (λ s r. forget s
    (then (oks (can_connect_consumer_of (psu_of r new.psu)))
    (then (asks_psu (Order.ConnectConsumer new.psu new.consumer_power_capability)) (connected g new z t))))

gives_way : {A Q : Held → Type 0} (g : Registration) (current new : AvailableConsumer) (f : DisconnectFlags) →
    TellsTo (Event.ConsumerDisconnected current.psu (reason_of current.psu new f)) A Q →
    From A
    (records >>= (λ r. when (is_connected_consumer (psu_of r current.psu).psu_state) (psu (Order.Disconnect current.psu))
    >> (disconnect_chargers g >> notify (Event.ConsumerDisconnected current.psu (reason_of current.psu new f)))))
    Q
gives_way g current new f t =
    reads (λ s r. when (is_connected_consumer (psu_of r current.psu).psu_state) (psu (Order.Disconnect current.psu))
    >> (disconnect_chargers g >> notify (Event.ConsumerDisconnected current.psu (reason_of current.psu new f))))
    (λ h r k. refl)
    (λ s r. forget s
    (then (whens (is_connected_consumer (psu_of r current.psu).psu_state) (asks_psu (Order.Disconnect current.psu)))
    (then (chargers_left g) (notifies (Event.ConsumerDisconnected current.psu (reason_of current.psu new f)) t))))

pub disconnects : {P A Q : Held → Type 0} (g : Registration) (current new : AvailableConsumer) (f : DisconnectFlags) →
    SetsTo (with_consumer None) P A →
    TellsTo (Event.ConsumerDisconnected current.psu (reason_of current.psu new f)) A Q → From P (disconnect_current g current new f) Q
unfolding disconnect_current
disconnects g current new f z t = then (sets (with_consumer None) z) (gives_way g current new f t)

pub figures : {P : Held → Type 0} {A : UnconstrainedState → Held → Type 0} (g : Registration) →
    ((u : UnconstrainedState) → SetsTo (with_unconstrained u) P (A u)) → ((u : UnconstrainedState) → TellsTo (Event.Unconstrained u) (A u) P) →
    From P (update_unconstrained_state g) P
unfolding update_unconstrained_state
figures g z t =
    reads (λ s r. unless (same_unconstrained (unconstrained_of g s r) s.unconstrained) (set (with_unconstrained (unconstrained_of g s r)) >> notify (Event.Unconstrained (unconstrained_of g s r))))
    (λ h r k. refl)
    (λ s r. forget s
    (unlesses (same_unconstrained (unconstrained_of g s r) s.unconstrained)
    (then (sets (with_unconstrained (unconstrained_of g s r)) (z (unconstrained_of g s r))) (notifies (Event.Unconstrained (unconstrained_of g s r)) (t (unconstrained_of g s r))))))
