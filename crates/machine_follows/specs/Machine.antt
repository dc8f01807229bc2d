-- What the machine's memory and phases stand for: what is held, and what is left of the event.
use Rattle.std.specs.Prelude.{ℕ, suc, ◌-◌, ◌<◌, List, [], ◌∷◌, ◌++◌, ◌≡◌, None, Option, Result, Some}
use Rattle.power_policy_interface.specs.declared.capability.DisconnectFlags.{DisconnectFlags}
use Rattle.power_policy_interface.specs.declared.psu.Error.{Error}
use Rattle.power_policy_interface.specs.declared.service.UnconstrainedState.{UnconstrainedState}
use Rattle.power_policy_interface.specs.declared.service.event.Event.{Event}
use Rattle.interface_display.specs.declared.AvailableConsumer.{AvailableConsumer}
use Rattle.abstract_policy.specs.State.{with_consumer}
use Rattle.abstract_policy.specs.Interaction.{reason_of, update_unconstrained_state, attach_charger, post_consumer_connected, detach_charger, connect_consumer, post_provider_connected, close}
use Rattle.abstract_policy.specs.Action.{Held, Interaction, done, ask, Action, ◌>>◌, skip, set, notify, ok, charger_ok, charger, each}
use Rattle.abstract_policy.specs.declared.state.Registration.{Registration}
use Rattle.abstract_policy.specs.declared.order.Order.{Order}
use Rattle.machine_state.specs.Memory.{no_notices}
use Rattle.machine_state.specs.Phase.{switch_order, connect_order}
use Rattle.machine_state.specs.declared.memory.Disconnected.{Disconnected}
use Rattle.machine_state.specs.declared.memory.Memory.{Memory}
use Rattle.machine_state.specs.declared.memory.Notices.{Notices}
use Rattle.machine_state.specs.declared.memory.ProviderNotice.{ProviderNotice}
use Rattle.machine_state.specs.declared.phase.Leaver.{Leaver}
use Rattle.machine_state.specs.declared.phase.Phase.{Phase}
use Rattle.machine_state.specs.declared.phase.Stage.{Stage}
use Rattle.machine_state.specs.declared.phase.Turn.{Turn}

-- the notices in their order

abbrev pub of_provider : Option ProviderNotice → List Event
of_provider None = []
of_provider (Some (ProviderNotice.Disconnected p)) = Event.ProviderDisconnected p ∷ []
of_provider (Some (ProviderNotice.Connected p c)) = Event.ProviderConnected p c ∷ []

abbrev pub of_disconnected : Option Disconnected → List Event
of_disconnected None = []
of_disconnected (Some d) = Event.ConsumerDisconnected d.port d.flags ∷ []

abbrev pub of_connected : Option AvailableConsumer → List Event
of_connected None = []
of_connected (Some c) = Event.ConsumerConnected c.psu c.consumer_power_capability ∷ []

abbrev pub of_unconstrained : Option UnconstrainedState → List Event
of_unconstrained None = []
of_unconstrained (Some u) = Event.Unconstrained u ∷ []

abbrev pub listed : Notices → List Event
listed n =
    of_provider n.provider ++ (of_disconnected n.disconnected ++ (of_connected n.connected ++ of_unconstrained n.unconstrained))

abbrev pub held_of : Memory → Held
held_of m = record { state = m.state; notices = listed m.notices }

-- what is left of the event after the answer to the open order

-- the n chargers from i on are attached, and what comes then
abbrev pub charged : Registration → ℕ → ℕ → AvailableConsumer → Action (Unit {0})
charged g n i new = do
  each n i (attach_charger new)
  notify (Event.ConsumerConnected new.psu new.consumer_power_capability)
  update_unconstrained_state g

-- the n chargers from i on are detached from the old consumer, and what comes then
abbrev pub switched : Registration → ℕ → ℕ → ℕ → DisconnectFlags → AvailableConsumer → Action (Unit {0})
switched g n i old f new = do
  each n i detach_charger
  notify (Event.ConsumerDisconnected old (reason_of old new f))
  connect_consumer g new
  update_unconstrained_state g

abbrev pub leaving : Registration → ℕ → ℕ → ℕ → DisconnectFlags → Action (Unit {0})
leaving g n i p f = do
  each n i detach_charger
  notify (Event.ConsumerDisconnected p f)
  set (with_consumer None)
  update_unconstrained_state g

abbrev pub rest_of_stage : Registration → Stage → AvailableConsumer → Result (Unit {0}) Error → Action (Unit {0})
rest_of_stage g Stage.Psu new a = do
  ok a
  post_consumer_connected g new
  update_unconstrained_state g
rest_of_stage g Stage.Settling new a = charged g g.chargers 0 new
rest_of_stage g (Stage.Readying i) new a = do
  charger_ok a
  charger (Order.InitCharger i)
  charger (Order.Attach i new.consumer_power_capability)
  charged g (g.chargers - suc i) (suc i) new
rest_of_stage g (Stage.Initializing i) new a = do
  charger_ok a
  charger (Order.Attach i new.consumer_power_capability)
  charged g (g.chargers - suc i) (suc i) new
rest_of_stage g (Stage.Attaching i) new a = do
  charger_ok a
  charged g (g.chargers - suc i) (suc i) new

abbrev pub rest : Registration → Phase → Result (Unit {0}) Error → Action (Unit {0})
rest g (Phase.Closed b) a = skip
rest g (Phase.Leaving i p f) a = do
  charger_ok a
  leaving g (g.chargers - suc i) (suc i) p f
rest g (Phase.Switching Leaver.Psu old f new) a = do
  ok a
  switched g g.chargers 0 old f new
rest g (Phase.Switching (Leaver.Charger i) old f new) a = do
  charger_ok a
  switched g (g.chargers - suc i) (suc i) old f new
rest g (Phase.Connecting s new) a = rest_of_stage g s new a
rest g (Phase.Providing p c) a = do
  ok a
  post_provider_connected p c

-- a turn stands for the close, or for its order and the rest
abbrev pub stands_at : Registration → Phase → Memory → Interaction
stands_at g (Phase.Closed a) m = done a (held_of m)
stands_at g (Phase.Leaving i p f) m = ask (Order.Detach i) (λ a r. rest g (Phase.Leaving i p f) a (held_of m) r close)
stands_at g (Phase.Switching l old f new) m =
    ask (switch_order l old) (λ a r. rest g (Phase.Switching l old f new) a (held_of m) r close)
stands_at g (Phase.Connecting s new) m = ask (connect_order s new) (λ a r. rest g (Phase.Connecting s new) a (held_of m) r close)
stands_at g (Phase.Providing p c) m =
    ask (Order.ConnectProvider p c) (λ a r. rest g (Phase.Providing p c) a (held_of m) r close)

abbrev pub stands_for : Registration → Turn → Interaction
stands_for g t = stands_at g t.phase t.memory

-- which notices an open event has not given yet, and that its charger is registered

abbrev pub StageFits : ℕ → Stage → Type 0
StageFits chargers Stage.Psu = Unit {0}
StageFits chargers Stage.Settling = Unit {0}
StageFits chargers (Stage.Readying i) = i < chargers
StageFits chargers (Stage.Initializing i) = i < chargers
StageFits chargers (Stage.Attaching i) = i < chargers

abbrev pub LeaverFits : ℕ → Leaver → Type 0
LeaverFits chargers Leaver.Psu = Unit {0}
LeaverFits chargers (Leaver.Charger i) = i < chargers

-- the new consumer is not told of yet
pub record NotConnected (n : Notices) : Type 0 where
  pub connected : n.connected ≡ None
  pub unconstrained : n.unconstrained ≡ None

-- no consumer is told of yet
pub record NotUpdated (n : Notices) : Type 0 where
  pub disconnected : n.disconnected ≡ None
  pub later : NotConnected n

abbrev pub Fits : ℕ → Phase → Notices → Type 0
Fits chargers (Phase.Closed a) n = Unit {0}
Fits chargers (Phase.Leaving i p f) n = (i < chargers) × NotUpdated n
Fits chargers (Phase.Switching l old f new) n = LeaverFits chargers l × NotUpdated n
Fits chargers (Phase.Connecting s new) n = StageFits chargers s × NotConnected n
Fits chargers (Phase.Providing p c) n = n ≡ no_notices
