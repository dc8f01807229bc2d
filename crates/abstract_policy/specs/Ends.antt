-- What holds of an event wherever it closes, whatever is answered: the bound on its orders, what its notices lead to, and the consumer that it leaves.
use Rattle.std.specs.Prelude.{ℕ, zero, suc, Bool, true, false, ◌≡◌, Err, Ok, Option, Result}
use Rattle.interface_display.specs.declared.AvailableConsumer.{AvailableConsumer}
use Rattle.power_policy_interface.specs.declared.psu.Error.{Error}
use Rattle.power_policy_interface.specs.declared.psu.event.EventData.{EventData}
use Rattle.interface_display.specs.Notices.{applied_all}
use Rattle.interface_display.specs.declared.Display.{Display}
use Rattle.abstract_policy.specs.Action.{Held, Interaction, done, ask}
use Rattle.abstract_policy.specs.State.{display_of}
use Rattle.abstract_policy.specs.declared.state.Records.{Records}

-- DEM-1a: whatever is answered, an event closes after at most n orders
abbrev pub AtMost : ℕ → Interaction → Type 0
AtMost n (done a h) = Unit {0}
AtMost zero (ask o k) = ⊥
AtMost (suc n) (ask o k) = (a : Result (Unit {0}) Error) (r : Records) → AtMost n (k a r)

-- this holds where it closes without error, whatever is answered and whatever records come with it
abbrev pub Ends : (Held → Type 0) → Interaction → Type 0
Ends C (done (Ok tt) h) = C h
Ends C (done (Err e) h) = Unit {0}
Ends C (ask o k) = (a : Result (Unit {0}) Error) (r : Records) → Ends C (k a r)

-- the notices so far lead from d to what is held
abbrev pub Leads : Display → Held → Type 0
Leads d h = display_of h.state ≡ applied_all h.notices d

-- wherever it closes without error, whatever is answered
abbrev pub Carries : Display → Interaction → Type 0
Carries d i = Ends (Leads d) i

abbrev pub Consumes : Option AvailableConsumer → Held → Type 0
Consumes c h = h.state.current_consumer_state ≡ c

-- wherever it closes without error, whatever is answered, this is the consumer
abbrev pub Chooses : Option AvailableConsumer → Interaction → Type 0
Chooses c i = Ends (Consumes c) i

-- the events that update the consumer
abbrev pub updates_consumer : EventData → Bool
updates_consumer EventData.Attached = false
updates_consumer EventData.UpdatedConsumerCapability = true
updates_consumer EventData.RequestedProviderCapability = false
updates_consumer (EventData.Disconnected f) = true
updates_consumer EventData.Detached = true
