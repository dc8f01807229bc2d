-- What is held between events (LNK-5), and what a notice makes of it (FOL-9).
use Rattle.std.specs.Prelude.{ℕ, false, None, Option, Some}
use Rattle.power_policy_interface.specs.declared.service.UnconstrainedState.{UnconstrainedState}
use Rattle.power_policy_interface.specs.declared.service.event.Event.{Event}
use Rattle.interface_display.specs.Providers.{none, insert_of, remove_of}
use Rattle.interface_display.specs.declared.AvailableConsumer.{AvailableConsumer}
use Rattle.interface_display.specs.declared.Display.{Display}
use Rattle.interface_display.specs.declared.State.{State}
use Rattle.interface_display.specs.declared.providers.Providers.{Providers}

abbrev pub fresh : Display
fresh =
    record {
      consumer = None;
      unconstrained = record { unconstrained = false; available = 0 };
      providers = none;
    }

abbrev pub set_consumer : Display → Option AvailableConsumer → Display
set_consumer d c = record { consumer = c; unconstrained = d.unconstrained; providers = d.providers }

abbrev pub set_unconstrained : Display → UnconstrainedState → Display
set_unconstrained d u = record { consumer = d.consumer; unconstrained = u; providers = d.providers }

abbrev pub set_providers : Display → Providers → Display
set_providers d p = record { consumer = d.consumer; unconstrained = d.unconstrained; providers = p }

-- the number of what a follower says of itself
abbrev pub state_number : State → ℕ
state_number State.Lost = 0
state_number State.Level = 1
state_number State.Waiting = 2

-- FOL-9: 1 leaves no consumer; 2 sets it; 3 untracks the port; 4
-- tracks it if there or fewer than four are; 5 sets both figures
abbrev pub applied_to : Display → Event → Display
applied_to d (Event.ConsumerDisconnected p f) = set_consumer d None
applied_to d (Event.ConsumerConnected p c) =
    set_consumer d (Some (record { psu = p; consumer_power_capability = c }))
applied_to d (Event.ProviderDisconnected p) = set_providers d (remove_of d.providers p).providers
applied_to d (Event.ProviderConnected p c) = set_providers d (insert_of d.providers p).providers
applied_to d (Event.Unconstrained u) = set_unconstrained d u
