-- What the numbers of a call name: the event of a kind with its detail, and an answer.
use Rattle.std.specs.Prelude.{ℕ, List, [], ◌∷◌, get_or, None, Ok, Option, Result, Some}
use Rattle.power_policy_interface.specs.Capability.{disconnect_from}
use Rattle.power_policy_interface.specs.Psu.{answer_from}
use Rattle.power_policy_interface.specs.declared.capability.DisconnectFlags.{DisconnectFlags}
use Rattle.power_policy_interface.specs.declared.psu.Error.{Error}
use Rattle.power_policy_interface.specs.declared.psu.event.EventData.{EventData}
use Rattle.abstract_policy.specs.Interaction.{no_reason}

abbrev pub flags_in : Option DisconnectFlags → DisconnectFlags
flags_in None = no_reason
flags_in (Some f) = f

-- PKT-10: 0 none, 1 Detached, then as written, to 6 Reset; above 6 has been refused
abbrev pub flags_of : ℕ → DisconnectFlags
flags_of detail = flags_in (disconnect_from detail)

-- REF-24: 0 to 4 as psu/event.rs writes them; EVT-14: they carry no capability
abbrev pub events : ℕ → List EventData
events detail =
    EventData.Attached
    ∷ EventData.UpdatedConsumerCapability
    ∷ EventData.RequestedProviderCapability
    ∷ EventData.Disconnected (flags_of detail)
    ∷ EventData.Detached
    ∷ []

-- above has been refused
abbrev pub event_of : ℕ → ℕ → EventData
event_of kind detail = get_or (events detail) kind EventData.Attached

abbrev pub result_in : Option (Result (Unit {0}) Error) → Result (Unit {0}) Error
result_in None = Ok tt
result_in (Some a) = a

-- PKT-3: 0 done, 1 to 10 the error; above 10 has been refused
abbrev pub result_of : ℕ → Result (Unit {0}) Error
result_of a = result_in (answer_from a)
