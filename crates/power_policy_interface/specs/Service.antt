-- What the functions of service.rt and service/event.rt compute.
use Rattle.std.specs.Prelude.{Bool, ◌&&◌, ◌==◌}
use Rattle.std.specs.Bool.{beq}
use Rattle.power_policy_interface.specs.declared.service.UnconstrainedState.{UnconstrainedState}
use Rattle.power_policy_interface.specs.declared.service.event.Event.{Event}
use Rattle.power_policy_interface.specs.declared.service.event.EventData.{EventData}

-- UPD-13: equality of both figures (proofs/Same.antt: true exactly at equal values)
abbrev pub same_unconstrained : UnconstrainedState → UnconstrainedState → Bool
same_unconstrained a b = a.available == b.available && beq a.unconstrained b.unconstrained

abbrev pub data_of : Event → EventData
data_of (Event.ConsumerDisconnected p d) = EventData.ConsumerDisconnected d
data_of (Event.ConsumerConnected p c) = EventData.ConsumerConnected c
data_of (Event.ProviderDisconnected p) = EventData.ProviderDisconnected
data_of (Event.ProviderConnected p c) = EventData.ProviderConnected c
data_of (Event.Unconstrained u) = EventData.Unconstrained u
