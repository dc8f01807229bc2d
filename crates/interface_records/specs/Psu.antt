-- SHP-8: the PSU record of 18 bytes (state 0 Detached, 1 Idle, 2 ConnectedProvider, 3 ConnectedConsumer; contract; consumer
-- capability; provider request), and the row of a console's ports.
use Rattle.std.specs.Prelude.{ℕ, ◌<◌, cond, List, [], ◌∷◌, ◌++◌, eqb, length, get_or, None, Option, Some}
use lib.Dec.{lit<}
use Rattle.power_policy_interface.specs.declared.capability.ConsumerPowerCapability.{ConsumerPowerCapability}
use Rattle.power_policy_interface.specs.declared.capability.ProviderPowerCapability.{ProviderPowerCapability}
use Rattle.power_policy_interface.specs.Limits.{max_ports, psu_length}
use Rattle.power_policy_interface.specs.Psu.{default_state}
use Rattle.power_policy_interface.specs.declared.psu.PsuState.{PsuState}
use Rattle.power_policy_interface.specs.declared.psu.State.{State}
use Rattle.interface_records.specs.Group.{group_at, group_bytes, empty_group, consumer_group, provider_group, option_consumer_group, option_provider_group, all_zero, consumer_from, provider_from, option_consumer_from, option_provider_from}
use Rattle.interface_records.specs.Row.{filled_row}
use Rattle.interface_records.specs.declared.group.Group.{Group}

abbrev pub psu_state_group : PsuState → Group
psu_state_group PsuState.Idle = empty_group 1
psu_state_group (PsuState.ConnectedProvider c) = provider_group 2 c
psu_state_group (PsuState.ConnectedConsumer c) = consumer_group 3 c
psu_state_group PsuState.Detached = empty_group 0

abbrev pub psu_bytes : State → List ℕ
psu_bytes s =
    group_bytes (psu_state_group s.psu_state)
    ++ (group_bytes (option_consumer_group s.consumer_capability)
    ++ group_bytes (option_provider_group s.requested_provider_capability))

-- a state with no contract has zeros
abbrev pub bare : Group → PsuState → Option PsuState
bare g p = cond (all_zero g) (Some p) None

abbrev pub providing : Option ProviderPowerCapability → Option PsuState
providing None = None
providing (Some c) = Some (PsuState.ConnectedProvider c)

abbrev pub consuming : Option ConsumerPowerCapability → Option PsuState
consuming None = None
consuming (Some c) = Some (PsuState.ConnectedConsumer c)

abbrev pub state_cases : Group → List (Option PsuState)
state_cases g =
    bare g PsuState.Detached
    ∷ bare g PsuState.Idle
    ∷ providing (provider_from g)
    ∷ consuming (consumer_from g)
    ∷ []

-- REF-22: a state above 3 is refused
abbrev pub psu_state_from : Group → Option PsuState
psu_state_from g = get_or (state_cases g) g.number None

abbrev pub psu_of : Option PsuState → Option (Option ConsumerPowerCapability) → Option (Option ProviderPowerCapability) → Option State
psu_of None c p = None
psu_of (Some s) None p = None
psu_of (Some s) (Some c) None = None
psu_of (Some s) (Some c) (Some p) =
    Some (record { psu_state = s; consumer_capability = c; requested_provider_capability = p })

abbrev pub psu_from : List ℕ → Option State
psu_from s =
    cond (eqb (length s) psu_length)
    (psu_of (psu_state_from (group_at s 0)) (option_consumer_from (group_at s 6)) (option_provider_from (group_at s 12)))
    None

-- the records of so many ports, at most 16
abbrev pub psu_row : ℕ → List ℕ → Option (List State)
psu_row ports s = filled_row psu_from psu_length max_ports default_state ports s

-- a record has bytes
pub psu_some : 0 < psu_length
psu_some = lit< tt
