-- SHP-10: the charger record of 7 bytes (state 0 Unpowered, 1 Init, 2 PsuAttached,
-- 3 PsuDetached; presence, capability), and the row of a console's chargers.
use Rattle.std.specs.Prelude.{ℕ, ◌<◌, cond, List, ◌∷◌, eqb, length, get_or, None, Option, Some}
use lib.Dec.{lit<}
use Rattle.power_policy_interface.specs.declared.capability.ConsumerPowerCapability.{ConsumerPowerCapability}
use Rattle.power_policy_interface.specs.Limits.{max_chargers, charger_length}
use Rattle.power_policy_interface.specs.Charger.{internal_number, internal_from, default_state}
use Rattle.power_policy_interface.specs.declared.charger.InternalState.{InternalState}
use Rattle.power_policy_interface.specs.declared.charger.State.{State}
use Rattle.interface_records.specs.Group.{group_at, group_bytes, option_consumer_group, option_consumer_from}
use Rattle.interface_records.specs.Row.{filled_row}

abbrev pub charger_bytes : State → List ℕ
charger_bytes s = internal_number s.state ∷ group_bytes (option_consumer_group s.capability)

abbrev pub charger_of : Option InternalState → Option (Option ConsumerPowerCapability) → Option State
charger_of None c = None
charger_of (Some s) None = None
charger_of (Some s) (Some c) = Some (record { state = s; capability = c })

abbrev pub charger_from : List ℕ → Option State
charger_from s =
    cond (eqb (length s) charger_length) (charger_of (internal_from (get_or s 0 0)) (option_consumer_from (group_at s 1))) None

-- the records of so many chargers, at most 8
abbrev pub charger_row : ℕ → List ℕ → Option (List State)
charger_row count s = filled_row charger_from charger_length max_chargers default_state count s

-- a record has bytes
pub charger_some : 0 < charger_length
charger_some = lit< tt
