-- A byte and a group of six, and the optional consumer: 0 and six zeros, or 1 and a contract.
use Rattle.std.specs.Prelude.{ℕ, ◌+◌, Bool, cond, ◌&&◌, List, [], ◌∷◌, eqb, get_or, None, Option, Some}
use Rattle.interface_display.specs.declared.AvailableConsumer.{AvailableConsumer}
use Rattle.power_policy_interface.specs.declared.capability.ConsumerPowerCapability.{ConsumerPowerCapability}
use Rattle.interface_records.specs.Group.{group_bytes, empty_group, consumer_group, consumer_from, all_zero}
use Rattle.interface_records.specs.declared.group.Group.{Group}
use Rattle.bytes_groups.specs.declared.tagged.Tagged.{Tagged}

-- the seven bytes from a position on
abbrev pub tagged_at : List ℕ → ℕ → Tagged
tagged_at s at =
    record {
      tag = get_or s (at + 0) 0;
      group = record {
        number = get_or s (at + 1) 0;
        v0 = get_or s (at + 2) 0;
        v1 = get_or s (at + 3) 0;
        c0 = get_or s (at + 4) 0;
        c1 = get_or s (at + 5) 0;
        flags = get_or s (at + 6) 0;
      };
    }

abbrev pub tagged_bytes : Tagged → List ℕ
tagged_bytes t = t.tag ∷ group_bytes t.group

-- six zeros
abbrev pub no_group : Group → Bool
no_group g = eqb g.number 0 && all_zero g

-- writing

abbrev pub consumer_tagged : Option AvailableConsumer → Tagged
consumer_tagged None = record { tag = 0; group = empty_group 0 }
consumer_tagged (Some c) = record { tag = 1; group = consumer_group c.psu c.consumer_power_capability }

abbrev pub consumer_bytes : Option AvailableConsumer → List ℕ
consumer_bytes c = tagged_bytes (consumer_tagged c)

-- reading

abbrev pub available_with : ℕ → Option ConsumerPowerCapability → Option AvailableConsumer
available_with port None = None
available_with port (Some c) = Some (record { psu = port; consumer_power_capability = c })

-- the consumer of a contract; none where the flag byte is refused
abbrev pub available_from : Group → Option AvailableConsumer
available_from g = available_with g.number (consumer_from g)

abbrev pub contract_of : ℕ → Option ConsumerPowerCapability → Option (Option AvailableConsumer)
contract_of port None = None
contract_of port (Some c) =
    Some (Some (record { psu = port; consumer_power_capability = c }))

abbrev pub consumer_cases : Group → List (Option (Option AvailableConsumer))
consumer_cases g =
    cond (no_group g) (Some None) None
    ∷ contract_of g.number (consumer_from g)
    ∷ []

-- a presence above 1 is refused
abbrev pub optional_from : Tagged → Option (Option AvailableConsumer)
optional_from t = get_or (consumer_cases t.group) t.tag None
