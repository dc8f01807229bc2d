-- Where an event stands, as ten bytes: a kind, three bytes that depend on it, and a contract (the table of docs/STATE.md).
use Rattle.std.specs.Prelude.{ℕ, suc, ◌+◌, ◌-◌, cond, List, [], ◌∷◌, eqb, ltb, get_or, Err, None, Ok, Option, Result, Some}
use Rattle.power_policy_interface.specs.Capability.{disconnect_byte, disconnect_from}
use Rattle.power_policy_interface.specs.Psu.{kind_from, answer_byte, answer_from, mismatch_of, expected_byte, actual_byte}
use Rattle.power_policy_interface.specs.declared.capability.DisconnectFlags.{DisconnectFlags}
use Rattle.power_policy_interface.specs.declared.capability.ProviderPowerCapability.{ProviderPowerCapability}
use Rattle.power_policy_interface.specs.declared.psu.Mismatch.{Mismatch}
use Rattle.power_policy_interface.specs.declared.psu.Error.{Error}
use Rattle.power_policy_interface.specs.declared.psu.StateKind.{StateKind}
use Rattle.interface_records.specs.Group.{group_bytes, empty_group, consumer_group, provider_group, provider_from}
use Rattle.interface_records.specs.declared.group.Group.{Group}
use Rattle.interface_display.specs.declared.AvailableConsumer.{AvailableConsumer}
use Rattle.bytes_groups.specs.Tagged.{no_group, available_from}
use Rattle.machine_state.specs.declared.phase.Leaver.{Leaver}
use Rattle.machine_state.specs.declared.phase.Phase.{Phase}
use Rattle.machine_state.specs.declared.phase.Stage.{Stage}
use Rattle.bytes_service_groups.specs.declared.phase.Standing.{Standing}

abbrev pub standing_at : List ℕ → ℕ → Standing
standing_at s at =
    record {
      kind = get_or s (at + 0) 0;
      a = get_or s (at + 1) 0;
      b = get_or s (at + 2) 0;
      c = get_or s (at + 3) 0;
      contract = record {
        number = get_or s (at + 4) 0;
        v0 = get_or s (at + 5) 0;
        v1 = get_or s (at + 6) 0;
        c0 = get_or s (at + 7) 0;
        c1 = get_or s (at + 8) 0;
        flags = get_or s (at + 9) 0;
      };
    }

abbrev pub standing_bytes : Standing → List ℕ
standing_bytes g = g.kind ∷ g.a ∷ g.b ∷ g.c ∷ group_bytes g.contract

-- writing

abbrev pub mismatch_in : Result (Unit {0}) Error → Option Mismatch
mismatch_in (Ok tt) = None
mismatch_in (Err e) = mismatch_of e

-- 0 the PSU, i + 1 charger i; no console has a charger 255
abbrev pub leaver_byte : Leaver → ℕ
leaver_byte Leaver.Psu = 0
leaver_byte (Leaver.Charger i) = cond (ltb i 255) (suc i) 255

abbrev pub stage_byte : Stage → ℕ
stage_byte Stage.Psu = 0
stage_byte Stage.Settling = 1
stage_byte (Stage.Readying i) = 2
stage_byte (Stage.Initializing i) = 3
stage_byte (Stage.Attaching i) = 4

abbrev pub stage_charger : Stage → ℕ
stage_charger Stage.Psu = 0
stage_charger Stage.Settling = 0
stage_charger (Stage.Readying i) = i
stage_charger (Stage.Initializing i) = i
stage_charger (Stage.Attaching i) = i

abbrev pub closed_standing : Result (Unit {0}) Error → Standing
closed_standing r =
    record {
      kind = 0;
      a = answer_byte r;
      b = expected_byte (mismatch_in r);
      c = actual_byte (mismatch_in r);
      contract = empty_group 0;
    }

abbrev pub contract_of : AvailableConsumer → Group
contract_of new = consumer_group new.psu new.consumer_power_capability

abbrev pub standing : Phase → Standing
standing (Phase.Closed r) = closed_standing r
standing (Phase.Leaving i p f) = record { kind = 1; a = i; b = p; c = disconnect_byte f; contract = empty_group 0 }
standing (Phase.Switching l old f new) =
    record { kind = 2; a = leaver_byte l; b = old; c = disconnect_byte f; contract = contract_of new }
standing (Phase.Connecting s new) = record { kind = 3; a = stage_byte s; b = stage_charger s; c = 0; contract = contract_of new }
standing (Phase.Providing p c) = record { kind = 4; a = 0; b = 0; c = 0; contract = provider_group p c }

-- reading

abbrev pub mismatch_with : ℕ → Option StateKind → Option (Result (Unit {0}) Error)
mismatch_with b None = None
mismatch_with b (Some k) =
    Some (Err (Error.InvalidState (Some (record { expected = b; actual = k }))))

-- no expected states: the device's own InvalidState, which carries nothing
abbrev pub invalid_from : ℕ → ℕ → Option (Result (Unit {0}) Error)
invalid_from b c =
    cond (eqb b 0)
    (cond (eqb c 0) (Some (Err (Error.InvalidState None))) None)
    (mismatch_with b (kind_from c))

-- expected and actual stand only with answer 4
abbrev pub result_from : ℕ → ℕ → ℕ → Option (Result (Unit {0}) Error)
result_from a b c = cond (eqb a 4) (invalid_from b c) (cond (eqb (b + c) 0) (answer_from a) None)

abbrev pub closed_with : Option (Result (Unit {0}) Error) → Option Phase
closed_with None = None
closed_with (Some r) = Some (Phase.Closed r)

abbrev pub closed_from : Standing → Option Phase
closed_from g = cond (no_group g.contract) (closed_with (result_from g.a g.b g.c)) None

abbrev pub leaving_with : ℕ → ℕ → Option DisconnectFlags → Option Phase
leaving_with i p None = None
leaving_with i p (Some f) = Some (Phase.Leaving i p f)

abbrev pub leaving_from : Standing → Option Phase
leaving_from g = cond (no_group g.contract) (leaving_with g.a g.b (disconnect_from g.c)) None

abbrev pub leaver_from : ℕ → Leaver
leaver_from a = cond (eqb a 0) Leaver.Psu (Leaver.Charger (a - 1))

abbrev pub switching_with : Leaver → ℕ → Option DisconnectFlags → Option AvailableConsumer → Option Phase
switching_with l old None n = None
switching_with l old (Some f) None = None
switching_with l old (Some f) (Some new) =
    Some (Phase.Switching l old f new)

abbrev pub switching_from : Standing → Option Phase
switching_from g = switching_with (leaver_from g.a) g.b (disconnect_from g.c) (available_from g.contract)

-- a stage with no charger has a 0
abbrev pub bare : ℕ → Stage → Option Stage
bare b s = cond (eqb b 0) (Some s) None

abbrev pub stages : ℕ → List (Option Stage)
stages b =
    bare b Stage.Psu
    ∷ bare b Stage.Settling
    ∷ Some (Stage.Readying b)
    ∷ Some (Stage.Initializing b)
    ∷ Some (Stage.Attaching b)
    ∷ []

-- a stage above 4 is refused
abbrev pub stage_from : ℕ → ℕ → Option Stage
stage_from a b = get_or (stages b) a None

abbrev pub connecting_with : Option Stage → Option AvailableConsumer → Option Phase
connecting_with None n = None
connecting_with (Some s) None = None
connecting_with (Some s) (Some new) = Some (Phase.Connecting s new)

abbrev pub connecting_from : Standing → Option Phase
connecting_from g =
    cond (eqb g.c 0) (connecting_with (stage_from g.a g.b) (available_from g.contract)) None

abbrev pub providing_with : ℕ → Option ProviderPowerCapability → Option Phase
providing_with p None = None
providing_with p (Some c) = Some (Phase.Providing p c)

abbrev pub providing_from : Standing → Option Phase
providing_from g =
    cond (eqb (g.a + g.b + g.c) 0) (providing_with g.contract.number (provider_from g.contract)) None

abbrev pub phases : Standing → List (Option Phase)
phases g = closed_from g ∷ leaving_from g ∷ switching_from g ∷ connecting_from g ∷ providing_from g ∷ []

-- a kind above 4 is refused
abbrev pub phase_from : Standing → Option Phase
phase_from g = get_or (phases g) g.kind None

-- bytes 37 to 46
abbrev pub phase_bytes : Phase → List ℕ
phase_bytes p = standing_bytes (standing p)
