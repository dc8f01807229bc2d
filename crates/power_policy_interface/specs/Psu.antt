-- LEA-2: what the functions of psu.rt compute, line by line as psu/mod.rs
-- has it. A set of state kinds is a number with a bit per kind.
use Rattle.std.specs.Prelude.{ℕ, ◌/◌, ◌%◌, ◌^◌, Bool, cond, List, [], ◌∷◌, ◌==◌, bit_or, slice_index_or, Err, None, Ok, Option, Result, Some}
use Rattle.power_policy_interface.specs.Capability.{same_option_provider}
use Rattle.power_policy_interface.specs.declared.capability.ConsumerPowerCapability.{ConsumerPowerCapability}
use Rattle.power_policy_interface.specs.declared.capability.ProviderPowerCapability.{ProviderPowerCapability}
use Rattle.power_policy_interface.specs.declared.psu.Mismatch.{Mismatch}
use Rattle.power_policy_interface.specs.declared.psu.StateKind.{StateKind}
use Rattle.power_policy_interface.specs.declared.psu.PsuState.{PsuState}
use Rattle.power_policy_interface.specs.declared.psu.State.{State}
use Rattle.power_policy_interface.specs.declared.psu.Error.{Error}

-- what a transition returns, and the record after it
pub record Transition : Type 0 where
  pub result : Result (Unit {0}) Error
  pub state : State

abbrev pub kind_number : StateKind → ℕ
kind_number StateKind.Detached = 0
kind_number StateKind.Idle = 1
kind_number StateKind.ConnectedProvider = 2
kind_number StateKind.ConnectedConsumer = 3

abbrev pub kinds : List (Option StateKind)
kinds =
    Some StateKind.Detached
    ∷ Some StateKind.Idle
    ∷ Some StateKind.ConnectedProvider
    ∷ Some StateKind.ConnectedConsumer
    ∷ []

-- a state above 3 is refused
abbrev pub kind_from : ℕ → Option StateKind
kind_from b = slice_index_or kinds b None

abbrev pub kind_of : PsuState → StateKind
kind_of PsuState.Idle = StateKind.Idle
kind_of (PsuState.ConnectedProvider c) = StateKind.ConnectedProvider
kind_of (PsuState.ConnectedConsumer c) = StateKind.ConnectedConsumer
kind_of PsuState.Detached = StateKind.Detached

-- SHP-4, FRM-2: bit k of a set is its kind numbered k
abbrev pub with_kind : ℕ → StateKind → ℕ
with_kind set k = bit_or set (2 ^ kind_number k)

abbrev pub has_kind : ℕ → StateKind → Bool
has_kind set k = (set / 2 ^ kind_number k % 2) == 1

abbrev pub detached_kind : ℕ
detached_kind = with_kind 0 StateKind.Detached

abbrev pub idle_or_consumer : ℕ
idle_or_consumer = with_kind (with_kind 0 StateKind.Idle) StateKind.ConnectedConsumer

abbrev pub idle_or_provider : ℕ
idle_or_provider = with_kind (with_kind 0 StateKind.Idle) StateKind.ConnectedProvider

abbrev pub attached_kinds : ℕ
attached_kinds = with_kind (with_kind (with_kind 0 StateKind.Idle) StateKind.ConnectedConsumer) StateKind.ConnectedProvider

abbrev pub invalid_state : ℕ → StateKind → Error
invalid_state expected actual = Error.InvalidState (Some (record { expected = expected; actual = actual }))

abbrev pub expect_of : ℕ → StateKind → Result (Unit {0}) Error
expect_of expected actual = cond (has_kind expected actual) (Ok tt) (Err (invalid_state expected actual))

-- PKT-3: 1 InvalidDevice, then as written, to 10 Failed
abbrev pub error_byte : Error → ℕ
error_byte Error.InvalidDevice = 1
error_byte Error.CannotProvide = 2
error_byte Error.CannotConsume = 3
error_byte (Error.InvalidState m) = 4
error_byte Error.InvalidResponse = 5
error_byte Error.Busy = 6
error_byte Error.Timeout = 7
error_byte Error.Bus = 8
error_byte Error.Charger = 9
error_byte Error.Failed = 10

-- PKT-5: what an InvalidState carries
abbrev pub mismatch_of : Error → Option Mismatch
mismatch_of Error.InvalidDevice = None
mismatch_of Error.CannotProvide = None
mismatch_of Error.CannotConsume = None
mismatch_of (Error.InvalidState m) = m
mismatch_of Error.InvalidResponse = None
mismatch_of Error.Busy = None
mismatch_of Error.Timeout = None
mismatch_of Error.Bus = None
mismatch_of Error.Charger = None
mismatch_of Error.Failed = None

-- its two bytes; 0 where there is none

abbrev pub expected_byte : Option Mismatch → ℕ
expected_byte None = 0
expected_byte (Some m) = m.expected

abbrev pub actual_byte : Option Mismatch → ℕ
actual_byte None = 0
actual_byte (Some m) = kind_number m.actual

-- PKT-3: 0 done
abbrev pub answer_byte : Result (Unit {0}) Error → ℕ
answer_byte (Ok tt) = 0
answer_byte (Err e) = error_byte e

abbrev pub errors : List (Option Error)
errors =
    None
    ∷ Some Error.InvalidDevice
    ∷ Some Error.CannotProvide
    ∷ Some Error.CannotConsume
    ∷ Some (Error.InvalidState None)
    ∷ Some Error.InvalidResponse
    ∷ Some Error.Busy
    ∷ Some Error.Timeout
    ∷ Some Error.Bus
    ∷ Some Error.Charger
    ∷ Some Error.Failed
    ∷ []

-- 0 and above 10 are no error's
abbrev pub error_from : ℕ → Option Error
error_from b = slice_index_or errors b None

abbrev pub failed : Error → Option (Result (Unit {0}) Error)
failed e = Some (Err e)

abbrev pub answers : List (Option (Result (Unit {0}) Error))
answers =
    Some (Ok tt)
    ∷ failed Error.InvalidDevice
    ∷ failed Error.CannotProvide
    ∷ failed Error.CannotConsume
    ∷ failed (Error.InvalidState None)
    ∷ failed Error.InvalidResponse
    ∷ failed Error.Busy
    ∷ failed Error.Timeout
    ∷ failed Error.Bus
    ∷ failed Error.Charger
    ∷ failed Error.Failed
    ∷ []

-- PKT-4: above 10 is refused; what a device's error carries is dropped
abbrev pub answer_from : ℕ → Option (Result (Unit {0}) Error)
answer_from b = slice_index_or answers b None

-- an answer as its byte carries it: without what an InvalidState carries
abbrev pub dropped : Result (Unit {0}) Error → Result (Unit {0}) Error
dropped (Ok tt) = Ok tt
dropped (Err Error.InvalidDevice) = Err Error.InvalidDevice
dropped (Err Error.CannotProvide) = Err Error.CannotProvide
dropped (Err Error.CannotConsume) = Err Error.CannotConsume
dropped (Err (Error.InvalidState m)) = Err (Error.InvalidState None)
dropped (Err Error.InvalidResponse) = Err Error.InvalidResponse
dropped (Err Error.Busy) = Err Error.Busy
dropped (Err Error.Timeout) = Err Error.Timeout
dropped (Err Error.Bus) = Err Error.Bus
dropped (Err Error.Charger) = Err Error.Charger
dropped (Err Error.Failed) = Err Error.Failed

abbrev pub default_state : State
default_state =
    record {
      psu_state = PsuState.Detached;
      consumer_capability = None;
      requested_provider_capability = None;
    }

abbrev pub enter : PsuState → State → State
enter p s =
    record {
      psu_state = p;
      consumer_capability = s.consumer_capability;
      requested_provider_capability = s.requested_provider_capability;
    }

abbrev pub clear_caps : State → State
clear_caps s =
    record {
      psu_state = s.psu_state;
      consumer_capability = None;
      requested_provider_capability = None;
    }

-- LEA-4: attach, and disconnect below, enter Idle whatever the result
abbrev pub attach_of : State → Transition
attach_of s = record { result = expect_of detached_kind (kind_of s.psu_state); state = enter PsuState.Idle s }

abbrev pub detach_of : State → State
detach_of s = default_state

abbrev pub disconnect_of : State → Bool → Transition
disconnect_of s clear =
    record {
      result = expect_of attached_kinds (kind_of s.psu_state);
      state = cond clear (clear_caps (enter PsuState.Idle s)) (enter PsuState.Idle s);
    }

abbrev pub update_consumer_of : State → Option ConsumerPowerCapability → Transition
update_consumer_of s c =
    record {
      result = expect_of attached_kinds (kind_of s.psu_state);
      state = record {
        psu_state = s.psu_state;
        consumer_capability = c;
        requested_provider_capability = s.requested_provider_capability;
      };
    }

-- EDG-9: an equal request is already known: no error in any state
abbrev pub update_requested_of : State → Option ProviderPowerCapability → Transition
update_requested_of s p =
    cond (same_option_provider s.requested_provider_capability p) (record { result = (Ok tt); state = s })
    (record {
      result = expect_of attached_kinds (kind_of s.psu_state);
      state = record {
        psu_state = s.psu_state;
        consumer_capability = s.consumer_capability;
        requested_provider_capability = p;
      };
    })

abbrev pub can_connect_consumer_of : State → Result (Unit {0}) Error
can_connect_consumer_of s = expect_of idle_or_consumer (kind_of s.psu_state)

abbrev pub can_connect_provider_of : State → Result (Unit {0}) Error
can_connect_provider_of s = expect_of idle_or_provider (kind_of s.psu_state)

-- `?` after a check: the error leaves the state as it was
abbrev pub entered : Result (Unit {0}) Error → PsuState → State → Transition
entered (Ok tt) p s = record { result = (Ok tt); state = enter p s }
entered (Err e) p s = record { result = Err e; state = s }

abbrev pub connect_consumer_of : State → ConsumerPowerCapability → Transition
connect_consumer_of s c = entered (can_connect_consumer_of s) (PsuState.ConnectedConsumer c) s

abbrev pub connect_provider_of : State → ProviderPowerCapability → Transition
connect_provider_of s c = entered (can_connect_provider_of s) (PsuState.ConnectedProvider c) s

abbrev pub provider_in : PsuState → Option ProviderPowerCapability
provider_in PsuState.Idle = None
provider_in (PsuState.ConnectedProvider c) = Some c
provider_in (PsuState.ConnectedConsumer c) = None
provider_in PsuState.Detached = None

abbrev pub connected_provider_of : State → Option ProviderPowerCapability
connected_provider_of s = provider_in s.psu_state
