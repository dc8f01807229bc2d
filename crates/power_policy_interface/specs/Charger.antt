-- LEA-3: what the functions of charger.rt and charger/event.rt compute, line by line as charger/mod.rs has it.
use Rattle.std.specs.Prelude.{ℕ, Bool, true, false, List, [], ◌∷◌, slice_index_or, Err, None, Ok, Option, Result, Some}
use Rattle.power_policy_interface.specs.declared.capability.ConsumerPowerCapability.{ConsumerPowerCapability}
use Rattle.power_policy_interface.specs.declared.charger.event.PsuState.{PsuState}
use Rattle.power_policy_interface.specs.declared.charger.ChargerError.{ChargerError}
use Rattle.power_policy_interface.specs.declared.charger.PoweredSubstate.{PoweredSubstate}
use Rattle.power_policy_interface.specs.declared.charger.InternalState.{InternalState}
use Rattle.power_policy_interface.specs.declared.charger.State.{State}

-- what a transition returns, and the record after it
pub record Transition : Type 0 where
  pub result : Result (Unit {0}) ChargerError
  pub state : State

abbrev pub psu_state_of : Bool → PsuState
psu_state_of true = PsuState.Attached
psu_state_of false = PsuState.Detached

-- 0 Attached, 1 Detached; above 1 is refused (REF-24)
abbrev pub psu_state_from : ℕ → Option PsuState
psu_state_from b =
    slice_index_or (Some PsuState.Attached ∷ Some PsuState.Detached ∷ []) b None

-- SHP-10: 0 Unpowered, 1 Init, 2 PsuAttached, 3 PsuDetached
abbrev pub internal_number : InternalState → ℕ
internal_number InternalState.Unpowered = 0
internal_number (InternalState.Powered PoweredSubstate.Init) = 1
internal_number (InternalState.Powered PoweredSubstate.PsuAttached) = 2
internal_number (InternalState.Powered PoweredSubstate.PsuDetached) = 3

abbrev pub internals : List (Option InternalState)
internals =
    Some InternalState.Unpowered
    ∷ Some (InternalState.Powered PoweredSubstate.Init)
    ∷ Some (InternalState.Powered PoweredSubstate.PsuAttached)
    ∷ Some (InternalState.Powered PoweredSubstate.PsuDetached)
    ∷ []

-- a state above 3 is refused
abbrev pub internal_from : ℕ → Option InternalState
internal_from b = slice_index_or internals b None

abbrev pub is_unpowered : InternalState → Bool
is_unpowered InternalState.Unpowered = true
is_unpowered (InternalState.Powered s) = false

abbrev pub default_state : State
default_state = record { state = InternalState.Unpowered; capability = None }

abbrev pub substate_of : PsuState → PoweredSubstate
substate_of PsuState.Attached = PoweredSubstate.PsuAttached
substate_of PsuState.Detached = PoweredSubstate.PsuDetached

abbrev pub powered_of : State → PsuState → Transition
powered_of s p =
    record { result = (Ok tt); state = record { state = InternalState.Powered (substate_of p); capability = s.capability } }

abbrev pub invalid : State → Transition
invalid s = record { result = Err (ChargerError.InvalidState s.state); state = s }

abbrev pub initialized_in : InternalState → State → PsuState → Transition
initialized_in InternalState.Unpowered s p = invalid s
initialized_in (InternalState.Powered PoweredSubstate.Init) s p = powered_of s p
initialized_in (InternalState.Powered PoweredSubstate.PsuAttached) s p = invalid s
initialized_in (InternalState.Powered PoweredSubstate.PsuDetached) s p = invalid s

abbrev pub initialized_of : State → PsuState → Transition
initialized_of s p = initialized_in s.state s p

abbrev pub changed_in : InternalState → State → PsuState → Transition
changed_in InternalState.Unpowered s p = invalid s
changed_in (InternalState.Powered PoweredSubstate.Init) s p = invalid s
changed_in (InternalState.Powered PoweredSubstate.PsuAttached) s p = powered_of s p
changed_in (InternalState.Powered PoweredSubstate.PsuDetached) s p = powered_of s p

abbrev pub psu_state_change_of : State → PsuState → Transition
psu_state_change_of s p = changed_in s.state s p

abbrev pub timeout_of : State → State
timeout_of s = default_state

abbrev pub ready_in : InternalState → State → State
ready_in InternalState.Unpowered s =
    record { state = InternalState.Powered PoweredSubstate.Init; capability = None }
ready_in (InternalState.Powered p) s = s

abbrev pub ready_success_of : State → State
ready_success_of s = ready_in s.state s

abbrev pub ready_failure_of : State → State
ready_failure_of s = record { state = InternalState.Unpowered; capability = s.capability }

abbrev pub policy_attach_of : State → ConsumerPowerCapability → State
policy_attach_of s c = record { state = s.state; capability = Some c }

abbrev pub policy_detach_of : State → State
policy_detach_of s = record { state = s.state; capability = None }
