-- What is held between events, as the display's 11 bytes and the power state's, 0 Unlimited or 1 Limited.
use Rattle.std.specs.Prelude.{ℕ, List, [], ◌∷◌, ◌++◌, None, Option, Some}
use Rattle.power_policy_service.specs.Provider.{power_byte, power_state_from}
use Rattle.power_policy_service.specs.declared.provider.PowerState.{PowerState}
use Rattle.abstract_policy.specs.State.{display_of}
use Rattle.abstract_policy.specs.declared.state.InternalState.{InternalState}
use Rattle.bytes_groups.specs.Shown.{shown_bytes, display_shown, display_from}
use Rattle.interface_display.specs.declared.Display.{Display}
use Rattle.bytes_groups.specs.declared.shown.Shown.{Shown}

abbrev pub state_with : Option Display → Option PowerState → Option InternalState
state_with None p = None
state_with (Some d) None = None
state_with (Some d) (Some p) =
    Some (record {
      current_consumer_state = d.consumer;
      current_provider_state = p;
      unconstrained = d.unconstrained;
      connected_providers = d.providers;
    })

abbrev pub state_from : Shown → ℕ → Option InternalState
state_from g b = state_with (display_from g) (power_state_from b)

-- bytes 24 to 36: what is held, and the orders given
abbrev pub held_bytes : InternalState → ℕ → List ℕ
held_bytes s orders = shown_bytes (display_shown (display_of s)) ++ (power_byte s.current_provider_state ∷ orders ∷ [])
