-- Totals as sums over the row (EVT-9), the power state, and what a request is granted (provider.rs; PRV).
use Rattle.std.specs.Prelude.{ℕ, zero, suc, ◌+◌, cond, List, [], ◌∷◌, ltb, eqb, get_or, None, Option, Some}
use Rattle.power_policy_interface.specs.Capability.{max_power_mw}
use Rattle.power_policy_interface.specs.Psu.{connected_provider_of}
use Rattle.power_policy_interface.specs.declared.capability.PowerCapability.{PowerCapability}
use Rattle.power_policy_interface.specs.declared.capability.ProviderPowerCapability.{ProviderPowerCapability}
use Rattle.power_policy_interface.specs.declared.psu.State.{State}
use Rattle.power_policy_service.specs.Rows.{psu_at}
use Rattle.power_policy_service.specs.declared.config.Config.{Config}
use Rattle.power_policy_service.specs.declared.provider.PowerState.{PowerState}
use Rattle.power_policy_service.specs.declared.totals.Request.{Request}

abbrev pub provided_mw : Option ProviderPowerCapability → ℕ
provided_mw None = 0
provided_mw (Some c) = max_power_mw c.capability

-- a port's connected provider contract in mW
abbrev pub connected_mw : State → ℕ
connected_mw s = provided_mw (connected_provider_of s)

-- PRV-2: the requester counts with its request
abbrev pub requested_mw : ℕ → ProviderPowerCapability → ℕ → State → ℕ
requested_mw requester request p s = cond (eqb p requester) (max_power_mw request.capability) (connected_mw s)

-- the same where a port may request or none does
abbrev pub counted_mw : Option Request → ℕ → State → ℕ
counted_mw None p s = connected_mw s
counted_mw (Some r) p s = requested_mw r.port r.asked p s

-- a sum over the first n ports
abbrev pub sum_to : (ℕ → ℕ) → ℕ → ℕ
sum_to f zero = 0
sum_to f (suc n) = sum_to f n + f n

abbrev pub total_of : List State → ℕ → ℕ
total_of psus n = sum_to (λ p. connected_mw (psu_at psus p)) n

abbrev pub total_with : ℕ → ProviderPowerCapability → List State → ℕ → ℕ
total_with requester request psus n = sum_to (λ p. requested_mw requester request p (psu_at psus p)) n

-- the byte of a power state in an image: 0 Unlimited, 1 Limited
abbrev pub power_byte : PowerState → ℕ
power_byte PowerState.Unlimited = 0
power_byte PowerState.Limited = 1

abbrev pub powers : List (Option PowerState)
powers = Some PowerState.Unlimited ∷ Some PowerState.Limited ∷ []

-- a power state above 1 is refused
abbrev pub power_state_from : ℕ → Option PowerState
power_state_from b = get_or powers b None

-- EVT-9: above the threshold is Limited, equal or below is Unlimited
abbrev pub power_state_of : Config → ℕ → PowerState
power_state_of c total = cond (ltb c.limited_power_threshold_mw total) PowerState.Limited PowerState.Unlimited

abbrev pub granted : PowerCapability → ProviderPowerCapability → ProviderPowerCapability
granted p request = record { capability = p; flags = request.flags }

-- PRV-4, MIS-3: Limited, the limited capability, also above the request. PRV-5: Unlimited, the request if it has fewer mW than the unlimited
-- capability, else that. PRV-6: with the request's flags
abbrev pub grant_of : Config → PowerState → ProviderPowerCapability → ProviderPowerCapability
grant_of c PowerState.Limited request = granted c.provider_limited request
grant_of c PowerState.Unlimited request =
    cond (ltb (max_power_mw request.capability) (max_power_mw c.provider_unlimited)) request
    (granted c.provider_unlimited request)
