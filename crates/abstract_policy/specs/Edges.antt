-- What an event does at the edges (EDG) and where a mistake would look like a repair (MIS), computed. Records come as a call brings them.
use Rattle.std.specs.Prelude.{ℕ, ◌-◌, Bool, true, false, List, [], ◌∷◌, ◌++◌, ◌≡◌, length, replicate, Err, None, Ok, Option, Some}
use Rattle.power_policy_interface.specs.Limits.{max_ports, max_chargers}
use Rattle.power_policy_interface.specs.Charger.{default_state as chargerDefault}
use Rattle.power_policy_interface.specs.Psu.{default_state as psuDefault}
use Rattle.power_policy_interface.specs.declared.capability.ConsumerPowerCapability.{ConsumerPowerCapability}
use Rattle.power_policy_interface.specs.declared.capability.DisconnectFlags.{DisconnectFlags}
use Rattle.power_policy_interface.specs.declared.capability.DisconnectReason.{DisconnectReason}
use Rattle.power_policy_interface.specs.declared.capability.ProviderPowerCapability.{ProviderPowerCapability}
use Rattle.power_policy_interface.specs.declared.charger.InternalState as charger
use Rattle.power_policy_interface.specs.declared.charger.PoweredSubstate.{PoweredSubstate}
use Rattle.power_policy_interface.specs.declared.psu.Error.{Error}
use Rattle.power_policy_interface.specs.declared.psu.PsuState.{PsuState}
use Rattle.power_policy_interface.specs.declared.psu.State.{State}
use Rattle.power_policy_interface.specs.declared.psu.event.EventData.{EventData}
use Rattle.power_policy_interface.specs.declared.service.event.Event.{Event}
use Rattle.power_policy_service.specs.Config.{rust_default}
use Rattle.power_policy_service.specs.Consumer.{available}
use Rattle.power_policy_service.specs.declared.provider.PowerState.{PowerState}
use Rattle.abstract_policy.specs.Action.{Interaction, done}
use Rattle.abstract_policy.specs.Fed.{fed_by, orders_by}
use Rattle.abstract_policy.specs.Interaction.{detached_reason, event}
use Rattle.abstract_policy.specs.Returns.{brings}
use Rattle.abstract_policy.specs.State.{fresh_state, state_with}
use Rattle.abstract_policy.specs.declared.order.Order.{Order}
use Rattle.abstract_policy.specs.declared.outcome.Step.{Step}
use Rattle.abstract_policy.specs.declared.state.InternalState.{InternalState}
use Rattle.abstract_policy.specs.declared.state.Records.{Records}
use Rattle.abstract_policy.specs.declared.state.Registration.{Registration}

abbrev pub psu : PsuState → Option ConsumerPowerCapability → Option ProviderPowerCapability → State
psu p c r = record { psu_state = p; consumer_capability = c; requested_provider_capability = r }

-- offers, requests and contracts without flags

abbrev pub offer : ℕ → ℕ → ConsumerPowerCapability
offer v a =
    record {
      capability = record { voltage_mv = v; current_ma = a };
      flags = record { unconstrained_power = false; psu_type = None };
    }

-- an offer that is unconstrained
abbrev pub unlimited : ℕ → ℕ → ConsumerPowerCapability
unlimited v a =
    record {
      capability = record { voltage_mv = v; current_ma = a };
      flags = record { unconstrained_power = true; psu_type = None };
    }

abbrev pub contract : ℕ → ℕ → ProviderPowerCapability
contract v a =
    record { capability = record { voltage_mv = v; current_ma = a }; flags = record { psu_type = None } }

abbrev pub nothing : State
nothing = psu PsuState.Idle None None

abbrev pub offering : ConsumerPowerCapability → State
offering c = psu PsuState.Idle (Some c) None

abbrev pub requesting : ProviderPowerCapability → State
requesting c = psu PsuState.Idle None (Some c)

abbrev pub providing : ProviderPowerCapability → State
providing c = psu (PsuState.ConnectedProvider c) None None

-- the Rust's default configuration, so many ports and no charger
abbrev pub ports : ℕ → Registration
ports n = record { config = rust_default; ports = n; chargers = 0 }

-- as a call brings them: 16 places for ports and 8 for chargers, those past the registered ones filled as the reader fills them
abbrev pub rows : List State → Records
rows l = record { psus = l ++ replicate (max_ports - length l) psuDefault; chargers = replicate max_chargers chargerDefault }

-- no consumer, nothing unconstrained, and the ports of these bits tracked
abbrev pub tracking : ℕ → PowerState → InternalState
tracking mask s =
    state_with None s (record { unconstrained = false; available = 0 }) (record { mask = mask })

-- port 0 is the consumer with this capability, and the figures are these
abbrev pub consuming : ConsumerPowerCapability → Bool → ℕ → InternalState
consuming c u n =
    state_with (available 0 c) PowerState.Unlimited (record { unconstrained = u; available = n }) (record { mask = 0 })

-- the event of this port, opened with these records
abbrev pub opened : ℕ → ℕ → EventData → InternalState → List State → Interaction
opened n p e s l = event (ports n) p e s (rows l)

-- port 0 alone, with nothing in its record, and one powered charger
abbrev pub leaving : Records
leaving = record {
  psus = nothing ∷ replicate 15 psuDefault;
  chargers = record { state = charger.InternalState.Powered PoweredSubstate.Init; capability = None } ∷ replicate 7 chargerDefault;
}

-- its Detached, while it is the consumer and unconstrained
abbrev pub left : Interaction
left =
    event (record { config = rust_default; ports = 1; chargers = 1 }) 0 EventData.Detached (consuming (unlimited 5000 3000) true 1) leaving

pub record EventEdges : Type 0 where
  -- EDG-6 (P6): a lone request 15,000 mV, 1,000 mA is granted 5,000 mV, 3,000 mA
  pub P6 : brings 0 (opened 1 0 EventData.RequestedProviderCapability fresh_state (requesting (contract 15000 1000) ∷ []))
      ≡ Ok (Step.Order (Order.ConnectProvider 0 (contract 5000 3000)))
  -- EDG-7 (P7), MIS-3: request 5,000 mV, 500 mA beside a contract of 15,000 mW: granted 5,000 mV, 1,500 mA
  pub P7 : brings 0 (opened 2 0 EventData.RequestedProviderCapability fresh_state (requesting (contract 5000 500) ∷ providing (contract 5000 3000) ∷ []))
      ≡ Ok (Step.Order (Order.ConnectProvider 0 (contract 5000 1500)))
  -- EDG-10 (P10): fifth provider (0 to 3 are tracked): notice, not tracked, no notice on removal
  pub P10-connected :
      fed_by (opened 5 4 EventData.RequestedProviderCapability (tracking 15 PowerState.Unlimited) (nothing ∷ nothing ∷ nothing ∷ nothing ∷ requesting (contract 5000 500) ∷ []))
      ((0, rows []) ∷ [])
      ≡ done (Ok tt) (record { state = tracking 15 PowerState.Unlimited; notices = Event.ProviderConnected 4 (contract 5000 500) ∷ [] })
  pub P10-removed : (e : PowerState)
      → opened 5 4 EventData.Detached (tracking 15 e) (nothing ∷ nothing ∷ nothing ∷ nothing ∷ nothing ∷ [])
      ≡ done (Ok tt) (record { state = tracking 15 e; notices = [] })
  pub P10-disconnected : (e : PowerState) (f : DisconnectFlags)
      → opened 5 4 (EventData.Disconnected f) (tracking 15 e) (nothing ∷ nothing ∷ nothing ∷ nothing ∷ nothing ∷ [])
      ≡ done (Ok tt) (record { state = tracking 15 e; notices = [] })
  -- MIS-2: an unchanged consumer that went Idle is not connected again: no order, no notice
  pub unchanged_idle :
      opened 1 0 EventData.UpdatedConsumerCapability (consuming (offer 5000 3000) false 0) (offering (offer 5000 3000) ∷ [])
      ≡ done (Ok tt) (record { state = consuming (offer 5000 3000) false 0; notices = [] })
  -- MIS-4: after an error the unconstrained figures stay as they were, and there is no notice
  -- of them: port 0 cannot be connected anew (answer 7), and offers unconstrained power no more
  pub error_leaves_figures :
      fed_by (opened 1 0 EventData.UpdatedConsumerCapability (consuming (unlimited 5000 3000) true 1) (offering (offer 5000 1500) ∷ []))
      ((7, rows []) ∷ [])
      ≡ done (Err Error.Timeout)
      (record {
        state = state_with None PowerState.Unlimited (record { unconstrained = true; available = 1 }) (record { mask = 0 });
        notices =
            Event.ConsumerDisconnected 0 (record { reason = Some DisconnectReason.AutoRenegotiation }) ∷ [];
      })
  -- UPD-4, UPD-5: a consumer that nothing replaces: its chargers are detached, its PSU gets no order, and each change is told once
  pub left_orders : orders_by left ((0, leaving) ∷ []) ≡ Order.Detach 0 ∷ []
  pub left_alone :
      fed_by left ((0, leaving) ∷ [])
      ≡ done (Ok tt)
      (record {
        state = fresh_state;
        notices = Event.ConsumerDisconnected 0 detached_reason ∷ Event.Unconstrained (record { unconstrained = false; available = 0 }) ∷ [];
      })
