-- The notices of an event as four groups, each zeros if there is none: provider (7 bytes), consumer disconnected (3), consumer connected (7),
-- unconstrained figures (3).
use Rattle.std.specs.Prelude.{ℕ, ◌+◌, cond, List, [], ◌∷◌, ◌++◌, eqb, leb, get_or, None, Option, Some}
use Rattle.power_policy_interface.specs.Capability.{bit, disconnect_byte, disconnect_from}
use Rattle.interface_display.specs.declared.AvailableConsumer.{AvailableConsumer}
use Rattle.power_policy_interface.specs.declared.capability.DisconnectFlags.{DisconnectFlags}
use Rattle.power_policy_interface.specs.declared.capability.ProviderPowerCapability.{ProviderPowerCapability}
use Rattle.power_policy_interface.specs.declared.service.UnconstrainedState.{UnconstrainedState}
use Rattle.interface_records.specs.Group.{empty_group, provider_group, provider_from, all_zero}
use Rattle.interface_records.specs.declared.group.Group.{Group}
use Rattle.bytes_groups.specs.Tagged.{tagged_at, tagged_bytes, no_group, consumer_tagged, optional_from}
use Rattle.bytes_groups.specs.declared.tagged.Tagged.{Tagged}
use Rattle.machine_state.specs.declared.memory.Disconnected.{Disconnected}
use Rattle.machine_state.specs.declared.memory.Notices.{Notices}
use Rattle.machine_state.specs.declared.memory.ProviderNotice.{ProviderNotice}
use Rattle.bytes_service_groups.specs.declared.notices.Triple.{Triple}

abbrev pub triple_at : List ℕ → ℕ → Triple
triple_at s at = record { tag = get_or s (at + 0) 0; a = get_or s (at + 1) 0; b = get_or s (at + 2) 0 }

abbrev pub triple_bytes : Triple → List ℕ
triple_bytes g = g.tag ∷ g.a ∷ g.b ∷ []

-- writing

abbrev pub provider_tagged : Option ProviderNotice → Tagged
provider_tagged None = record { tag = 0; group = empty_group 0 }
provider_tagged (Some (ProviderNotice.Disconnected p)) = record { tag = 1; group = empty_group p }
provider_tagged (Some (ProviderNotice.Connected p c)) = record { tag = 2; group = provider_group p c }

abbrev pub disconnected_triple : Option Disconnected → Triple
disconnected_triple None = record { tag = 0; a = 0; b = 0 }
disconnected_triple (Some d) = record { tag = 1; a = d.port; b = disconnect_byte d.flags }

abbrev pub unconstrained_triple : Option UnconstrainedState → Triple
unconstrained_triple None = record { tag = 0; a = 0; b = 0 }
unconstrained_triple (Some u) = record { tag = 1; a = bit u.unconstrained; b = u.available }

-- reading

abbrev pub connected_with : ℕ → Option ProviderPowerCapability → Option (Option ProviderNotice)
connected_with p None = None
connected_with p (Some c) = Some (Some (ProviderNotice.Connected p c))

abbrev pub provider_cases : Group → List (Option (Option ProviderNotice))
provider_cases g =
    cond (no_group g) (Some None) None
    ∷ cond (all_zero g) (Some (Some (ProviderNotice.Disconnected g.number))) None
    ∷ connected_with g.number (provider_from g)
    ∷ []

-- a kind above 2 is refused
abbrev pub provider_read : Tagged → Option (Option ProviderNotice)
provider_read t = get_or (provider_cases t.group) t.tag None

abbrev pub disconnected_with : ℕ → Option DisconnectFlags → Option (Option Disconnected)
disconnected_with p None = None
disconnected_with p (Some f) = Some (Some (record { port = p; flags = f }))

abbrev pub disconnected_cases : ℕ → ℕ → List (Option (Option Disconnected))
disconnected_cases a b =
    cond (eqb (a + b) 0) (Some None) None
    ∷ disconnected_with a (disconnect_from b)
    ∷ []

-- a presence above 1 is refused
abbrev pub disconnected_read : Triple → Option (Option Disconnected)
disconnected_read g = get_or (disconnected_cases g.a g.b) g.tag None

abbrev pub unconstrained_cases : ℕ → ℕ → List (Option (Option UnconstrainedState))
unconstrained_cases a b =
    cond (eqb (a + b) 0) (Some None) None
    ∷ cond (leb a 1)
    (Some (Some (record { unconstrained = eqb a 1; available = b })))
    None
    ∷ []

-- a presence above 1 is refused
abbrev pub unconstrained_read : Triple → Option (Option UnconstrainedState)
unconstrained_read g = get_or (unconstrained_cases g.a g.b) g.tag None

-- the first that is refused refuses all
abbrev pub notices_with : Option (Option ProviderNotice) → Option (Option Disconnected) → Option (Option AvailableConsumer) → Option (Option UnconstrainedState) → Option Notices
notices_with None d c u = None
notices_with (Some p) None c u = None
notices_with (Some p) (Some d) None u = None
notices_with (Some p) (Some d) (Some c) None = None
notices_with (Some p) (Some d) (Some c) (Some u) =
    Some (record { provider = p; disconnected = d; connected = c; unconstrained = u })

-- bytes 47 to 66

abbrev pub notices_bytes : Notices → List ℕ
notices_bytes n =
    tagged_bytes (provider_tagged n.provider)
    ++ (triple_bytes (disconnected_triple n.disconnected)
    ++ (tagged_bytes (consumer_tagged n.connected) ++ triple_bytes (unconstrained_triple n.unconstrained)))

abbrev pub notices_from : List ℕ → Option Notices
notices_from b =
    notices_with (provider_read (tagged_at b 47)) (disconnected_read (triple_at b 54)) (optional_from (tagged_at b 57))
    (unconstrained_read (triple_at b 64))
