-- The services that calls lead to (promise_invariant), and that an image
-- is to be read as (docs/STATE.md). A test, so that it can be decided.
use Rattle.std.specs.Prelude.{ℕ, ◌+◌, ◌*◌, Bool, true, false, not, ◌&&◌, ◌||◌, leb, ltb, Err, None, Ok, Option, Result, Some}
use Rattle.power_policy_interface.specs.Limits.{largest, max_ports, max_chargers}
use Rattle.power_policy_interface.specs.declared.psu.Error.{Error}
use Rattle.interface_display.specs.declared.AvailableConsumer.{AvailableConsumer}
use Rattle.power_policy_interface.specs.declared.psu.Mismatch.{Mismatch}
use Rattle.power_policy_interface.specs.declared.service.UnconstrainedState.{UnconstrainedState}
use Rattle.abstract_policy.specs.State.{display_of}
use Rattle.abstract_policy.specs.declared.state.InternalState.{InternalState}
use Rattle.abstract_policy.specs.declared.state.Registration.{Registration}
pub use Rattle.bytes_groups.specs.Shown.{consumer_fits, providers_fit, display_fits}
use Rattle.machine_state.specs.declared.memory.Disconnected.{Disconnected}
use Rattle.machine_state.specs.declared.memory.Notices.{Notices}
use Rattle.machine_state.specs.declared.memory.ProviderNotice.{ProviderNotice}
use Rattle.machine_state.specs.declared.phase.Leaver.{Leaver}
use Rattle.machine_state.specs.declared.phase.Phase.{Phase}
use Rattle.machine_state.specs.declared.phase.Stage.{Stage}
use Rattle.machine_service.specs.Refusals.{is_open}
use Rattle.machine_service.specs.declared.Service.{Service}

-- at most 16 ports and 8 chargers
abbrev pub registration_fits : Registration → Bool
registration_fits g = leb g.ports max_ports && leb g.chargers max_chargers

-- what is held: every port is registered, and at most four are tracked
abbrev pub state_fits : ℕ → InternalState → Bool
state_fits ports s = display_fits ports (display_of s)

-- the phase: every port and charger is registered; expected states are 1 to 15

abbrev pub mismatch_fits : Option Mismatch → Bool
mismatch_fits None = true
mismatch_fits (Some m) = ltb 0 m.expected && leb m.expected 15

abbrev pub error_fits : Error → Bool
error_fits Error.InvalidDevice = true
error_fits Error.CannotProvide = true
error_fits Error.CannotConsume = true
error_fits (Error.InvalidState m) = mismatch_fits m
error_fits Error.InvalidResponse = true
error_fits Error.Busy = true
error_fits Error.Timeout = true
error_fits Error.Bus = true
error_fits Error.Charger = true
error_fits Error.Failed = true

abbrev pub result_fits : Result (Unit {0}) Error → Bool
result_fits (Ok tt) = true
result_fits (Err e) = error_fits e

abbrev pub leaver_fits : ℕ → Leaver → Bool
leaver_fits chargers Leaver.Psu = true
leaver_fits chargers (Leaver.Charger i) = ltb i chargers

abbrev pub stage_fits : ℕ → Stage → Bool
stage_fits chargers Stage.Psu = true
stage_fits chargers Stage.Settling = true
stage_fits chargers (Stage.Readying i) = ltb i chargers
stage_fits chargers (Stage.Initializing i) = ltb i chargers
stage_fits chargers (Stage.Attaching i) = ltb i chargers

abbrev pub phase_fits : ℕ → ℕ → Phase → Bool
phase_fits ports chargers (Phase.Closed a) = result_fits a
phase_fits ports chargers (Phase.Leaving i p f) = ltb i chargers && ltb p ports
phase_fits ports chargers (Phase.Switching l old f new) = leaver_fits chargers l && (ltb old ports && ltb new.psu ports)
phase_fits ports chargers (Phase.Connecting s new) = stage_fits chargers s && ltb new.psu ports
phase_fits ports chargers (Phase.Providing p c) = ltb p ports

-- how many orders an event has given at least and at most when it stands there; c chargers are registered

abbrev pub stage_least : Stage → ℕ
stage_least Stage.Psu = 1
stage_least Stage.Settling = 2
stage_least (Stage.Readying i) = 3 + i
stage_least (Stage.Initializing i) = 4 + i
stage_least (Stage.Attaching i) = 3 + i

abbrev pub orders_least : Phase → ℕ
orders_least (Phase.Closed a) = 0
orders_least (Phase.Leaving i p f) = 1
orders_least (Phase.Switching l old f new) = 1
orders_least (Phase.Connecting s new) = stage_least s
orders_least (Phase.Providing p c) = 1

abbrev pub leaver_most : Leaver → ℕ
leaver_most Leaver.Psu = 1
leaver_most (Leaver.Charger i) = 2 + i

abbrev pub stage_most : ℕ → Stage → ℕ
stage_most c Stage.Psu = 2 + c
stage_most c Stage.Settling = 3 + c
stage_most c (Stage.Readying i) = 4 + c + 3 * i
stage_most c (Stage.Initializing i) = 5 + c + 3 * i
stage_most c (Stage.Attaching i) = 6 + c + 3 * i

abbrev pub orders_most : ℕ → Phase → ℕ
orders_most c (Phase.Closed a) = 3 + 4 * c
orders_most c (Phase.Leaving i p f) = 1 + i
orders_most c (Phase.Switching l old f new) = leaver_most l
orders_most c (Phase.Connecting s new) = stage_most c s
orders_most c (Phase.Providing p k) = 1

abbrev pub orders_fit : ℕ → Phase → ℕ → Bool
orders_fit c p k = leb (orders_least p) k && leb k (orders_most c p)

-- the notices: every port is registered

abbrev pub provider_fits : ℕ → Option ProviderNotice → Bool
provider_fits ports None = true
provider_fits ports (Some (ProviderNotice.Disconnected p)) = ltb p ports
provider_fits ports (Some (ProviderNotice.Connected p c)) = ltb p ports

abbrev pub disconnected_fits : ℕ → Option Disconnected → Bool
disconnected_fits ports None = true
disconnected_fits ports (Some d) = ltb d.port ports

abbrev pub unconstrained_fits : ℕ → Option UnconstrainedState → Bool
unconstrained_fits ports None = true
unconstrained_fits ports (Some u) = leb u.available ports

abbrev pub notices_fit : ℕ → Notices → Bool
notices_fit ports n =
    provider_fits ports n.provider
    && (disconnected_fits ports n.disconnected
    && (consumer_fits ports n.connected && unconstrained_fits ports n.unconstrained))

-- what an event may have told of when it stands there

abbrev pub none_connected : Option ProviderNotice → Bool
none_connected None = true
none_connected (Some (ProviderNotice.Disconnected p)) = true
none_connected (Some (ProviderNotice.Connected p c)) = false

abbrev pub no_provider : Option ProviderNotice → Bool
no_provider None = true
no_provider (Some (ProviderNotice.Disconnected p)) = false
no_provider (Some (ProviderNotice.Connected p c)) = false

abbrev pub not_disconnected : Option Disconnected → Bool
not_disconnected None = true
not_disconnected (Some d) = false

abbrev pub no_consumer : Option AvailableConsumer → Bool
no_consumer None = true
no_consumer (Some c) = false

abbrev pub no_figures : Option UnconstrainedState → Bool
no_figures None = true
no_figures (Some u) = false

-- not yet of the consumer connected, nor of the figures
abbrev pub not_connected : Notices → Bool
not_connected n = none_connected n.provider && (no_consumer n.connected && no_figures n.unconstrained)

abbrev pub not_updated : Notices → Bool
not_updated n = not_disconnected n.disconnected && not_connected n

abbrev pub nothing_told : Notices → Bool
nothing_told n = no_provider n.provider && not_updated n

abbrev pub tells : Phase → Notices → Bool
tells (Phase.Closed a) n = true
tells (Phase.Leaving i p f) n = not_updated n
tells (Phase.Switching l old f new) n = not_updated n
tells (Phase.Connecting s new) n = not_connected n
tells (Phase.Providing p c) n = nothing_told n

-- an open event can still have a number
abbrev pub number_fits : Phase → ℕ → Bool
number_fits p n = not (is_open p) || ltb n largest

abbrev pub event_fits : ℕ → ℕ → Phase → ℕ → ℕ → Notices → Bool
event_fits ports chargers p number orders n =
    phase_fits ports chargers p
    && (number_fits p number && (orders_fit chargers p orders && (notices_fit ports n && tells p n)))

unfoldable pub well_formed : Service → Bool
well_formed s =
    registration_fits s.registration
    && (state_fits s.registration.ports s.memory.state
    && event_fits s.registration.ports s.registration.chargers s.phase s.number s.orders s.memory.notices)
