-- A notice told in its place is the last of the list, as long as no later one has been told: appending is associative.
use Rattle.std.specs.Prelude.{None, Option, Some}
use mathlib.Core.Path.{◌≡◌, refl, ap}
use mathlib.Core.List.{List, [], ◌∷◌, ◌++◌}
use Prim.Native.Nat.{ℕ, ◌≤◌}
use native.Mathlib.Omega.{arith}
use lib.ListN.{length, length-append}
use Rattle.power_policy_interface.specs.declared.capability.DisconnectFlags.{DisconnectFlags}
use Rattle.power_policy_interface.specs.declared.service.UnconstrainedState.{UnconstrainedState}
use Rattle.power_policy_interface.specs.declared.service.event.Event.{Event}
use Rattle.interface_display.specs.declared.AvailableConsumer.{AvailableConsumer}
use Rattle.machine_state.specs.Memory.{tell_disconnected, tell_connected, tell_unconstrained}
use Rattle.machine_state.specs.declared.memory.Disconnected.{Disconnected}
use Rattle.machine_state.specs.declared.memory.Notices.{Notices}
use Rattle.machine_state.specs.declared.memory.ProviderNotice.{ProviderNotice}
use Rattle.machine_follows.specs.Machine.{of_provider, of_disconnected, of_connected, of_unconstrained, listed, NotConnected, NotUpdated}

appended : (a l e : List Event) → a ++ (l ++ e) ≡ (a ++ l) ++ e
appended [] l e = refl
appended (x ∷ a) l e = ap (λ t. x ∷ t) (appended a l e)

pub told_disconnected : (p : ℕ) (f : DisconnectFlags) (n : Notices) → NotUpdated n → listed (tell_disconnected p f n) ≡ listed n ++ (Event.ConsumerDisconnected p f ∷ [])
told_disconnected p f n h =
    rw (h.disconnected, h.later.connected, h.later.unconstrained)
    (appended (of_provider n.provider) [] (Event.ConsumerDisconnected p f ∷ []))

pub told_connected_lem : (c : AvailableConsumer) (n : Notices) → NotConnected n → listed (tell_connected c n) ≡ listed n ++ (Event.ConsumerConnected c.psu c.consumer_power_capability ∷ [])
told_connected_lem c n h =
    rw (h.connected, h.unconstrained, appended (of_disconnected n.disconnected) [] (Event.ConsumerConnected c.psu c.consumer_power_capability ∷ []))
    (appended (of_provider n.provider) (of_disconnected n.disconnected ++ []) (Event.ConsumerConnected c.psu c.consumer_power_capability ∷ []))

pub told_unconstrained : (u : UnconstrainedState) (n : Notices) → n.unconstrained ≡ None → listed (tell_unconstrained u n) ≡ listed n ++ (Event.Unconstrained u ∷ [])
told_unconstrained u n h =
    let e = Event.Unconstrained u ∷ [] in
    let c = of_connected n.connected in
    let d = of_disconnected n.disconnected in
    rw (h, appended c [] e, appended d (c ++ []) e) (appended (of_provider n.provider) (d ++ (c ++ [])) e)

-- at most one of each kind, so at most four

provider_one : (p : Option ProviderNotice) → length (of_provider p) ≤ 1
provider_one None = omega arith
provider_one (Some (ProviderNotice.Disconnected p)) = omega arith
provider_one (Some (ProviderNotice.Connected p c)) = omega arith

disconnected_one : (d : Option Disconnected) → length (of_disconnected d) ≤ 1
disconnected_one None = omega arith
disconnected_one (Some d) = omega arith

connected_one : (c : Option AvailableConsumer) → length (of_connected c) ≤ 1
connected_one None = omega arith
connected_one (Some c) = omega arith

unconstrained_one : (u : Option UnconstrainedState) → length (of_unconstrained u) ≤ 1
unconstrained_one None = omega arith
unconstrained_one (Some u) = omega arith

pub at_most_four : (n : Notices) → length (listed n) ≤ 4
at_most_four n =
    omega (
      arith,
      length-append (of_provider n.provider) (of_disconnected n.disconnected ++ (of_connected n.connected ++ of_unconstrained n.unconstrained)),
      length-append (of_disconnected n.disconnected) (of_connected n.connected ++ of_unconstrained n.unconstrained),
      length-append (of_connected n.connected) (of_unconstrained n.unconstrained),
      provider_one n.provider,
      disconnected_one n.disconnected,
      connected_one n.connected,
      unconstrained_one n.unconstrained,
    )
