-- What is pushed of a notice that was mapped to its event is what is pushed of the notice.
-- Assumes nothing.
use Rattle.std.specs.Prelude.{None, Option, Some}
use Rattle.std.specs.Option.{MatchOption, IsSomeAnd}
use mathlib.Core.Path.{◌≡◌, ap}
use Rattle.power_policy_interface.specs.declared.service.UnconstrainedState.{UnconstrainedState}
use Rattle.power_policy_interface.specs.declared.service.event.Event.{Event}
use Rattle.interface_display.specs.declared.AvailableConsumer.{AvailableConsumer}
use Rattle.interface_display.specs.declared.notices.Notices as display
use Rattle.interface_display.specs.Notices.{pushed}
use Rattle.machine_state.specs.declared.memory.Disconnected.{Disconnected}
use Rattle.machine_state.specs.declared.memory.ProviderNotice.{ProviderNotice}
use Rattle.machine_service.specs.Send.{push_told, provider_event, push_provider, push_disconnected, push_connected, push_unconstrained}

-- the event of a notice, if there is one
abbrev IsEvent : {T : Type 0} → Option T → (T → Event) → Option Event → Type 0
IsEvent o f r = MatchOption o (r ≡ None) (λ x. IsSomeAnd r (λ e. e ≡ f x))

module _ (l : display.Notices) where
  pub provider : (o : Option ProviderNotice) (r : Option Event) → IsEvent o provider_event r → push_told l r ≡ push_provider l o
  provider None r h = ap (push_told l) h
  provider (Some p) None h = absurd h
  provider (Some (ProviderNotice.Disconnected p)) (Some e) h = ap (pushed l) h
  provider (Some (ProviderNotice.Connected p c)) (Some e) h = ap (pushed l) h

  pub disconnected : (o : Option Disconnected) (r : Option Event) → IsEvent o (λ d. Event.ConsumerDisconnected d.port d.flags) r → push_told l r ≡ push_disconnected l o
  disconnected None r h = ap (push_told l) h
  disconnected (Some d) None h = absurd h
  disconnected (Some d) (Some e) h = ap (pushed l) h

  pub connected : (o : Option AvailableConsumer) (r : Option Event) → IsEvent o (λ c. Event.ConsumerConnected c.psu c.consumer_power_capability) r → push_told l r ≡ push_connected l o
  connected None r h = ap (push_told l) h
  connected (Some c) None h = absurd h
  connected (Some c) (Some e) h = ap (pushed l) h

  pub unconstrained : (o : Option UnconstrainedState) (r : Option Event) → IsEvent o (λ u. Event.Unconstrained u) r → push_told l r ≡ push_unconstrained l o
  unconstrained None r h = ap (push_told l) h
  unconstrained (Some u) None h = absurd h
  unconstrained (Some u) (Some e) h = ap (pushed l) h
