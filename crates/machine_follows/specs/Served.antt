-- An event at the service: the service after a list of answers, and where it is to stand then (the event fed with them: abstract_policy specs/Fed.antt).
use Rattle.std.specs.Prelude.{ℕ, suc, ◌≤◌, false, [], ◌∷◌, ◌≡◌, eqb}
use Rattle.power_policy_interface.specs.Limits.{largest, max_chargers}
use Rattle.abstract_policy.specs.Refusals.{first_refused}
use Rattle.abstract_policy.specs.Given.{event_of}
use Rattle.abstract_policy.specs.Action.{Interaction, done, ask}
use Rattle.abstract_policy.specs.Interaction.{event}
use Rattle.abstract_policy.specs.Fed.{Answers}
use Rattle.abstract_policy.specs.declared.state.Records.{Records}
use Rattle.abstract_policy.specs.declared.state.Registration.{Registration}
use Rattle.machine_service.specs.Refusals.{open_refusals}
use Rattle.machine_service.specs.Service.{answer_of}
use Rattle.machine_service.specs.declared.Service.{Service}
use Rattle.machine_follows.specs.Machine.{stands_at}

-- the service after these answers, refused ones included
abbrev pub service_after : Service → Answers → Service
service_after s [] = s
service_after s (x ∷ l) = service_after (answer_of s x.0 x.1).service l

-- an event has its number when it closes
abbrev pub numbered : ℕ → Interaction → ℕ
numbered n (done a h) = suc n
numbered n (ask o k) = n

-- the service stands where the event stands: at the same order with the same rest, or closed with the same answer, notices and state;
-- it has counted its orders
pub record Stands (s : Service) (g : Registration) (number given : ℕ) (i : Interaction) : Type 0 where
  pub registered : s.registration ≡ g
  pub numbered : s.number ≡ number
  pub counted : s.orders ≡ given
  pub left : stands_at g s.phase s.memory ≡ i

-- an event is opened

-- accepted, and not the charger's
pub record Opens (s : Service) (kind device detail : ℕ) : Type 0 where
  pub accepted : first_refused (open_refusals s kind device detail) ≡ 0
  pub from_port : eqb kind 5 ≡ false

-- what a start registers, and a number of 32 bits
pub record Registered (s : Service) : Type 0 where
  pub chargers : s.registration.chargers ≤ max_chargers
  pub number : s.number ≤ largest

-- the event that is opened
abbrev pub event_at : Service → ℕ → ℕ → ℕ → Records → Interaction
event_at s kind device detail r = event s.registration device (event_of kind detail) s.memory.state r
