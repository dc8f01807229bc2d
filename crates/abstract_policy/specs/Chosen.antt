-- DEM-2c, over whole runs of the definition: which consumer an event chooses that updates it, and that this one
-- is held when the event has closed without error. It holds after every start that is accepted (`run_chooses` in proofs/Chosen.antt).
use Rattle.std.specs.Prelude.{ℕ, suc, Bool, true, ◌||◌, List, ◌∷◌, ◌++◌, ◌≡◌, eqb, Ok}
use Rattle.power_policy_service.specs.Choice.{Chosen}
use Rattle.abstract_policy.specs.Interaction.{find_best_consumer}
use Rattle.abstract_policy.specs.Policy.{Call, open_event, Policy, started, open_refused, policies}
use Rattle.abstract_policy.specs.declared.state.Records.{Records}
use Rattle.abstract_policy.specs.declared.state.Registration.{Registration}

-- the kinds of event that update the consumer: UpdatedConsumerCapability, Disconnected, Detached
abbrev pub updates : ℕ → Bool
updates kind = eqb kind 1 || (eqb kind 3 || eqb kind 4)

-- an opening that is accepted after these calls, and updates the consumer
pub record Updates (g : Registration) (calls : List Call) (kind device detail : ℕ) : Type 0 where
  pub accepted : open_refused (policies (started g) calls) kind device detail ≡ 0
  pub updating : updates kind ≡ true

pub record Choices (g : Registration) : Type 0 where
  -- none if no port is eligible, else the earliest with most milliwatts, the current one winning ties
  pub chosen :
      (l : List Call) (kind device detail : ℕ) (r : Records) → Updates g l kind device detail →
      let p : Policy = policies (started g) l in
      Chosen p.registration.config.min_consumer_threshold_mw p.state.current_consumer_state r.psus p.registration.ports
      (find_best_consumer p.registration p.state r)
  -- whatever calls follow, once this event has closed without error and until the next one closes, this is the consumer
  pub held :
      (l : List Call) (kind device detail : ℕ) (r : Records) (m : List Call) → Updates g l kind device detail →
      let p : Policy = policies (started g) l in
      let q : Policy = policies (started g) (l ++ (open_event kind device detail r ∷ m)) in
      q.number ≡ suc p.number → q.answer ≡ (Ok tt) → q.state.current_consumer_state ≡ find_best_consumer p.registration p.state r
