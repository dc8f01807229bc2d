-- The whole claim. Its one value is `claimed` (proofs/Claimed.antt).
use Rattle.std.specs.Prelude.{Bool, List, ◌↔◌, ◌≡◌, ℕ, ◌≤◌, replicate, Some}
use Rattle.power_policy_interface.specs.Limits.{service_length}
use Rattle.interface_display.specs.Set.{SetLaws}
use Rattle.power_policy_service.specs.Config.{rust_default, default_config}
use Rattle.power_policy_service.specs.PairOrder.{PairOrder}
use Rattle.power_policy_service.specs.TypeC.{TypeC}
use Rattle.power_policy_service.specs.declared.config.Config.{Config}
use Rattle.abstract_policy.specs.Refusals.{rank, Applies, First, Base, Lowest}
use Rattle.abstract_desk.specs.Takes.{paper_after, EachBytes}
use Rattle.abstract_page.specs.Page.{Fits}
use Rattle.abstract_page.specs.PageLaws.{PageLaws}
use Rattle.abstract_calls.specs.Functions.{Functions, Arguments, arguments, config_of}
use Rattle.abi_functions.specs.Ours.{functions}
use Rattle.promise.specs.Layout.{Layout}
use Rattle.promise.specs.Promise.{start_refused, registers, Promise, Meaning}
use Rattle.promise.specs.Same.{Same}
use Rattle.promise.specs.Testers.{Testers}

-- DEM-2a: public documents first
pub record Documents : Type 0 where
  -- heapless's set of fixed capacity
  pub set : SetLaws
  -- Rust's ordering of pairs and bool
  pub order : PairOrder
  -- USB Type-C's 5 V currents
  pub type_c : TypeC rust_default
  pub default_type_c : TypeC default_config

pub record Claim : Type 0 where
  -- a start is accepted, here by the Rust's default with one port; a run after it, and takes that meet what demand 3 asks for, are in proofs/Refuted.antt
  pub accepted : start_refused (replicate service_length 0) (arguments 1 0 15000 5000 3000 5000 1500 0 0) ≡ 0
  -- our functions keep the promise (LNK-7: demand 3 among it)
  pub promised : Promise functions
  -- TST-1: and only one behaviour does
  pub only_one : (f g : Functions) → Promise f → Promise g → Same f g
  -- TST-4 to TST-11: so that none of the testers' programs does
  pub testers : Testers
  -- what the definition's words come to, of whatever a start accepts
  pub meaning : (image : List ℕ) (a : Arguments) → start_refused image a ≡ 0 → (c : Config) → config_of a ≡ Some c → Meaning (registers a c)
  -- REF-2, the lowest that applies: among the base's numbers the order in which conditions are looked at is that of size
  pub rank_size : (n m : ℕ) → Base n → Base m → (rank n ≤ rank m) ↔ (n ≤ m)
  pub lowest : (l : List (Bool × ℕ)) (n : ℕ) → ((m : ℕ) → Applies m l → Base m) → First l n → Lowest l n
  -- S1-1, S1-7: a page has six lines of 40 columns and is read as what it says, of every follower whose figures a picture can have,
  pub pages : PageLaws
  -- which every follower has after any takes
  pub pages_fit : (l : List (List ℕ)) → EachBytes l → Fits (paper_after l)
  pub documents : Documents
  pub layout : Layout
