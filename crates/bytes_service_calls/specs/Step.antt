-- What a call says of the step or the write that it is handed: that it does what f says.
use Rattle.std.specs.Borrow.{MutBor}
use Rattle.std.specs.Prelude.{◌≡◌, Err, List, Ok, Result, ℕ}
use Rattle.power_policy_interface.specs.Refusal.{numbered, refusal_number}
use Rattle.power_policy_interface.specs.declared.refusal.Refusal.{Refusal}
use Rattle.abstract_policy.specs.declared.state.Records.{Records}
use Rattle.abstract_calls.specs.Called.{Called, called, refused_call}
use Rattle.abstract_calls.specs.Lent.{written_as}
use Rattle.machine_service.specs.Service as specs
use Rattle.machine_service.specs.Service.{stepped_by}
use Rattle.machine_service.specs.declared.Service.{Service}
use Rattle.machine_service.specs.declared.Stepped.{Stepped}

-- f says what the step brings about and the service after it, which is the one before where the step turns the call back
abbrev pub IsStep : (Service → Records → Result Stepped Refusal → Type 0) → (Service → Records → specs.Stepped) → Type 0
IsStep post f = (s : Service) (r : Records) (x : Result Stepped Refusal) → post s r x → stepped_by s x ≡ f s r

-- what a write of what was asked of the service returns and leaves in the buffer: where that was turned back, the buffer stays as it was

abbrev pub asked_call : {T : Type 0} → (T → List ℕ → Called) → Result T Refusal → List ℕ → Called
asked_call f (Err r) buffer = refused_call (refusal_number r) buffer
asked_call f (Ok x) buffer = f x buffer

-- f says what the write returns and leaves in the buffer that it is lent
abbrev pub IsWrite : {T : Type 0} → (T → MutBor (List ℕ) → Result ℕ Refusal → MutBor (List ℕ) → Type 0) → (T → List ℕ → Called) → Type 0
IsWrite {T} post f =
    (x : T) (buffer left : MutBor (List ℕ)) (w : Result ℕ Refusal) → post x buffer w left → called (written_as (numbered w)) left.now ≡ f x buffer.now
