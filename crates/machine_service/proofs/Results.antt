-- A result of a call is known by what the definition says of it.
-- Assumes nothing.
use Rattle.std.specs.Prelude.{ℕ, Err, Ok, Result}
use mathlib.Core.Path.{◌≡◌, ap}
use Rattle.power_policy_interface.specs.Refusal.{refusal_number}
use Rattle.power_policy_interface.proofs.Numbered.{number_injective}
use Rattle.power_policy_interface.specs.declared.refusal.Refusal.{Refusal}
use Rattle.abstract_policy.specs.declared.outcome.Step.{Step}
use Rattle.machine_service.specs.Service.{Stepped, stepped_by}
use Rattle.machine_service.specs.declared.Service.{Service}
use Rattle.machine_service.specs.declared.Stepped as accepts

-- whatever service was called: it stands in the value of a call that is turned back, and not in its result
pub stepped_by_injective : (s z : Service) (r q : Result accepts.Stepped Refusal) → stepped_by s r ≡ stepped_by z q → r ≡ q
stepped_by_injective s z (Ok t) (Ok u) e =
    let o : ◌≡◌ {A = Result Step ℕ} (Ok t.step) (Ok u.step) = ap (λ (x : Stepped). x.step) e in
    let p : t.step ≡ u.step = cc in
    let v : t.service ≡ u.service = ap (λ (x : Stepped). x.service) e in
    λ i. Ok (record { step = p i; service = v i })
stepped_by_injective s z (Ok t) (Err q) e =
    let o : ◌≡◌ {A = Result Step ℕ} (Ok t.step) (Err (refusal_number q)) = ap (λ (x : Stepped). x.step) e in
    absurd (cc)
stepped_by_injective s z (Err r) (Ok u) e =
    let o : ◌≡◌ {A = Result Step ℕ} (Err (refusal_number r)) (Ok u.step) = ap (λ (x : Stepped). x.step) e in
    absurd (cc)
stepped_by_injective s z (Err r) (Err q) e =
    let o : ◌≡◌ {A = Result Step ℕ} (Err (refusal_number r)) (Err (refusal_number q)) = ap (λ (x : Stepped). x.step) e in
    let n : refusal_number r ≡ refusal_number q = cc in
    ap (λ (x : Refusal). Err x) (number_injective r q n)
