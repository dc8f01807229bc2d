-- A start, whatever its arguments: by the cases of its conditions.
use Rattle.std.specs.Prelude.{Err, None, Ok, Option, Result, Some}
use mathlib.Core.Path.{◌≡◌, refl, sym, ap, ◌∙◌, subst}
use mathlib.Core.Bool.{Bool, true, false, cond, not, ◌||◌}
use mathlib.Core.List.{List}
use Prim.Native.Nat.{ℕ}
use native.Mathlib.Omega.{arith}
use lib.Dec.{eqb, ltb}
use lib.ListN.{length}
use borrow.Author.Tests.{eqb-true, eqb-false}
use Rattle.power_policy_interface.specs.Limits.{service_length}
use Rattle.power_policy_service.specs.declared.config.Config.{Config}
use Rattle.machine_service.specs.declared.Service.{Service}
use Rattle.abstract_policy.specs.Refusals.{first_refused}
use Rattle.machine_service.specs.Service.{start_of, start_with, fresh_service}
use Rattle.abstract_calls.specs.Called.{Called, called, refused_call}
use Rattle.abstract_calls.specs.Numbers.{done_number, refused_number}
use Rattle.abstract_calls.specs.Definition.{start_conditions}
use Rattle.bytes_service_image.specs.Image.{service_bytes}
use Rattle.bytes_calls.specs.Calls.{started_call, start_call}
use Rattle.promise_calls.proofs.First.{start_refuses}
use Rattle.promise.specs.Promise.{done_or}

module _ (image : List ℕ) (ports chargers : ℕ) where
  abbrev refusal : Option Config → ℕ
  refusal o = first_refused (start_conditions image o ports chargers)

  -- not refused, there is a configuration
  pub configured : (o : Option Config) → refusal o ≡ 0 → (c : Config) × (o ≡ Some c)
  configured (Some c) e = (c, refl)
  configured None e = absurd (go (ltb 16 ports) (ltb 8 chargers) _ e)
    where
      go : (s t : Bool) (n : ℕ) → cond {A = ℕ} (s || (t || true)) 20 n ≡ 0 → ⊥
      go true t n q = omega (arith, q)
      go false true n q = omega (arith, q)
      go false false n q = omega (arith, q)

  -- what an accepted start returns and leaves
  pub record Leaves (c : Config) (x : Called) (y : Result Service ℕ) : Type 0 where
    pub number : x.number ≡ done_number
    pub bytes : x.bytes ≡ service_bytes (fresh_service c ports chargers)
    pub service : y ≡ Ok (fresh_service c ports chargers)

  start_fresh : (c : Config) → refusal (Some c) ≡ 0 →
      Leaves c (start_call image (Some c) ports chargers) (start_of (Some c) ports chargers)
  start_fresh c = go (ltb 16 ports) (ltb 8 chargers)
    where
      from : Bool → Bool → Result Service ℕ
      from s t = let n : ℕ = cond (s || (t || false)) 20 0 in cond (eqb n 0) (start_with (Some c) ports chargers) (Err n)

      last : (u : Bool) → eqb (length image) service_length ≡ u → cond {A = ℕ} (not u) 21 0 ≡ 0 → Leaves c (started_call image (from false false)) (from false false)
      last true e q = record {
        number = ap (λ (t : Bool). (cond {A = Called} t (called done_number (service_bytes (fresh_service c ports chargers))) (refused_call 21 image)).number) e;
        bytes = ap (λ (t : Bool). (cond {A = Called} t (called done_number (service_bytes (fresh_service c ports chargers))) (refused_call 21 image)).bytes) e;
        service = refl;
      }
      last false e q = absurd (omega (arith, q))

      go : (s t : Bool) → cond {A = ℕ} (s || (t || false)) 20 (cond (not (eqb (length image) service_length)) 21 0) ≡ 0 → Leaves c (started_call image (from s t)) (from s t)
      go true t q = absurd (omega (arith, q))
      go false true q = absurd (omega (arith, q))
      go false false q = last (eqb (length image) service_length) refl q

  pub start_leaves : (o : Option Config) (c : Config) → o ≡ Some c → refusal o ≡ 0 → Leaves c (start_call image o ports chargers) (start_of o ports chargers)
  start_leaves o c e q =
      subst (λ (z : Option Config). Leaves c (start_call image z ports chargers) (start_of z ports chargers)) (sym e) (start_fresh c (ap refusal (sym e) ∙ q))

  pub start_number : (o : Option Config) → (start_call image o ports chargers).number ≡ done_or (refusal o)
  start_number o = go (eqb (refusal o) 0) refl
    where
      go : (t : Bool) → eqb (refusal o) 0 ≡ t → (start_call image o ports chargers).number ≡ done_or (refusal o)
      go true e =
          let q : refusal o ≡ 0 = eqb-true (refusal o) 0 e in
          let c = configured o q in
          (start_leaves o c.0 c.1 q).number ∙ sym (ap done_or q)
      go false e =
          (start_refuses image o ports chargers).turned_back (eqb-false (refusal o) 0 e)
          ∙ sym (ap (λ (t : Bool). cond {A = ℕ} t done_number (refused_number (refusal o))) e)

  pub start_back : (o : Option Config) → (refusal o ≡ 0 → ⊥) → (start_call image o ports chargers).bytes ≡ image
  start_back None = go (ltb 16 ports) (ltb 8 chargers)
    where
      go : (s t : Bool) → (cond {A = ℕ} (s || (t || true)) 20 (cond (not (eqb (length image) service_length)) 21 0) ≡ 0 → ⊥) →
          (started_call image
          (let n : ℕ = cond (s || (t || true)) 20 0 in cond (eqb n 0) (start_with None ports chargers) (Err n))).bytes
          ≡ image
      go true t k = refl
      go false true k = refl
      go false false k = refl
  start_back (Some c) = go (ltb 16 ports) (ltb 8 chargers)
    where
      last : (u : Bool) → (cond {A = ℕ} (not u) 21 0 ≡ 0 → ⊥) →
          (cond {A = Called} u (called done_number (service_bytes (fresh_service c ports chargers))) (refused_call 21 image)).bytes ≡ image
      last true k = absurd (k refl)
      last false k = refl

      go : (s t : Bool) → (cond {A = ℕ} (s || (t || false)) 20 (cond (not (eqb (length image) service_length)) 21 0) ≡ 0 → ⊥) →
          (started_call image
          (let n : ℕ = cond (s || (t || false)) 20 0 in cond (eqb n 0) (start_with (Some c) ports chargers) (Err n))).bytes
          ≡ image
      go true t k = refl
      go false true k = refl
      go false false k = last (eqb (length image) service_length) k
