-- The totals over the first `ports` records of a row of 16, lent, are the totals by value over that row: both sums have the same figure at each place. And where
-- the requester is none of the ports, every port counts with its contract.
use mathlib.Core.Path.{◌≡◌, refl, ◌∙◌, ap}
use mathlib.Core.List.{List}
use Prim.Native.Nat.{ℕ, zero, suc, ◌+◌, ◌≤◌, ◌<◌, min}
use native.Mathlib.Omega.{arith}
use borrow.Author.Tests.{ne_eqb}
use lib.ListN.{length, take, length-take}
use lib.Seq.{get_or-take}
use Rattle.power_policy_interface.specs.declared.capability.ProviderPowerCapability.{ProviderPowerCapability}
use Rattle.power_policy_interface.specs.declared.psu.State.{State}
use Rattle.power_policy_service.specs.Provider.{connected_mw, requested_mw, sum_to, total_of, total_with}
use Rattle.power_policy_service.specs.Rows.{psu_at, no_psu}

sums_agree : (f g : ℕ → ℕ) (n : ℕ) → ((p : ℕ) → p < n → f p ≡ g p) → sum_to f n ≡ sum_to g n
sums_agree f g zero h = refl
sums_agree f g (suc n) h = λ i. sums_agree f g n (λ p l. h p (omega (arith, l))) i + h n (omega arith) i

pub psu_in_first : (n : ℕ) (psus : List State) (p : ℕ) → p < n → psu_at (take n psus) p ≡ psu_at psus p
psu_in_first n psus p h = get_or-take n psus p no_psu h

-- how many records of the part count
counted : (psus : List State) (ports : ℕ) → length psus ≡ 16 → min 16 (length (take ports psus)) ≡ min 16 ports
counted psus ports e = omega (arith, length-take ports psus, e)

module _ (G : ℕ → State → ℕ) (psus : List State) (ports : ℕ) where
  same : length psus ≡ 16 → sum_to (λ p. G p (psu_at (take ports psus) p)) (min 16 (length (take ports psus))) ≡ sum_to (λ p. G p (psu_at psus p)) (min 16 ports)
  same e = ap (sum_to (λ p. G p (psu_at (take ports psus) p))) (counted psus ports e)
      ∙ sums_agree (λ p. G p (psu_at (take ports psus) p)) (λ p. G p (psu_at psus p)) (min 16 ports) (λ p l. ap (G p) (psu_in_first ports psus p (omega (arith, l))))

pub total_is : (psus : List State) (ports : ℕ) → length psus ≡ 16 → total_of (take ports psus) (min 16 (length (take ports psus))) ≡ total_of psus (min 16 ports)
total_is psus ports e = same (λ p. connected_mw) psus ports e

pub total_with_is : (requester : ℕ) (request : ProviderPowerCapability) (psus : List State) (ports : ℕ) → length psus ≡ 16
    → total_with requester request (take ports psus) (min 16 (length (take ports psus))) ≡ total_with requester request psus (min 16 ports)
total_with_is requester request psus ports e = same (requested_mw requester request) psus ports e

pub nobody_requests : (requester : ℕ) (request : ProviderPowerCapability) (psus : List State) (n : ℕ) → n ≤ requester → total_with requester request psus n ≡ total_of psus n
nobody_requests requester request psus n h =
    sums_agree (λ p. requested_mw requester request p (psu_at psus p)) (λ p. connected_mw (psu_at psus p)) n (λ p l. rw (ne_eqb p requester (λ e. omega (arith, l, h, e))))
