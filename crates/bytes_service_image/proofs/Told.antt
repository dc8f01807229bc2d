-- Each notice has one encoding: its presence or kind decides, and unused bytes are zeros.
-- Assumes nothing.
use Rattle.std.specs.Prelude.{None, Option, Some}
use mathlib.Core.Path.{◌≡◌, refl, ap, subst, ◌∙◌}
use mathlib.Core.Bool.{Bool, true, false, cond}
use mathlib.Core.List.{List}
use Prim.Native.Nat.{ℕ, zero, suc, ◌+◌, ◌≤◌, ◌<◌}
use native.Mathlib.Omega.{arith}
use lib.Dec.{eqb, leb}
use lib.ListN.{get_or}
use borrow.Author.Tests.{eqb-true, leb-true, ltb-true}
use Rattle.power_policy_interface.specs.Capability.{bit, disconnect_from}
use Rattle.power_policy_interface.specs.declared.capability.DisconnectFlags.{DisconnectFlags}
use Rattle.power_policy_interface.specs.declared.capability.ProviderPowerCapability.{ProviderPowerCapability}
use Rattle.power_policy_interface.specs.declared.service.UnconstrainedState.{UnconstrainedState}
use Rattle.power_policy_interface.proofs.OneByte.{reason_read_write, reason_write_read}
use Rattle.interface_records.specs.Group.{provider_from, all_zero}
use Rattle.interface_records.specs.Row.{AllBytes}
use Rattle.interface_records.specs.declared.group.Group.{Group}
use Rattle.interface_records.proofs.Groups.{zeros, provider_back, provider_written}
use Rattle.bytes_groups.specs.Tagged.{no_group}
use Rattle.bytes_groups.specs.declared.tagged.Tagged.{Tagged}
use Rattle.bytes_groups.proofs.Places.{Below, none, one}
use Rattle.bytes_groups.proofs.Consumers.{GroupBytes, TaggedBytes, empty_bytes, provider_bytes, provider_within, no_group_lem}
use Rattle.machine_state.specs.declared.memory.Disconnected.{Disconnected}
use Rattle.machine_state.specs.declared.memory.ProviderNotice.{ProviderNotice}
use Rattle.bytes_service_groups.specs.Notices.{triple_at, triple_bytes, provider_tagged, disconnected_triple, unconstrained_triple, connected_with, provider_cases, provider_read, disconnected_with, disconnected_cases, disconnected_read, unconstrained_cases, unconstrained_read}
use Rattle.bytes_service_image.specs.Typed.{ProviderTyped}
use Rattle.bytes_service_image.specs.WellFormed.{provider_fits, disconnected_fits, unconstrained_fits}
use Rattle.bytes_service_groups.specs.declared.notices.Triple.{Triple}
use Rattle.bytes_service_image.proofs.Fits.{fits, within}
use Rattle.bytes_service_image.proofs.Phases.{reason_lt}
use Rattle.power_policy_interface.proofs.Bits.{bit_le, bit_written}

pub record TripleBytes (g : Triple) : Type 0 where
  pub tag : g.tag < 256
  pub a : g.a < 256
  pub b : g.b < 256

pub triple_at_lem : (s : List ℕ) (at : ℕ) → AllBytes s → TripleBytes (triple_at s at)
triple_at_lem s at h = record { tag = h (at + 0); a = h (at + 1); b = h (at + 2) }

pub triple_bytes_lem : (g : Triple) → TripleBytes g → Below (triple_bytes g)
triple_bytes_lem g h = one h.tag (one h.a (one h.b none))

-- a provider

pub provider_notice_back : (n : Option ProviderNotice) → provider_read (provider_tagged n) ≡ Some n
provider_notice_back None = refl
provider_notice_back (Some (ProviderNotice.Disconnected p)) = refl
provider_notice_back (Some (ProviderNotice.Connected p c)) = ap (connected_with p) (provider_back p c)

pub provider_notice_bytes : (ports : ℕ) (n : Option ProviderNotice) → ports ≤ 16 → provider_fits ports n ≡ true → ProviderTyped n
    → TaggedBytes (provider_tagged n)
provider_notice_bytes ports None h e t = record { tag = omega arith; group = empty_bytes 0 (omega arith) }
provider_notice_bytes ports (Some (ProviderNotice.Disconnected p)) h e t =
    let k = ltb-true p ports e in
    record { tag = omega arith; group = empty_bytes p (omega arith) }
provider_notice_bytes ports (Some (ProviderNotice.Connected p c)) h e t =
    let k = ltb-true p ports e in
    record { tag = omega arith; group = provider_bytes p c (omega arith) (within c.capability t) }

abbrev of : ℕ → Group → Tagged
of n g = record { tag = n; group = g }

-- what was read was written so, and is within its types
pub record Provider (t : Tagged) (n : Option ProviderNotice) : Type 0 where
  pub written : t ≡ provider_tagged n
  pub typed : ProviderTyped n

no_provider_lem : (g : Group) (n : Option ProviderNotice) (t : Bool) → no_group g ≡ t
    → cond t (Some None) None ≡ Some n → Provider (of 0 g) n
no_provider_lem g n true e q =
    let m : None ≡ n = cc in
    subst (λ (x : Option ProviderNotice). Provider (of 0 g) x) m (record { written = ap (of 0) (no_group_lem g e); typed = tt })
no_provider_lem g n false e q = absurd (cc)

provider_left : (g : Group) (n : Option ProviderNotice) (t : Bool) → all_zero g ≡ t
    → cond t (Some (Some (ProviderNotice.Disconnected g.number))) None ≡ Some n
    → Provider (of 1 g) n
provider_left g n true e q =
    let m : Some (ProviderNotice.Disconnected g.number) ≡ n = cc in
    subst (λ (x : Option ProviderNotice). Provider (of 1 g) x) m (record { written = ap (of 1) (zeros g e); typed = tt })
provider_left g n false e q = absurd (cc)

provider_there : (g : Group) (n : Option ProviderNotice) (o : Option ProviderPowerCapability) → provider_from g ≡ o → GroupBytes g
    → connected_with g.number o ≡ Some n → Provider (of 2 g) n
provider_there g n None e h q = absurd (cc)
provider_there g n (Some c) e h q =
    let m : Some (ProviderNotice.Connected g.number c) ≡ n = cc in
    subst (λ (x : Option ProviderNotice). Provider (of 2 g) x) m
    (record { written = ap (of 2) (provider_written g c h.digit e); typed = fits c.capability (provider_within g c h.digit e) })

provider_at : (k : ℕ) (g : Group) (n : Option ProviderNotice) → GroupBytes g → get_or (provider_cases g) k None ≡ Some n
    → Provider (of k g) n
provider_at zero g n h q = no_provider_lem g n (no_group g) refl q
provider_at (suc zero) g n h q = provider_left g n (all_zero g) refl q
provider_at (suc (suc zero)) g n h q = provider_there g n (provider_from g) refl h q
provider_at (suc (suc (suc k))) g n h q = absurd (cc)

pub provider_notice_read : (t : Tagged) (n : Option ProviderNotice) → TaggedBytes t → provider_read t ≡ Some n → Provider t n
provider_notice_read t n h q = provider_at t.tag t.group n h.group q

-- a consumer disconnected

pub disconnected_back : (n : Option Disconnected) → disconnected_read (disconnected_triple n) ≡ Some n
disconnected_back None = refl
disconnected_back (Some d) = ap (disconnected_with d.port) (reason_read_write d.flags)

pub disconnected_bytes : (ports : ℕ) (n : Option Disconnected) → ports ≤ 16 → disconnected_fits ports n ≡ true
    → TripleBytes (disconnected_triple n)
disconnected_bytes ports None h e = record { tag = omega arith; a = omega arith; b = omega arith }
disconnected_bytes ports (Some d) h e =
    let k = ltb-true d.port ports e in
    record { tag = omega arith; a = omega arith; b = reason_lt d.flags }

abbrev three : ℕ → ℕ → ℕ → Triple
three n a b = record { tag = n; a = a; b = b }

-- two numbers whose sum is 0
both_zero : (k a b : ℕ) → a + b ≡ 0 → three k a b ≡ three k 0 0
both_zero k a b e =
    let x : a ≡ 0 = omega arith in
    let y : b ≡ 0 = omega arith in
    λ i. three k (x i) (y i)

none_left : (a b : ℕ) (n : Option Disconnected) (t : Bool) → eqb (a + b) 0 ≡ t
    → cond t (Some None) None ≡ Some n
    → three 0 a b ≡ disconnected_triple n
none_left a b n true e q =
    let m : None ≡ n = cc in
    both_zero 0 a b (eqb-true (a + b) 0 e) ∙ ap disconnected_triple m
none_left a b n false e q = absurd (cc)

one_left : (a b : ℕ) (n : Option Disconnected) (o : Option DisconnectFlags) → disconnect_from b ≡ o
    → disconnected_with a o ≡ Some n → three 1 a b ≡ disconnected_triple n
one_left a b n None e q = absurd (cc)
one_left a b n (Some f) e q =
    let m : Some (record { port = a; flags = f }) ≡ n = cc in
    ap (three 1 a) (reason_write_read b f e) ∙ ap disconnected_triple m

disconnected_at : (k a b : ℕ) (n : Option Disconnected) → get_or (disconnected_cases a b) k None ≡ Some n
    → three k a b ≡ disconnected_triple n
disconnected_at zero a b n q = none_left a b n (eqb (a + b) 0) refl q
disconnected_at (suc zero) a b n q = one_left a b n (disconnect_from b) refl q
disconnected_at (suc (suc k)) a b n q = absurd (cc)

pub disconnected_written : (g : Triple) (n : Option Disconnected) → disconnected_read g ≡ Some n → g ≡ disconnected_triple n
disconnected_written g n q = disconnected_at g.tag g.a g.b n q

-- the unconstrained figures

figures_back : (u : Bool) (k : ℕ)
    → cond {A = Option (Option UnconstrainedState)} (leb (bit u) 1)
    (Some (Some (record { unconstrained = eqb (bit u) 1; available = k })))
    None
    ≡ Some (Some (record { unconstrained = u; available = k }))
figures_back true k = refl
figures_back false k = refl

pub unconstrained_back : (n : Option UnconstrainedState) → unconstrained_read (unconstrained_triple n) ≡ Some n
unconstrained_back None = refl
unconstrained_back (Some u) = figures_back u.unconstrained u.available

pub unconstrained_bytes_lem : (ports : ℕ) (n : Option UnconstrainedState) → ports ≤ 16 → unconstrained_fits ports n ≡ true
    → TripleBytes (unconstrained_triple n)
unconstrained_bytes_lem ports None h e = record { tag = omega arith; a = omega arith; b = omega arith }
unconstrained_bytes_lem ports (Some u) h e =
    let k = leb-true u.available ports e in
    record { tag = omega arith; a = omega (arith, bit_le u.unconstrained); b = omega arith }

none_told : (a b : ℕ) (n : Option UnconstrainedState) (t : Bool) → eqb (a + b) 0 ≡ t
    → cond t (Some None) None ≡ Some n
    → three 0 a b ≡ unconstrained_triple n
none_told a b n true e q =
    let m : None ≡ n = cc in
    both_zero 0 a b (eqb-true (a + b) 0 e) ∙ ap unconstrained_triple m
none_told a b n false e q = absurd (cc)

figures_told : (a b : ℕ) (n : Option UnconstrainedState) (t : Bool) → leb a 1 ≡ t
    → cond t (Some (Some (record { unconstrained = eqb a 1; available = b }))) None
    ≡ Some n
    → three 1 a b ≡ unconstrained_triple n
figures_told a b n true e q =
    let m : Some (record { unconstrained = eqb a 1; available = b }) ≡ n = cc in
    ap (λ (x : ℕ). three 1 x b) (bit_written a (leb-true a 1 e)) ∙ ap unconstrained_triple m
figures_told a b n false e q = absurd (cc)

unconstrained_at : (k a b : ℕ) (n : Option UnconstrainedState) → get_or (unconstrained_cases a b) k None ≡ Some n
    → three k a b ≡ unconstrained_triple n
unconstrained_at zero a b n q = none_told a b n (eqb (a + b) 0) refl q
unconstrained_at (suc zero) a b n q = figures_told a b n (leb a 1) refl q
unconstrained_at (suc (suc k)) a b n q = absurd (cc)

pub unconstrained_written : (g : Triple) (n : Option UnconstrainedState) → unconstrained_read g ≡ Some n → g ≡ unconstrained_triple n
unconstrained_written g n q = unconstrained_at g.tag g.a g.b n q
