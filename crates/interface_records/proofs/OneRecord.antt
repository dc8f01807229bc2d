-- A record has one encoding: reading what was written gives the record, and bytes that are read were written so.
-- Assumes nothing.
use Rattle.std.specs.Prelude.{None, Option, Some}
use mathlib.Core.Path.{◌≡◌, refl, ap, sym, ◌∙◌}
use mathlib.Core.Bool.{Bool, true, false, cond}
use mathlib.Core.List.{List, [], ◌∷◌, ◌++◌}
use Prim.Native.Nat.{ℕ, zero, suc, ◌+◌}
use native.Mathlib.Nat.{suc_inj}
use native.Mathlib.Omega.{arith}
use lib.Dec.{eqb}
use lib.ListN.{length, get_or}
use borrow.Author.Tests.{eqb-true}
use Rattle.power_policy_interface.specs.Charger.{internal_number, internal_from}
use Rattle.power_policy_interface.specs.declared.capability.ConsumerPowerCapability.{ConsumerPowerCapability}
use Rattle.power_policy_interface.specs.declared.capability.ProviderPowerCapability.{ProviderPowerCapability}
use Rattle.power_policy_interface.specs.declared.charger.InternalState.{InternalState}
use Rattle.power_policy_interface.specs.declared.charger.PoweredSubstate.{PoweredSubstate}
use Rattle.power_policy_interface.specs.declared.charger.State as charger
use Rattle.power_policy_interface.specs.declared.psu.PsuState.{PsuState}
use Rattle.power_policy_interface.specs.declared.psu.State as psu
use Rattle.interface_records.specs.Group.{group_at, group_bytes, empty_group, consumer_group, provider_group, option_consumer_group, option_provider_group, all_zero, consumer_from, provider_from, option_consumer_from, option_provider_from}
use Rattle.interface_records.specs.Row.{AllBytes}
use Rattle.interface_records.specs.Psu.{psu_state_group, psu_bytes, providing, consuming, state_cases, psu_state_from, psu_of, psu_from}
use Rattle.interface_records.specs.Charger.{charger_bytes, charger_of, charger_from}
use Rattle.interface_records.specs.declared.group.Group.{Group}
use Rattle.interface_records.proofs.Groups.{Bytes, zeros, consumer_back, provider_back, option_consumer_back, option_provider_back, consumer_written, provider_written, option_consumer_written, option_provider_written}

pub group_bytes_lem : (s : List ℕ) (at : ℕ) → AllBytes s → Bytes (group_at s at)
group_bytes_lem s at h = record { v0 = h (at + 1); v1 = h (at + 2); c0 = h (at + 3); c1 = h (at + 4) }

-- n elements from place i on
abbrev pub gets : List ℕ → ℕ → ℕ → List ℕ
gets s i zero = []
gets s i (suc n) = get_or s i 0 ∷ gets s (suc i) n

gets_cons : (x : ℕ) (s : List ℕ) (i n : ℕ) → gets (x ∷ s) (suc i) n ≡ gets s i n
gets_cons x s i zero = refl
gets_cons x s i (suc n) = ap (λ (l : List ℕ). get_or s i 0 ∷ l) (gets_cons x s (suc i) n)

pub gets_all : (s : List ℕ) (n : ℕ) → length s ≡ n → gets s 0 n ≡ s
gets_all [] zero e = refl
gets_all [] (suc n) e = absurd (omega arith)
gets_all (x ∷ s) zero e = absurd (omega arith)
gets_all (x ∷ s) (suc n) e = ap (λ (l : List ℕ). x ∷ l) (gets_cons x s 0 n ∙ gets_all s n (suc_inj e))

-- what is read of so many bytes alone was read of so many
whole : {A : Type 0} (bs : List ℕ) (w : ℕ) (x y r : A) → (y ≡ r → ⊥) → cond (eqb (length bs) w) x y ≡ r → (length bs ≡ w) × (x ≡ r)
whole bs w x y r h e = tested (eqb (length bs) w) refl e
  where
    tested : (t : Bool) → eqb (length bs) w ≡ t → cond t x y ≡ r → (length bs ≡ w) × (x ≡ r)
    tested true p q = (eqb-true (length bs) w p, q)
    tested false p q = absurd (h q)

-- the PSU record

state_back : (p : PsuState) → psu_state_from (psu_state_group p) ≡ Some p
state_back PsuState.Idle = refl
state_back (PsuState.ConnectedProvider c) = ap providing (provider_back 2 c)
state_back (PsuState.ConnectedConsumer c) = ap consuming (consumer_back 3 c)
state_back PsuState.Detached = refl

pub psu_read_write : (s : psu.State) → psu_from (psu_bytes s) ≡ Some s
psu_read_write s =
    ap (λ (r : Option PsuState). psu_of r (option_consumer_from (option_consumer_group s.consumer_capability)) (option_provider_from (option_provider_group s.requested_provider_capability)))
    (state_back s.psu_state)
    ∙ (ap (λ (r : Option (Option ConsumerPowerCapability)). psu_of (Some s.psu_state) r (option_provider_from (option_provider_group s.requested_provider_capability)))
    (option_consumer_back s.consumer_capability)
    ∙ ap (psu_of (Some s.psu_state) (Some s.consumer_capability))
    (option_provider_back s.requested_provider_capability))

bare_written : (g : Group) (p r : PsuState) (t : Bool) → all_zero g ≡ t → empty_group g.number ≡ psu_state_group p
    → cond t (Some p) None ≡ Some r → g ≡ psu_state_group r
bare_written g p r true z e q =
    let k : p ≡ r = cc in
    zeros g z ∙ (e ∙ ap psu_state_group k)
bare_written g p r false z e q = absurd (cc)

providing_written : (g : Group) (r : PsuState) (o : Option ProviderPowerCapability) → provider_from g ≡ o → g.number ≡ 2 → Bytes g
    → providing o ≡ Some r → g ≡ psu_state_group r
providing_written g r None p e h q = absurd (cc)
providing_written g r (Some d) p e h q =
    let k : PsuState.ConnectedProvider d ≡ r = cc in
    provider_written g d h p ∙ (ap (λ (n : ℕ). provider_group n d) e ∙ ap psu_state_group k)

consuming_written : (g : Group) (r : PsuState) (o : Option ConsumerPowerCapability) → consumer_from g ≡ o → g.number ≡ 3 → Bytes g
    → consuming o ≡ Some r → g ≡ psu_state_group r
consuming_written g r None p e h q = absurd (cc)
consuming_written g r (Some d) p e h q =
    let k : PsuState.ConnectedConsumer d ≡ r = cc in
    consumer_written g d h p ∙ (ap (λ (n : ℕ). consumer_group n d) e ∙ ap psu_state_group k)

state_at_lem : (n : ℕ) (g : Group) (r : PsuState) → g.number ≡ n → Bytes g
    → get_or (state_cases g) n None ≡ Some r → g ≡ psu_state_group r
state_at_lem zero g r e h q = bare_written g PsuState.Detached r (all_zero g) refl (ap empty_group e) q
state_at_lem (suc zero) g r e h q = bare_written g PsuState.Idle r (all_zero g) refl (ap empty_group e) q
state_at_lem (suc (suc zero)) g r e h q = providing_written g r (provider_from g) refl e h q
state_at_lem (suc (suc (suc zero))) g r e h q = consuming_written g r (consumer_from g) refl e h q
state_at_lem (suc (suc (suc (suc n)))) g r e h q = absurd (cc)

-- the record is read from its three groups, each of which was written so
groups_written : (a b c : Group) (s : psu.State) (x : Option PsuState) (y : Option (Option ConsumerPowerCapability)) (z : Option (Option ProviderPowerCapability)) → Bytes a → Bytes b → Bytes c
    → psu_state_from a ≡ x → option_consumer_from b ≡ y → option_provider_from c ≡ z → psu_of x y z ≡ Some s
    → group_bytes a ++ (group_bytes b ++ group_bytes c) ≡ psu_bytes s
groups_written a b c s None y z ha hb hc p q r e = absurd (cc)
groups_written a b c s (Some u) None z ha hb hc p q r e = absurd (cc)
groups_written a b c s (Some u) (Some v) None ha hb hc p q r e =
    absurd (cc)
groups_written a b c s (Some u) (Some v) (Some w) ha hb hc p q r e =
    let k : record { psu_state = u; consumer_capability = v; requested_provider_capability = w } ≡ s = cc in
    let ea = state_at_lem a.number a u refl ha p in
    let eb = option_consumer_written b v hb q in
    let ec = option_provider_written c w hc r in
    (λ i. group_bytes (ea i) ++ (group_bytes (eb i) ++ group_bytes (ec i))) ∙ ap psu_bytes k

pub psu_write_read : (bs : List ℕ) (s : psu.State) → AllBytes bs → psu_from bs ≡ Some s → bs ≡ psu_bytes s
psu_write_read bs s h e =
    let x = psu_state_from (group_at bs 0) in
    let y = option_consumer_from (group_at bs 6) in
    let z = option_provider_from (group_at bs 12) in
    let t = whole bs 18 (psu_of x y z) None (Some s) (λ q. cc) e in
    sym (gets_all bs 18 t.0)
    ∙ groups_written (group_at bs 0) (group_at bs 6) (group_at bs 12) s x y z (group_bytes_lem bs 0 h) (group_bytes_lem bs 6 h) (group_bytes_lem bs 12 h) refl refl
    refl
    t.1

-- the charger record

internal_back : (s : InternalState) → internal_from (internal_number s) ≡ Some s
internal_back InternalState.Unpowered = refl
internal_back (InternalState.Powered PoweredSubstate.Init) = refl
internal_back (InternalState.Powered PoweredSubstate.PsuAttached) = refl
internal_back (InternalState.Powered PoweredSubstate.PsuDetached) = refl

pub charger_read_write : (s : charger.State) → charger_from (charger_bytes s) ≡ Some s
charger_read_write s =
    ap (λ (r : Option InternalState). charger_of r (option_consumer_from (option_consumer_group s.capability))) (internal_back s.state)
    ∙ ap (charger_of (Some s.state)) (option_consumer_back s.capability)

-- the byte of a state that was read, whatever for a refusal
internal_byte : Option InternalState → ℕ
internal_byte None = 4
internal_byte (Some s) = internal_number s

internal_written : (b : ℕ) (s : InternalState) → internal_from b ≡ Some s → b ≡ internal_number s
unfolding internal_byte
internal_written zero s e = ap internal_byte e
internal_written (suc zero) s e = ap internal_byte e
internal_written (suc (suc zero)) s e = ap internal_byte e
internal_written (suc (suc (suc zero))) s e = ap internal_byte e
internal_written (suc (suc (suc (suc b)))) s e = absurd (cc)

parts_written : (n : ℕ) (g : Group) (s : charger.State) (x : Option InternalState) (y : Option (Option ConsumerPowerCapability)) → Bytes g → internal_from n ≡ x
    → option_consumer_from g ≡ y → charger_of x y ≡ Some s → n ∷ group_bytes g ≡ charger_bytes s
parts_written n g s None y h p q e = absurd (cc)
parts_written n g s (Some u) None h p q e = absurd (cc)
parts_written n g s (Some u) (Some v) h p q e =
    let k : record { state = u; capability = v } ≡ s = cc in
    let en = internal_written n u p in
    let eg = option_consumer_written g v h q in
    (λ i. en i ∷ group_bytes (eg i)) ∙ ap charger_bytes k

pub charger_write_read : (bs : List ℕ) (s : charger.State) → AllBytes bs → charger_from bs ≡ Some s → bs ≡ charger_bytes s
charger_write_read bs s h e =
    let x = internal_from (get_or bs 0 0) in
    let y = option_consumer_from (group_at bs 1) in
    let t = whole bs 7 (charger_of x y) None (Some s) (λ q. cc) e in
    sym (gets_all bs 7 t.0) ∙ parts_written (get_or bs 0 0) (group_at bs 1) s x y (group_bytes_lem bs 1 h) refl refl t.1
