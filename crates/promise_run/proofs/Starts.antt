-- A start that is accepted gives a fresh service, with every figure within its type: each test that would have turned it back has failed.
use Rattle.std.specs.Prelude.{Err, None, Ok, Option, Result, Some}
use mathlib.Core.Path.{◌≡◌, refl, sym, subst}
use mathlib.Core.Bool.{Bool, true, false, cond, ◌&&◌, ◌||◌}
use Prim.Native.Nat.{ℕ, ◌≤◌}
use lib.Dec.{leb, ltb, eqb}
use borrow.Author.Tests.{leb-true, ltb-false}
use Rattle.power_policy_interface.specs.Capability.{capability_fits}
use Rattle.power_policy_interface.specs.declared.capability.PowerCapability.{PowerCapability}
use Rattle.power_policy_service.specs.Config.{minimum_from, config_with, config_from, ConfigFits, MinimumFits}
use Rattle.power_policy_service.specs.declared.config.Config.{Config}
use Rattle.abstract_policy.specs.Refusals.{over_type}
use Rattle.abstract_policy.specs.Chosen.{Choices}
use Rattle.abstract_policy.proofs.Chosen.{run_chooses}
use Rattle.machine_service.specs.Service.{start_with, start_of, fresh_service}
use Rattle.machine_service.specs.declared.Service.{Service}
use Rattle.promise_run.specs.Sized.{StartFits}

-- the configuration

abbrev ReadFits : Option (Option ℕ) → Type 0
ReadFits None = Unit {0}
ReadFits (Some m) = MinimumFits m

minimum_fits : (presence minimum : ℕ) → ReadFits (minimum_from presence minimum)
minimum_fits presence minimum = go (eqb presence 0) (leb presence 1) (leb minimum 4294967295) refl
  where
    go : (x y z : Bool) → leb minimum 4294967295 ≡ z →
        ReadFits (cond x (Some None) (cond y (cond z (Some (Some minimum)) None) None))
    go true y z e = tt
    go false true true e = leb-true minimum 4294967295 e
    go false true false e = tt
    go false false z e = tt

abbrev OptionFits : Option Config → Type 0
OptionFits None = Unit {0}
OptionFits (Some c) = ConfigFits c

with_fits : (t : ℕ) (u l : PowerCapability) (m : Option (Option ℕ)) → t ≤ 4294967295 → capability_fits u ≡ true → capability_fits l ≡ true → ReadFits m → OptionFits (config_with t u l m)
with_fits t u l None a b c d = tt
with_fits t u l (Some m) a b c d = record { threshold = a; unlimited = b; limited = c; minimum = d }

config_fits : (t uv ua lv la presence minimum : ℕ) → OptionFits (config_from t uv ua lv la presence minimum)
config_fits t uv ua lv la presence minimum = go (leb t 4294967295) refl (leb uv 65535) refl (leb ua 65535) refl (leb lv 65535) refl (leb la 65535) refl
  where
    unlimited : PowerCapability
    unlimited = record { voltage_mv = uv; current_ma = ua }

    limited : PowerCapability
    limited = record { voltage_mv = lv; current_ma = la }

    go : (a : Bool) → leb t 4294967295 ≡ a → (b : Bool) → leb uv 65535 ≡ b → (c : Bool) → leb ua 65535 ≡ c → (d : Bool) → leb lv 65535 ≡ d → (e : Bool) → leb la 65535 ≡ e →
        OptionFits (cond (a && (b && (c && (d && e)))) (config_with t unlimited limited (minimum_from presence minimum)) None)
    go true x true y true z true v true w =
        with_fits t unlimited limited (minimum_from presence minimum) (leb-true t 4294967295 x) (rw (y, z)) (rw (v, w)) (minimum_fits presence minimum)
    go true x true y true z true v false w = tt
    go true x true y true z false v e w = tt
    go true x true y false z d v e w = tt
    go true x false y c z d v e w = tt
    go false x b y c z d v e w = tt

-- the start

abbrev ServiceIs : Service → Result Service ℕ → Type 0
ServiceIs s (Ok t) = t ≡ s
ServiceIs s (Err n) = ⊥

module _ (ports chargers : ℕ) (s : Service) where
  accepted : (o : Option Config) → OptionFits o → (x : Bool) → ltb 16 ports ≡ x → (y : Bool) → ltb 8 chargers ≡ y →
      ServiceIs s (cond (eqb (cond (x || (y || over_type o)) 20 0) 0) (start_with o ports chargers) (Err (cond (x || (y || over_type o)) 20 0))) →
      StartFits ports chargers s
  accepted (Some c) f false ex false ey e = record {
    config = c;
    fresh = sym e;
    few_ports = ltb-false 16 ports ex;
    few_chargers = ltb-false 8 chargers ey;
    figures = f;
  }
  accepted (Some c) f false ex true ey e = absurd e
  accepted (Some c) f true ex y ey e = absurd e
  accepted None f false ex false ey e = absurd e
  accepted None f false ex true ey e = absurd e
  accepted None f true ex y ey e = absurd e

pub start_fits : (threshold unlimited_mv unlimited_ma limited_mv limited_ma presence minimum ports chargers : ℕ) (s : Service) →
    start_of (config_from threshold unlimited_mv unlimited_ma limited_mv limited_ma presence minimum) ports chargers ≡ Ok s → StartFits ports chargers s
start_fits t uv ua lv la presence minimum ports chargers s e =
    accepted ports chargers s (config_from t uv ua lv la presence minimum) (config_fits t uv ua lv la presence minimum) (ltb 16 ports) refl (ltb 8 chargers) refl
    (subst (ServiceIs s) (sym e) refl)

-- after every start that is accepted, what is chosen is what DEM-2c says
pub start_chooses : (threshold unlimited_mv unlimited_ma limited_mv limited_ma presence minimum ports chargers : ℕ) (s : Service) →
    start_of (config_from threshold unlimited_mv unlimited_ma limited_mv limited_ma presence minimum) ports chargers ≡ Ok s →
    Choices s.registration
start_chooses threshold unlimited_mv unlimited_ma limited_mv limited_ma presence minimum ports chargers s e =
    let f : StartFits ports chargers s = start_fits threshold unlimited_mv unlimited_ma limited_mv limited_ma presence minimum ports chargers s e in
    subst (λ (x : Service). Choices x.registration) (sym f.fresh) (run_chooses (fresh_service f.config ports chargers).registration f.few_ports)
