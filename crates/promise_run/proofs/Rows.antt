-- Records that are read from bytes have their figures within 16 bits, each being of two bytes; and so have the default records, which have no
-- figures.
use Rattle.std.specs.Prelude.{None, Option, Some}
use Rattle.std.specs.Option.{option_map}
use mathlib.Core.Path.{◌≡◌, subst}
use mathlib.Core.Bool.{Bool, true, false, cond, ◌&&◌}
use mathlib.Core.List.{List, [], ◌∷◌, ◌++◌}
use Rattle.power_policy_interface.specs.declared.capability.ConsumerFlags.{ConsumerFlags}
use Rattle.power_policy_interface.specs.declared.capability.ConsumerPowerCapability.{ConsumerPowerCapability}
use Rattle.power_policy_interface.specs.declared.capability.ProviderFlags.{ProviderFlags}
use Rattle.power_policy_interface.specs.declared.capability.ProviderPowerCapability.{ProviderPowerCapability}
use Rattle.power_policy_interface.specs.declared.psu.PsuState.{PsuState}
use Prim.Native.Nat.{ℕ, zero, suc, ◌-◌, ◌*◌}
use native.Mathlib.Omega.{arith}
use lib.Dec.{leb, eqb}
use lib.ListN.{length, get_or, take, drop, replicate}
use borrow.Author.Tests.{le-leb}
use Rattle.power_policy_interface.specs.Psu.{default_state}
use Rattle.power_policy_interface.specs.Capability.{consumer_flags_from, provider_flags_from, capability_fits}
use Rattle.power_policy_interface.specs.declared.charger.State as charger
use Rattle.power_policy_interface.specs.declared.psu.State.{State}
use Rattle.interface_records.specs.Group.{group_at, capability_from, all_zero, consumer_with, consumer_from, provider_with, provider_from, present, option_cases, option_consumer_from, option_provider_from}
use Rattle.interface_records.specs.Psu.{psu_state_from, psu_of, psu_from, psu_row}
use Rattle.interface_records.specs.Row.{AllBytes, cons_option, records, filled}
use Rattle.interface_records.specs.declared.group.Group.{Group}
use Rattle.interface_records.proofs.Groups.{Bytes}
use Rattle.interface_records.proofs.OneRecord.{group_bytes_lem}
use Rattle.power_policy_service.specs.Rows.{psu_at}
use Rattle.promise_run.specs.Sized.{OfferFits, RequestFits, PsuFits, RecordsFit}
use Rattle.std.proofs.lemmas.Bool.{and_from}
use Rattle.interface_records.proofs.OneRow.{drop_bytes, take_bytes_lem}

-- a group

group_fits : (g : Group) → Bytes g → capability_fits (capability_from g) ≡ true
group_fits g b =
    and_from (leb (capability_from g).voltage_mv 65535) (leb (capability_from g).current_ma 65535)
    (le-leb (capability_from g).voltage_mv 65535 (omega (arith, b.v0, b.v1)))
    (le-leb (capability_from g).current_ma 65535 (omega (arith, b.c0, b.c1)))

abbrev ConsumerRead : Option (Option ConsumerPowerCapability) → Type 0
ConsumerRead None = Unit {0}
ConsumerRead (Some c) = OfferFits c

abbrev ProviderRead : Option (Option ProviderPowerCapability) → Type 0
ProviderRead None = Unit {0}
ProviderRead (Some c) = RequestFits c

consumer_fits_lem : (g : Group) → Bytes g → (n : ℕ) → ConsumerRead (get_or (option_cases consumer_from g) n None)
consumer_fits_lem g b zero = go (all_zero g)
  where
    go : (z : Bool) → ConsumerRead (cond z (Some None) None)
    go true = tt
    go false = tt
consumer_fits_lem g b (suc zero) = go (consumer_flags_from g.flags)
  where
    go : (f : Option ConsumerFlags) → ConsumerRead (present (consumer_with (capability_from g) f))
    go None = tt
    go (Some f) = group_fits g b
consumer_fits_lem g b (suc (suc n)) = tt

provider_fits_lem : (g : Group) → Bytes g → (n : ℕ) → ProviderRead (get_or (option_cases provider_from g) n None)
provider_fits_lem g b zero = go (all_zero g)
  where
    go : (z : Bool) → ProviderRead (cond z (Some None) None)
    go true = tt
    go false = tt
provider_fits_lem g b (suc zero) = go (provider_flags_from g.flags)
  where
    go : (f : Option ProviderFlags) → ProviderRead (present (provider_with (capability_from g) f))
    go None = tt
    go (Some f) = group_fits g b
provider_fits_lem g b (suc (suc n)) = tt

-- a record

abbrev Fit : Option State → Type 0
Fit None = Unit {0}
Fit (Some s) = PsuFits s

psu_fit : (s : Option PsuState) (c : Option (Option ConsumerPowerCapability)) (p : Option (Option ProviderPowerCapability)) → ConsumerRead c → ProviderRead p → Fit (psu_of s c p)
psu_fit None c p x y = tt
psu_fit (Some s) None p x y = tt
psu_fit (Some s) (Some c) None x y = tt
psu_fit (Some s) (Some c) (Some p) x y = (x, y)

read_fits : (b : List ℕ) → AllBytes b → Fit (psu_from b)
read_fits b h = go (eqb (length b) 18)
  where
    whole : Option State
    whole = psu_of (psu_state_from (group_at b 0)) (option_consumer_from (group_at b 6)) (option_provider_from (group_at b 12))

    go : (t : Bool) → Fit (cond t whole None)
    go true =
        psu_fit (psu_state_from (group_at b 0)) (option_consumer_from (group_at b 6)) (option_provider_from (group_at b 12))
        (consumer_fits_lem (group_at b 6) (group_bytes_lem b 6 h) (group_at b 6).number) (provider_fits_lem (group_at b 12) (group_bytes_lem b 12 h) (group_at b 12).number)
    go false = tt

-- a row

abbrev AllFit : List State → Type 0
AllFit [] = Unit {0}
AllFit (s ∷ l) = PsuFits s × AllFit l

abbrev RowFit : Option (List State) → Type 0
RowFit None = Unit {0}
RowFit (Some l) = AllFit l

cons_fits : (s : Option State) (l : Option (List State)) → Fit s → RowFit l → RowFit (cons_option s l)
cons_fits None l x y = tt
cons_fits (Some s) None x y = tt
cons_fits (Some s) (Some l) x y = (x, y)

records_fit : (n : ℕ) (b : List ℕ) → AllBytes b → RowFit (records psu_from 18 n b)
records_fit zero b h = tt
records_fit (suc n) b h =
    cons_fits (psu_from (take 18 b)) (records psu_from 18 n (drop 18 b))
    (read_fits (take 18 b) (take_bytes_lem 18 b h)) (records_fit n (drop 18 b) (drop_bytes 18 b h))

default_fits : (n : ℕ) → AllFit (replicate n default_state)
default_fits zero = tt
default_fits (suc n) = ((tt, tt), default_fits n)

append_fits : (l m : List State) → AllFit l → AllFit m → AllFit (l ++ m)
append_fits [] m x y = y
append_fits (s ∷ l) m x y = (x.0, append_fits l m x.1 y)

filled_fits : (o : Option (List State)) → RowFit o → RowFit (option_map (filled 16 default_state) o)
filled_fits None x = tt
filled_fits (Some l) x = append_fits l (replicate (16 - length l) default_state) x (default_fits (16 - length l))

at_fits : (l : List State) → AllFit l → (p : ℕ) → PsuFits (psu_at l p)
at_fits [] x p = (tt, tt)
at_fits (s ∷ l) x zero = x.0
at_fits (s ∷ l) x (suc p) = at_fits l x.1 p

row_read : (ports : ℕ) (b : List ℕ) → AllBytes b → RowFit (psu_row ports b)
row_read ports b h = go (leb ports 16 && eqb (length b) (ports * 18))
  where
    go : (t : Bool) → RowFit (option_map (filled 16 default_state) (cond t (records psu_from 18 ports b) None))
    go true = filled_fits (records psu_from 18 ports b) (records_fit ports b h)
    go false = tt

-- whatever the chargers' records are
pub row_fits : (ports : ℕ) (b : List ℕ) (psus : List State) (chargers : List charger.State) → AllBytes b → psu_row ports b ≡ Some psus →
    RecordsFit (record { psus = psus; chargers = chargers })
row_fits ports b psus chargers h e p l = at_fits psus (subst RowFit e (row_read ports b h)) p
