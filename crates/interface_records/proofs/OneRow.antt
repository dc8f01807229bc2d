-- A row has one encoding, since each of its records has: by induction on the number of records.
-- Assumes nothing.
use Rattle.std.specs.Prelude.{None, Option, Some}
use mathlib.Core.Path.{◌≡◌, refl, ap, sym, ◌∙◌}
use mathlib.Core.Bool.{Bool, true, false}
use mathlib.Core.List.{List, [], ◌∷◌, ◌++◌}
use Prim.Native.Nat.{ℕ, zero, suc, ◌+◌, ◌*◌, ◌<◌, ◌≤◌}
use native.Mathlib.Nat.{suc-mul, zero-mul}
use native.Mathlib.Omega.{arith}
use lib.Dec.{ltb, lit<}
use lib.ListN.{length, get_or, take, drop, length-drop, length-take, take-append-drop, get_or-eq_default}
use lib.Seq.{take_at, drop_at, get_or-drop, get_or-take}
use borrow.Author.Tests.{ltb-true, ltb-false}
use Rattle.power_policy_interface.specs.declared.charger.State as charger
use Rattle.power_policy_interface.specs.declared.psu.State as psu
use Rattle.interface_records.specs.Row.{AllBytes, cons_option, records, written}
use Rattle.interface_records.specs.Psu.{psu_bytes, psu_from}
use Rattle.interface_records.specs.Charger.{charger_bytes, charger_from}
use Rattle.interface_records.proofs.OneRecord.{psu_read_write, psu_write_read, charger_read_write, charger_write_read}

pub no_bytes : AllBytes []
no_bytes k = lit< tt

pub drop_bytes : (w : ℕ) (s : List ℕ) → AllBytes s → AllBytes (drop w s)
drop_bytes w s h k = rw get_or-drop (h (w + k))

take_tested : (w : ℕ) (s : List ℕ) (k : ℕ) (t : Bool) → ltb k w ≡ t → AllBytes s → get_or (take w s) k 0 < 256
take_tested w s k true e h = rw (get_or-take w s k 0 (ltb-true k w e)) (h k)
take_tested w s k false e h =
    let q : length (take w s) ≤ k = rw length-take (omega (arith, ltb-false k w e)) in
    rw (get_or-eq_default (take w s) 0 q) (lit< tt)

pub take_bytes_lem : (w : ℕ) (s : List ℕ) → AllBytes s → AllBytes (take w s)
take_bytes_lem w s h k = take_tested w s k (ltb k w) refl h

module _ {A : Type 0} (read : List ℕ → Option A) (write : A → List ℕ) (w : ℕ) where
  -- every record is written in w bytes, and read back
  pub back : ((a : A) → length (write a) ≡ w) → ((a : A) → read (write a) ≡ Some a) → (l : List A)
      → records read w (length l) (written write l) ≡ Some l
  back hw hr [] = refl
  back hw hr (a ∷ l) =
      rw (take_at (write a) (written write l) w (hw a), drop_at (write a) (written write l) w (hw a), hr a, back hw hr l)

  cons_told : (o : Option A) (r : Option (List A)) (l : List A) → cons_option o r ≡ Some l
      → (a : A) × (m : List A) × (o ≡ Some a) × (r ≡ Some m) × (l ≡ a ∷ m)
  cons_told None r l e = absurd (cc)
  cons_told (Some a) None l e = absurd (cc)
  cons_told (Some a) (Some m) l e = (a, m, refl, refl, (let k : l ≡ a ∷ m = cc in k))

  -- bytes that are read as a row were written so
  pub forth : ((s : List ℕ) (a : A) → AllBytes s → read s ≡ Some a → s ≡ write a) → (n : ℕ) (s : List ℕ) (l : List A)
      → length s ≡ n * w → AllBytes s → records read w n s ≡ Some l → (s ≡ written write l) × (length l ≡ n)
  forth hs zero [] l e h q = (let k : l ≡ [] = cc in rw k, (let k : l ≡ [] = cc in rw k))
  forth hs zero (x ∷ s) l e h q = absurd (omega (arith, rw zero-mul at e))
  forth hs (suc n) s l e h q =
      let f : length s ≡ n * w + w = e ∙ suc-mul n w in
      let c = cons_told (read (take w s)) (records read w n (drop w s)) l q in
      let d : length (drop w s) ≡ n * w = rw length-drop (omega arith) in
      let r = forth hs n (drop w s) c.1 d (drop_bytes w s h) c.3 in
      let a = hs (take w s) c.0 (take_bytes_lem w s h) c.2 in
      let p : s ≡ write c.0 ++ written write c.1 = sym (take-append-drop w s) ∙ (λ i. a i ++ r.0 i) in
      (p ∙ ap (written write) (sym c.4), ap length c.4 ∙ ap suc r.1)

pub psus_read_write : (l : List psu.State) → records psu_from 18 (length l) (written psu_bytes l) ≡ Some l
psus_read_write l = back psu_from psu_bytes 18 (λ p. refl) psu_read_write l

pub psus_write_read : (n : ℕ) (s : List ℕ) (l : List psu.State) → length s ≡ n * 18 → AllBytes s
    → records psu_from 18 n s ≡ Some l → (s ≡ written psu_bytes l) × (length l ≡ n)
psus_write_read n s l e h q =
    forth psu_from psu_bytes 18 psu_write_read n s l e h q

pub chargers_read_write : (l : List charger.State)
    → records charger_from 7 (length l) (written charger_bytes l) ≡ Some l
chargers_read_write l = back charger_from charger_bytes 7 (λ p. refl) charger_read_write l

pub chargers_write_read : (n : ℕ) (s : List ℕ) (l : List charger.State) → length s ≡ n * 7 → AllBytes s
    → records charger_from 7 n s ≡ Some l → (s ≡ written charger_bytes l) × (length l ≡ n)
chargers_write_read n s l e h q =
    forth charger_from charger_bytes 7 charger_write_read n s l e h q
