-- The tests by bytes: they hold exactly where the bytes are read. Of a notice, of a place of a count, of the four places of a slot
-- and of the packet.
-- Assumes nothing.
use Rattle.std.specs.Prelude.{None, Option, Some}
use mathlib.Core.Path.{◌≡◌, refl, ap, sym, ◌∙◌}
use mathlib.Core.Bool.{Bool, true, false, cond, ◌&&◌}
use mathlib.Core.List.{List}
use Prim.Native.Nat.{ℕ, zero, suc, ◌+◌, ◌/◌, ◌%◌}
use native.Mathlib.Nat.{add-zero}
use native.Mathlib.Omega.{arith}
use lib.Dec.{eqb, leb, ltb}
use lib.ListN.{get_or}
use borrow.Author.Tests.{eqb-true, eq-eqb, leb-true, le-leb, lt-leb}
use Rattle.power_policy_interface.specs.Capability.{disconnect_from, psu_type_from}
use Rattle.power_policy_interface.specs.declared.capability.PowerCapability.{PowerCapability}
use Rattle.power_policy_interface.specs.declared.capability.ConsumerFlags.{ConsumerFlags}
use Rattle.power_policy_interface.specs.declared.capability.ProviderFlags.{ProviderFlags}
use Rattle.interface_display.specs.declared.notices.Notices.{Notices}
use Rattle.power_policy_interface.specs.declared.service.event.Event.{Event}
use Rattle.interface_records.specs.Group.{all_zero, capability_from, consumer_with, provider_with}
use Rattle.interface_records.specs.declared.group.Group.{Group}
use Rattle.interface_display.specs.Notices.{filler}
use Rattle.bytes_groups.specs.Tagged.{tagged_at, no_group}
use Rattle.bytes_groups.specs.declared.tagged.Tagged.{Tagged}
use Rattle.bytes_follower_image.specs.declared.notice.Tested.{Tested}
use Rattle.bytes_follower_image.specs.Notice.{rest_zero, reason_read, consumer_read, provider_read, notice_cases, notice_from, is_zero, place_from, is_notice, four_bytes, pair_fits, tested_at, kind_cases, bytes_fit, bytes_zero}
use Rattle.bytes_follower_image.specs.Slot.{notices_of, are_notices, packet_of, is_read}
use Rattle.std.proofs.lemmas.Bool.{and_parts}

-- two tests agree where each holds if the other does
both : (a b : Bool) → (a ≡ true → b ≡ true) → (b ≡ true → a ≡ true) → a ≡ b
both true b f g = sym (f refl)
both false true f g = g refl
both false false f g = refl

-- a test, and what is then read

given : (b : Bool) (e : Event) → b ≡ is_notice (cond b (Some e) None)
given true e = refl
given false e = refl

before : (b y : Bool) (x : Option Event) → y ≡ is_notice x → (b && y) ≡ is_notice (cond b x None)
before true y x e = e
before false y x e = refl

after : (b y : Bool) (x : Option Event) → y ≡ is_notice x → (y && b) ≡ is_notice (cond b x None)
after true true x e = e
after true false x e = e
after false true x e = refl
after false false x e = refl

-- four bytes as a number are 0 where their sum is
module _ (g : Group) where
  abbrev rest : ℕ
  rest = four_bytes g.v1 g.c0 g.c1 g.flags

  rest_tested : eqb rest 0 ≡ rest_zero g
  rest_tested =
      both (eqb rest 0) (rest_zero g)
      (λ e. eq-eqb (g.v1 + g.c0 + g.c1 + g.flags) 0 (omega (arith, eqb-true rest 0 e)))
      (λ e. eq-eqb rest 0 (omega (arith, eqb-true (g.v1 + g.c0 + g.c1 + g.flags) 0 e)))

  all_tested : pair_fits g.v0 0 rest ≡ all_zero g
  all_tested =
      both (pair_fits g.v0 0 rest) (all_zero g)
      (λ e. eq-eqb (g.v0 + g.v1 + g.c0 + g.c1 + g.flags) 0
      (omega (arith, leb-true g.v0 0 (and_parts (leb g.v0 0) (eqb rest 0) e).0, eqb-true rest 0 (and_parts (leb g.v0 0) (eqb rest 0) e).1)))
      (λ e. let z = eqb-true (g.v0 + g.v1 + g.c0 + g.c1 + g.flags) 0 e in
      rw (le-leb g.v0 0 (omega arith), eq-eqb rest 0 (omega arith)))

-- the kinds

reason : (port v : ℕ) → leb v 6 ≡ is_notice (reason_read port (disconnect_from v))
reason port zero = refl
reason port (suc zero) = refl
reason port (suc (suc zero)) = refl
reason port (suc (suc (suc zero))) = refl
reason port (suc (suc (suc (suc zero)))) = refl
reason port (suc (suc (suc (suc (suc zero))))) = refl
reason port (suc (suc (suc (suc (suc (suc zero)))))) = refl
reason port (suc (suc (suc (suc (suc (suc (suc v))))))) = lt-leb (suc (suc (suc (suc (suc (suc (suc v))))))) 6 (omega arith)

consumer : (port : ℕ) (c : PowerCapability) (f : ConsumerFlags) (b : Bool)
    → b ≡ is_notice (consumer_read port (consumer_with c (cond b (Some f) None)))
consumer port c f true = refl
consumer port c f false = refl

provider : (port : ℕ) (c : PowerCapability) (f : ProviderFlags) (a b : Bool)
    → cond a false b ≡ is_notice (provider_read port (provider_with c (cond a None (cond b (Some f) None))))
provider port c f true b = refl
provider port c f false true = refl
provider port c f false false = refl

-- the seven bytes as they are tested
abbrev tested : Tagged → Tested
tested t = record { kind = t.tag; port = t.group.number; v = t.group.v0; rest = rest t.group; flags = t.group.flags }

kind_tested : (n : ℕ) (g : Group)
    → get_or (kind_cases (tested (record { tag = n; group = g }))) n false ≡ is_notice (get_or (notice_cases g) n None)
kind_tested zero g = refl
kind_tested (suc zero) g = rw (rest_tested g) (after (rest_zero g) (leb g.v0 6) (reason_read g.number (disconnect_from g.v0)) (reason g.number g.v0))
kind_tested (suc (suc zero)) g =
    consumer g.number (capability_from g)
    (record { unconstrained_power = eqb (g.flags % 2) 1; psu_type = psu_type_from (g.flags / 2) })
    (leb (g.flags / 2) 6)
kind_tested (suc (suc (suc zero))) g = all_tested g ∙ given (all_zero g) (Event.ProviderDisconnected g.number)
kind_tested (suc (suc (suc (suc zero)))) g =
    provider g.number (capability_from g) (record { psu_type = psu_type_from (g.flags / 2) }) (eqb (g.flags % 2) 1)
    (leb (g.flags / 2) 6)
kind_tested (suc (suc (suc (suc (suc zero))))) g =
    rw (rest_tested g)
    (given (leb g.number 1 && (leb g.v0 16 && rest_zero g))
    (Event.Unconstrained (record { unconstrained = eqb g.number 1; available = g.v0 })))
kind_tested (suc (suc (suc (suc (suc (suc n)))))) g = refl

notice_tested : (t : Tagged) → bytes_fit (tested t) ≡ is_notice (notice_from t)
notice_tested t =
    before (leb t.group.number 15) (get_or (kind_cases (tested t)) t.tag false) (get_or (notice_cases t.group) t.tag None)
    (kind_tested t.tag t.group)

zeros_tested : (t : Tagged) → bytes_zero (tested t) ≡ is_zero t
zeros_tested t =
    let g = t.group in
    let s = t.tag + g.number + g.v0 + rest g in
    let five = g.v0 + g.v1 + g.c0 + g.c1 + g.flags in
    both (eqb s 0) (is_zero t)
    (λ e. let z = eqb-true s 0 e in
    rw (eq-eqb t.tag 0 (omega arith), eq-eqb g.number 0 (omega arith), eq-eqb five 0 (omega arith)))
    (λ e. let r = (and_parts (eqb t.tag 0) (no_group g) e).1 in
    let k = eqb-true t.tag 0 (and_parts (eqb t.tag 0) (no_group g) e).0 in
    let n = eqb-true g.number 0 (and_parts (eqb g.number 0) (all_zero g) r).0 in
    let f = eqb-true five 0 (and_parts (eqb g.number 0) (all_zero g) r).1 in
    eq-eqb s 0 (omega arith))

-- the seven bytes at a place of a slot
module _ (s : List ℕ) (at count k : ℕ) where
  first : get_or s (at + 0) 0 ≡ get_or s at 0
  first = ap (λ (i : ℕ). get_or s i 0) (add-zero at)

  same : tested_at s at ≡ tested (tagged_at s at)
  same = ap (λ (n : ℕ). record (tested_at s at) { kind = n }) (sym first)

  pub place_meant : ltb k count ≡ true → bytes_fit (tested_at s at) ≡ is_notice (place_from count k (tagged_at s at))
  place_meant l = rw l (ap bytes_fit same ∙ notice_tested (tagged_at s at))

  pub place_past : ltb k count ≡ false → bytes_zero (tested_at s at) ≡ is_notice (place_from count k (tagged_at s at))
  place_past l = rw l (ap bytes_zero same ∙ (zeros_tested (tagged_at s at) ∙ given (is_zero (tagged_at s at)) filler))

-- tests one after the other: one that holds leaves the rest, one that fails decides

pub passed : (p q r : Bool) → p ≡ true → r ≡ q → r ≡ (p && q)
passed p q r e f = rw e f

pub stopped : (p q : Bool) → p ≡ false → false ≡ (p && q)
stopped p q e = rw e

pub notices_tested : (count : ℕ) (a b c d : Option Event)
    → (is_notice a && (is_notice b && (is_notice c && (is_notice d && true)))) ≡ are_notices (notices_of count a b c d)
notices_tested count None b c d = refl
notices_tested count (Some a) None c d = refl
notices_tested count (Some a) (Some b) None d = refl
notices_tested count (Some a) (Some b) (Some c) None = refl
notices_tested count (Some a) (Some b) (Some c) (Some d) = refl

pub packet_tested : (h : Bool) (number answer orders : ℕ) (n : Option Notices)
    → (h && are_notices n) ≡ is_read (cond h (packet_of number answer orders n) None)
packet_tested false number answer orders n = refl
packet_tested true number answer orders None = refl
packet_tested true number answer orders (Some n) = refl
