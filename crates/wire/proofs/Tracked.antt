-- The ports of a mask, rising, are read back to the mask: the mask is the sum of its bits, the lowest first, and there are as many
-- ports as bits are set. With that a full picture is read back, field by field.
-- Assumes nothing.
use Rattle.std.specs.Prelude.{None, Option, Some}
use mathlib.Core.Path.{◌≡◌, refl, ap, sym, ◌∙◌}
use mathlib.Core.Bool.{Bool, true, false, cond}
use mathlib.Core.List.{List, [], ◌∷◌, ◌++◌, append-nil}
use Prim.Native.Nat.{ℕ, zero, suc, ◌+◌, ◌*◌, ◌/◌, ◌%◌, ◌^◌, ◌≤◌, ◌<◌}
use native.Mathlib.Nat.{add_assoc, add-zero, zero-add, mul-zero, mul-one, mul-add, add-mul, div-one, div-div-eq-div-mul, pow-succ', two-pow-succ, le_refl}
use native.Mathlib.Numerals.{one-add}
use native.Mathlib.Omega.{arith}
use lib.Dec.{eqb, leb, ltb}
use lib.ListN.{length}
use borrow.Author.Tests.{le-leb, leb-true, ltb-true, eqb-true, eqb-false}
use Rattle.power_policy_interface.specs.Capability.{consumer_flags_byte}
use Rattle.std.proofs.lemmas.Bool.{and_parts}
use Rattle.interface_display.specs.Providers.{bit_at, ones, len}
use Rattle.interface_display.specs.declared.AvailableConsumer.{AvailableConsumer}
use Rattle.interface_display.specs.declared.packet.Packet.{Packet}
use Rattle.interface_display.specs.declared.packet.Picture.{Picture}
use Rattle.interface_display.specs.declared.providers.Providers.{Providers}
use Rattle.wire.specs.Parser.{parsed, then, field}
use Rattle.wire.specs.Packet.{ports, consumer_given, picture_after, picture, packet_of, packet}
use Rattle.wire.specs.Bytes.{ports_from, ports_bytes, contract_bytes, consumer_bytes, picture_bytes, unconstrained_bytes}
use Rattle.wire.specs.WellFormed.{consumer_fits, picture_fits}
use Rattle.wire.proofs.OneNumber.{number_back}
use Rattle.wire.proofs.ReadWrite.{field_back, consumer_back, unconstrained_back}

-- how many there are

bit_next : (m n : ℕ) → bit_at m (suc n) ≡ bit_at (m / 2) n
bit_next m n = ap (λ (k : ℕ). m / k % 2) (pow-succ' 2 n) ∙ ap (λ (k : ℕ). k % 2) (sym (div-div-eq-div-mul m 2 (2 ^ n)))

ones_first : (m n : ℕ) → ones m (suc n) ≡ m % 2 + ones (m / 2) n
ones_first m zero = rw (div-one m) (zero-add (m % 2) ∙ sym (add-zero (m % 2)))
ones_first m (suc n) =
    (λ i. ones_first m n i + bit_next m n i) ∙ add_assoc (m % 2) (ones (m / 2) n) (bit_at (m / 2) n)

pub count_ports : (n p m : ℕ) → length (ports_from n p m) ≡ ones m n
count_ports zero p m = refl
count_ports (suc n) p m = tested (eqb (m % 2) 1) refl (count_ports n (suc p) (m / 2))
  where
    tested : (t : Bool) → eqb (m % 2) 1 ≡ t → length (ports_from n (suc p) (m / 2)) ≡ ones (m / 2) n
        → length (cond t (p ∷ ports_from n (suc p) (m / 2)) (ports_from n (suc p) (m / 2))) ≡ ones m (suc n)
    tested true e q =
        let f : m % 2 ≡ 1 = eqb-true (m % 2) 1 e in
        ap suc q ∙ (sym (one-add (ones (m / 2) n)) ∙ (ap (λ (k : ℕ). k + ones (m / 2) n) (sym f) ∙ sym (ones_first m n)))
    tested false e q =
        let g = eqb-false (m % 2) 1 e in
        let f : m % 2 ≡ 0 = omega arith in
        q ∙ (sym (zero-add (ones (m / 2) n)) ∙ (ap (λ (k : ℕ). k + ones (m / 2) n) (sym f) ∙ sym (ones_first m n)))

-- what they make

unfoldable pub add_all : List ℕ → ℕ → ℕ
add_all [] m = m
add_all (q ∷ l) m = add_all l (2 ^ q + m)

pub odd : (x y a m : ℕ) → m ≡ 1 + (y + y) → x + a + (x + x) * y ≡ a + x * m
odd x y a m e = rw (e, add-mul x x y, mul-add x 1 (y + y), mul-add x y y, mul-one x) (omega arith)

pub even : (x y a m : ℕ) → m ≡ y + y → a + (x + x) * y ≡ a + x * m
even x y a m e = rw (e, add-mul x x y, mul-add x y y)

sum_ports : (n p m a : ℕ) → m < 2 ^ n → add_all (ports_from n p m) a ≡ a + 2 ^ p * m
unfolding add_all
sum_ports zero p m a h =
    let z : m ≡ 0 = omega arith in
    rw (z, mul-zero (2 ^ p)) (sym (add-zero a))
sum_ports (suc n) p m a h =
    let k : m / 2 < 2 ^ n = omega (arith, rw two-pow-succ at h) in
    tested (eqb (m % 2) 1) refl (sum_ports n (suc p) (m / 2) (2 ^ p + a) k) (sum_ports n (suc p) (m / 2) a k)
  where
    tested : (t : Bool) → eqb (m % 2) 1 ≡ t
        → add_all (ports_from n (suc p) (m / 2)) (2 ^ p + a) ≡ 2 ^ p + a + 2 ^ suc p * (m / 2)
        → add_all (ports_from n (suc p) (m / 2)) a ≡ a + 2 ^ suc p * (m / 2)
        → add_all (cond t (p ∷ ports_from n (suc p) (m / 2)) (ports_from n (suc p) (m / 2))) a ≡ a + 2 ^ p * m
    tested true e q r =
        let f : m % 2 ≡ 1 = eqb-true (m % 2) 1 e in
        let g : m ≡ 1 + (m / 2 + m / 2) = omega arith in
        q ∙ (ap (λ (k : ℕ). 2 ^ p + a + k * (m / 2)) (two-pow-succ p) ∙ odd (2 ^ p) (m / 2) a m g)
    tested false e q r =
        let f = eqb-false (m % 2) 1 e in
        let g : m ≡ m / 2 + m / 2 = omega arith in
        r ∙ (ap (λ (k : ℕ). a + k * (m / 2)) (two-pow-succ p) ∙ even (2 ^ p) (m / 2) a m g)

ports_back : (n p m low a : ℕ) (r : List ℕ) → low ≤ p → p + n ≤ 16
    → ports (length (ports_from n p m)) low a (ports_from n p m ++ r) ≡ parsed (record { mask = add_all (ports_from n p m) a }) r
unfolding add_all
ports_back zero p m low a r h k = refl
ports_back (suc n) p m low a r h k =
    let k1 : suc p + n ≤ 16 = omega arith in
    let h1 : low ≤ suc p = omega arith in
    tested (eqb (m % 2) 1) (ports_back n (suc p) (m / 2) (suc p) (2 ^ p + a) r (le_refl (suc p)) k1) (ports_back n (suc p) (m / 2) low a r h1 k1)
  where
    tested : (t : Bool)
        → ports (length (ports_from n (suc p) (m / 2))) (suc p) (2 ^ p + a) (ports_from n (suc p) (m / 2) ++ r)
        ≡ parsed (record { mask = add_all (ports_from n (suc p) (m / 2)) (2 ^ p + a) }) r
        → ports (length (ports_from n (suc p) (m / 2))) low a (ports_from n (suc p) (m / 2) ++ r)
        ≡ parsed (record { mask = add_all (ports_from n (suc p) (m / 2)) a }) r
        → ports (length (cond t (p ∷ ports_from n (suc p) (m / 2)) (ports_from n (suc p) (m / 2)))) low a
        (cond t (p ∷ ports_from n (suc p) (m / 2)) (ports_from n (suc p) (m / 2)) ++ r)
        ≡ parsed (record { mask = add_all (cond t (p ∷ ports_from n (suc p) (m / 2)) (ports_from n (suc p) (m / 2))) a }) r
    tested true q s =
        let f : p ≤ 15 = omega arith in
        rw (le-leb low p h, le-leb p 15 f) q
    tested false q s = s

tracked : (n m : ℕ) → n ≤ 16 → m < 2 ^ n → ports (ones m n) 0 0 (ports_from n 0 m) ≡ parsed (record { mask = m }) []
tracked n m h k =
    let e : add_all (ports_from n 0 m) 0 ≡ m = sum_ports n 0 m 0 k ∙ omega arith in
    ap (λ (j : ℕ). ports j 0 0 (ports_from n 0 m)) (sym (count_ports n 0 m))
    ∙ (ap (ports (length (ports_from n 0 m)) 0 0) (sym (append-nil (ports_from n 0 m)))
    ∙ (ports_back n 0 m 0 0 [] (omega arith) (omega arith) ∙ ap (λ (j : ℕ). parsed (record { mask = j }) []) e))

pub tracked_back : (q : Providers) → q.mask < 65536 → ports (len q) 0 0 (ports_bytes q.mask) ≡ parsed q []
unfolding ports_bytes
tracked_back q h = tracked 16 q.mask (omega arith) h

-- a full picture

module _ (n : ℕ) (r : List ℕ) where
  pub option_back : (c : Option AvailableConsumer) → consumer_fits c ≡ true
      → then (field 1 (consumer_bytes c ++ r)) (λ b s. then (consumer_given b s) (picture_after n)) ≡ picture_after n c r
  unfolding consumer_bytes
  option_back None h = rw (field_back 1 0 r refl)
  option_back (Some c) h =
      rw (field_back 1 1 (contract_bytes c.psu c.consumer_power_capability.capability (consumer_flags_byte c.consumer_power_capability.flags) ++ r) refl, consumer_back c.psu c.consumer_power_capability.capability r h c.consumer_power_capability.flags)

pub picture_read_write : (p : Picture) → picture_fits p ≡ true → packet (picture_bytes p) ≡ parsed (Packet.Picture p) []
unfolding picture_fits picture_bytes packet packet_of picture picture_after
picture_read_write p h =
    let d = p.display in
    let q = d.providers in
    let a = leb-true p.number 4294967295 (and_parts (leb p.number 4294967295) _ h).0 in
    let h1 = (and_parts (leb p.number 4294967295) _ h).1 in
    let b = (and_parts (consumer_fits d.consumer) _ h1).0 in
    let h2 = (and_parts (consumer_fits d.consumer) _ h1).1 in
    let c = (and_parts (leb d.unconstrained.available 16) _ h2).0 in
    let h3 = (and_parts (leb d.unconstrained.available 16) _ h2).1 in
    let e = ltb-true q.mask 65536 (and_parts (ltb q.mask 65536) (leb (len q) 4) h3).0 in
    let f = (and_parts (ltb q.mask 65536) (leb (len q) 4) h3).1 in
    let tail = unconstrained_bytes d.unconstrained ++ (len q ∷ ports_bytes q.mask) in
    rw (number_back 4294967295 p.number (consumer_bytes d.consumer ++ tail) a a)
    (option_back p.number tail d.consumer b
    ∙ rw (unconstrained_back d.unconstrained (len q ∷ ports_bytes q.mask) c, field_back 4 (len q) (ports_bytes q.mask) f, tracked_back q e))
