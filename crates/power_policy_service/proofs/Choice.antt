-- The two statements of the choice are equal. Rust's order of the pairs (mW, is current) is that of the numbers 2 × mW + (1 if current), and
-- the earliest port with the greatest such number is what DEM-2c says.
use Rattle.std.specs.Prelude.{None, Option, Some}
use mathlib.Core.Path.{◌≡◌, refl, sym, ap, ◌∙◌}
use mathlib.Core.Bool.{Bool, true, cond}
use mathlib.Core.List.{List}
use Prim.Native.Nat.{ℕ, zero, suc, ◌+◌, ◌*◌}
use Rattle.std.proofs.Common.{arith}
use Rattle.std.proofs.lemmas.Grind.{common_steps}
use lib.Dec.{ltb}
use Rattle.power_policy_interface.specs.Order.{cmp_nat, cmp_bool, then_with}
use Rattle.power_policy_interface.specs.declared.capability.ConsumerPowerCapability.{ConsumerPowerCapability}
use Rattle.power_policy_interface.specs.declared.psu.State.{State}
use Rattle.power_policy_interface.proofs.Order.{cmp_less, cmp_greater, cmp_equal}
use Rattle.interface_display.specs.declared.AvailableConsumer.{AvailableConsumer}
use Rattle.power_policy_service.specs.Choice.{mw, Best, Chosen}
use Rattle.power_policy_service.specs.Consumer.{eligible, is_current, replaced, better_of, best_of}
use Rattle.power_policy_service.specs.Rows.{psu_at}
use Rattle.power_policy_service.proofs.Greatest.{greater, greatest, Earliest, Found, found, only_one}
use Rattle.power_policy_interface.specs.Capability.{bit}
use Rattle.power_policy_interface.proofs.Bits.{bit_le}

-- the order of pairs is the order of these numbers

equal_pairs : (m : ℕ) (x y : Bool) (new best : Option AvailableConsumer) →
    replaced (then_with (cmp_nat m m) (cmp_bool x y)) new best ≡ cond (ltb (2 * m + bit y) (2 * m + bit x)) new best
equal_pairs m x y new best = grind (arith, common_steps, cmp_equal m m)

pairs : (m n : ℕ) (x y : Bool) (new best : Option AvailableConsumer) →
    replaced (then_with (cmp_nat m n) (cmp_bool x y)) new best ≡ cond (ltb (2 * n + bit y) (2 * m + bit x)) new best
pairs m n x y new best = grind (arith, common_steps, cmp_less m n, cmp_greater m n, equal_pairs n x y new best)

module _ (minimum : Option ℕ) (current : Option AvailableConsumer) (psus : List State) where
  abbrev offers : ℕ → Option ConsumerPowerCapability
  offers p = eligible minimum (psu_at psus p)

  abbrev key : ℕ → ConsumerPowerCapability → ℕ
  key p c = 2 * mw c + bit (is_current current p)

  better_is : (best : Option AvailableConsumer) (p : ℕ) (o : Option ConsumerPowerCapability) → better_of current best p o ≡ greater offers key best p o
  better_is best p o = grind (arith, common_steps, pairs)

  best_is : (n : ℕ) → best_of minimum current psus n ≡ greatest offers key n
  best_is zero = refl
  best_is (suc n) = better_is (best_of minimum current psus n) n (offers n) ∙ ap (λ b. greater offers key b n (offers n)) (best_is n)

  -- the earliest with the greatest number is the best, and the other way round

  best_from : (n : ℕ) (c : AvailableConsumer) → Earliest offers key n c → Best minimum current psus n c
  best_from n c h = record {
    offer = record { registered = h.among; offered = h.offered };
    most = λ p d o. grind (arith, common_steps, h.most p d, bit_le (is_current current c.psu));
    first = λ p d o e. grind (arith, common_steps, h.most p d, h.before p d);
  }

  -- one port at most is the current one
  one_current : (c : Option AvailableConsumer) (p q : ℕ) → is_current c p ≡ true → is_current c q ≡ true → p ≡ q
  one_current c p q e f = grind (arith, common_steps)

  earliest_from : (n : ℕ) (c : AvailableConsumer) → Best minimum current psus n c → Earliest offers key n c
  earliest_from n c h = record {
    among = h.offer.registered;
    offered = h.offer.offered;
    most = λ p d l o. grind (arith, common_steps, h.most p d, h.first p d, bit_le (is_current current p));
    before = λ p d l o. grind (arith, common_steps, h.most p d, h.first p d, bit_le (is_current current p), one_current current p c.psu);
  }

  chosen_from : (n : ℕ) (x : Option AvailableConsumer) → Found offers key n x → Chosen minimum current psus n x
  chosen_from n None h = h
  chosen_from n (Some c) h = best_from n c h

  found_from : (n : ℕ) (x : Option AvailableConsumer) → Chosen minimum current psus n x → Found offers key n x
  found_from n None h = h
  found_from n (Some c) h = earliest_from n c h

  only_found : (n : ℕ) (x y : Option AvailableConsumer) → Found offers key n x → Found offers key n y → x ≡ y
  only_found n None None h k = refl
  only_found n None (Some c) h k = cc (h c.psu k.among, k.offered)
  only_found n (Some b) None h k = cc (k b.psu h.among, h.offered)
  only_found n (Some b) (Some c) h k = ap Some (only_one offers key n b c h k)

  -- what the order of pairs chooses is what demand 2 says
  pub chosen : (n : ℕ) → Chosen minimum current psus n (best_of minimum current psus n)
  chosen n = rw (best_is n) (chosen_from n (greatest offers key n) (found offers key n))

  -- and nothing else is
  pub only_chosen : (n : ℕ) (x : Option AvailableConsumer) → Chosen minimum current psus n x → x ≡ best_of minimum current psus n
  only_chosen n x h = only_found n x (greatest offers key n) (found_from n x h) (found offers key n) ∙ sym (best_is n)
