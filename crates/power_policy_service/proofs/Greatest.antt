-- Going through the ports and replacing the best so far only by a greater key finds the earliest port with the greatest key, for any key.
use Rattle.std.specs.Prelude.{None, Option, Some}
use mathlib.Core.Path.{◌≡◌, refl}
use mathlib.Core.Bool.{Bool, true, false, cond}
use Prim.Native.Nat.{ℕ, zero, suc, ◌<◌, ◌≤◌}
use Rattle.std.proofs.Common.{arith}
use Rattle.std.proofs.lemmas.Grind.{common_steps}
use lib.Dec.{ltb}
use borrow.Author.Tests.{ltb-true}
use Rattle.power_policy_interface.specs.declared.capability.ConsumerPowerCapability.{ConsumerPowerCapability}
use Rattle.interface_display.specs.declared.AvailableConsumer.{AvailableConsumer}
use Rattle.power_policy_service.specs.Consumer.{available}

-- a capability and none are told apart, and two that are equal offer the same

pub not_both : {o : Option ConsumerPowerCapability} {d : ConsumerPowerCapability} → o ≡ None → o ≡ Some d → ⊥
not_both e f = cc

pub one_offer : {o : Option ConsumerPowerCapability} {c d : ConsumerPowerCapability} → o ≡ Some c → o ≡ Some d → c ≡ d
one_offer e f = cc

module _ (offers : ℕ → Option ConsumerPowerCapability) (key : ℕ → ConsumerPowerCapability → ℕ) where
  abbrev pub greater : Option AvailableConsumer → ℕ → Option ConsumerPowerCapability → Option AvailableConsumer
  greater best p None = best
  greater None p (Some c) = available p c
  greater (Some b) p (Some c) =
      cond (ltb (key b.psu b.consumer_power_capability) (key p c)) (available p c) (Some b)

  abbrev pub greatest : ℕ → Option AvailableConsumer
  greatest zero = None
  greatest (suc n) = greater (greatest n) n (offers n)

  abbrev key_of : AvailableConsumer → ℕ
  key_of c = key c.psu c.consumer_power_capability

  pub record Earliest (n : ℕ) (c : AvailableConsumer) : Type 0 where
    pub among : c.psu < n
    pub offered : offers c.psu ≡ Some c.consumer_power_capability
    pub most : (p : ℕ) (d : ConsumerPowerCapability) → p < n → offers p ≡ Some d → key p d ≤ key_of c
    pub before : (p : ℕ) (d : ConsumerPowerCapability) → p < c.psu → offers p ≡ Some d → key p d < key_of c

  abbrev pub Found : ℕ → Option AvailableConsumer → Type 0
  Found n None = (p : ℕ) → p < n → offers p ≡ None
  Found n (Some c) = Earliest n c

  -- from n ports to one more

  still_none : (n : ℕ) → offers n ≡ None → Found n None → Found (suc n) None
  still_none n e h p l = grind (arith, common_steps, h p)

  first_one : (n : ℕ) (c : ConsumerPowerCapability) → offers n ≡ Some c → Found n None → Found (suc n) (available n c)
  first_one n c e h = record {
    among = omega arith;
    offered = e;
    most = λ p d l o. grind (arith, common_steps, h p);
    before = λ p d l o. grind (arith, common_steps, h p);
  }

  kept : (n : ℕ) (b : AvailableConsumer) → Earliest n b →
      ((d : ConsumerPowerCapability) → offers n ≡ Some d → key n d ≤ key_of b) → Earliest (suc n) b
  kept n b h last = record {
    among = omega (arith, h.among);
    offered = h.offered;
    most = λ p d l o. grind (arith, common_steps, h.most p d, last d);
    before = h.before;
  }

  replaced_by : (n : ℕ) (b : AvailableConsumer) (c : ConsumerPowerCapability) → offers n ≡ Some c → Earliest n b → key_of b < key n c →
      Earliest (suc n) (record { psu = n; consumer_power_capability = c })
  replaced_by n b c e h l = record {
    among = omega arith;
    offered = e;
    most = λ p d q o. grind (arith, common_steps, h.most p d);
    before = λ p d q o. grind (arith, common_steps, h.most p d);
  }

  one_more : (n : ℕ) (best : Option AvailableConsumer) (o : Option ConsumerPowerCapability) → offers n ≡ o → Found n best → Found (suc n) (greater best n o)
  one_more n None None e h = still_none n e h
  one_more n (Some b) None e h = kept n b h (λ d o. cc (e, o))
  one_more n None (Some c) e h = first_one n c e h
  one_more n (Some b) (Some c) e h = go (ltb (key_of b) (key n c)) refl
    where
      go : (t : Bool) → ltb (key_of b) (key n c) ≡ t → Found (suc n) (cond t (available n c) (Some b))
      go true q = replaced_by n b c e h (ltb-true (key_of b) (key n c) q)
      go false q = kept n b h (λ d o. grind (arith, common_steps))

  pub found : (n : ℕ) → Found n (greatest n)
  found zero = λ p l. absurd (omega (arith, l))
  found (suc n) = one_more n (greatest n) (offers n) refl (found n)

  -- there is only one such port
  pub only_one : (n : ℕ) (b c : AvailableConsumer) → Earliest n b → Earliest n c → b ≡ c
  only_one n b c h k =
      grind (arith, common_steps, h.most c.psu c.consumer_power_capability, h.before c.psu c.consumer_power_capability, k.most b.psu b.consumer_power_capability, k.before b.psu b.consumer_power_capability)
