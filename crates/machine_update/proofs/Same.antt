-- What `==` answers at two consumers is the test of the definition.
use Rattle.std.specs.Prelude.{◌≡◌, ℕ, ◌+◌, ◌*◌, Bool, false, ◌&&◌, eqb, Option, None, Some}
use Rattle.std.specs.Option.{option_eq}
use mathlib.Core.Path.{refl, sym, ◌∙◌, ap}
use mathlib.Core.Bool.{beq, cond}
use native.Mathlib.Omega.{arith}
use denote.Enum.Bare.{sameb}
use Rattle.power_policy_interface.specs.Capability.{bit, psu_type_number, same_consumer}
use Rattle.power_policy_interface.specs.contracts.capability.PsuType.{the_type}
use Rattle.power_policy_interface.specs.declared.capability.ConsumerPowerCapability.{ConsumerPowerCapability}
use Rattle.power_policy_interface.specs.declared.capability.DisconnectFlags.{DisconnectFlags}
use Rattle.power_policy_interface.specs.declared.capability.PsuType.{PsuType}
use Rattle.interface_display.specs.declared.AvailableConsumer.{AvailableConsumer}
use Rattle.abstract_policy.specs.Interaction.{same_available}
use Rattle.abstract_policy.specs.declared.state.Records.{Records}
use Rattle.abstract_policy.specs.declared.state.Registration.{Registration}
use Rattle.machine_state.specs.declared.memory.Memory.{Memory}
use Rattle.machine_update.specs.Update.{finish_update_of, disconnect_of, connect_from}

abbrev same_types : Option PsuType → Option PsuType → Bool
same_types p q = option_eq (λ x y. sameb the_type x y) p q

none_some : (y : PsuType) → false ≡ eqb (psu_type_number (Some y)) 0
none_some y = grind arith

some_none : (y : PsuType) → false ≡ eqb 0 (psu_type_number (Some y))
some_none y = grind arith

some_some : (x y : PsuType) → sameb the_type x y ≡ eqb (psu_type_number (Some y)) (psu_type_number (Some x))
some_some x y = grind arith

types_test : (p q : Option PsuType) → same_types p q ≡ eqb (psu_type_number q) (psu_type_number p)
types_test None None = refl
types_test None (Some y) = none_some y
types_test (Some x) None = some_none x
types_test (Some x) (Some y) = some_some x y

flags_test : (u v : Bool) (n m : ℕ) → (beq u v && eqb n m) ≡ eqb (bit v + n * 2) (bit u + m * 2)
flags_test u v n m = grind arith

numbers_test : (n m : ℕ) → eqb n m ≡ eqb m n
numbers_test n m = grind arith

consumer_test : (a b : ConsumerPowerCapability) →
    ((eqb a.capability.voltage_mv b.capability.voltage_mv && eqb a.capability.current_ma b.capability.current_ma)
    && (beq a.flags.unconstrained_power b.flags.unconstrained_power && same_types a.flags.psu_type b.flags.psu_type))
    ≡ same_consumer b a
consumer_test a b =
    rw (numbers_test a.capability.voltage_mv b.capability.voltage_mv, numbers_test a.capability.current_ma b.capability.current_ma, types_test a.flags.psu_type b.flags.psu_type)
    (ap (λ (t : Bool). (eqb b.capability.voltage_mv a.capability.voltage_mv && eqb b.capability.current_ma a.capability.current_ma) && t)
    (flags_test a.flags.unconstrained_power b.flags.unconstrained_power (psu_type_number b.flags.psu_type) (psu_type_number a.flags.psu_type)))

-- what `==` answers
abbrev pub equal : AvailableConsumer → AvailableConsumer → Bool
equal a b =
    eqb a.psu b.psu
    && ((eqb a.consumer_power_capability.capability.voltage_mv b.consumer_power_capability.capability.voltage_mv
    && eqb a.consumer_power_capability.capability.current_ma b.consumer_power_capability.capability.current_ma)
    && (beq a.consumer_power_capability.flags.unconstrained_power b.consumer_power_capability.flags.unconstrained_power
    && same_types a.consumer_power_capability.flags.psu_type b.consumer_power_capability.flags.psu_type))

same_test : (a b : AvailableConsumer) → equal a b ≡ same_available a b
same_test a b = ap (λ (t : Bool). eqb a.psu b.psu && t) (consumer_test a.consumer_power_capability b.consumer_power_capability)

-- a consumer that is there stays if it is the same, and gives way if not
pub connects : (current : Option AvailableConsumer) (old new : AvailableConsumer) (t : Bool) (g : Registration) (m : Memory) (f : DisconnectFlags) (r : Records) →
    current ≡ Some old → t ≡ equal old new → connect_from current g m new f r ≡ cond t (finish_update_of g m r) (disconnect_of g m old.psu f new r)
connects current old new t g m f r e q =
    ap (λ (o : Option AvailableConsumer). connect_from o g m new f r) e
    ∙ ap (λ (b : Bool). cond b (finish_update_of g m r) (disconnect_of g m old.psu f new r)) (sym (q ∙ same_test old new))
