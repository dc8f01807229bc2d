-- Figures of 16 bits, as a test and as bounds.
-- Assumes nothing.
use Rattle.std.specs.Prelude.{None, Option, Some}
use mathlib.Core.Path.{◌≡◌}
use mathlib.Core.Bool.{true}
use Prim.Native.Nat.{ℕ, ◌≤◌}
use native.Mathlib.Omega.{arith}
use lib.Dec.{leb}
use borrow.Author.Tests.{le-leb, leb-true}
use Rattle.power_policy_interface.specs.Capability.{capability_fits}
use Rattle.power_policy_interface.specs.declared.capability.PowerCapability.{PowerCapability}
use Rattle.interface_display.specs.declared.AvailableConsumer.{AvailableConsumer}
use Rattle.std.proofs.lemmas.Bool.{and_parts}
use Rattle.bytes_groups.proofs.Quads.{Within}
use Rattle.bytes_groups.proofs.Consumers.{ConsumerWithin}
use Rattle.bytes_service_image.specs.Typed.{ConsumerTyped}
use Rattle.bytes_service_image.specs.WellFormed.{consumer_fits}
use borrow.Author.Tests.{ltb-true}

pub fits : (c : PowerCapability) → Within c → capability_fits c ≡ true
fits c w =
    let v : c.voltage_mv ≤ 65535 = omega (arith, w.mv) in
    let a : c.current_ma ≤ 65535 = omega (arith, w.ma) in
    rw (le-leb c.voltage_mv 65535 v, le-leb c.current_ma 65535 a)

pub within : (c : PowerCapability) → capability_fits c ≡ true → Within c
within c e =
    let v = leb-true c.voltage_mv 65535 (and_parts (leb c.voltage_mv 65535) (leb c.current_ma 65535) e).0 in
    let a = leb-true c.current_ma 65535 (and_parts (leb c.voltage_mv 65535) (leb c.current_ma 65535) e).1 in
    record { mv = omega arith; ma = omega arith }

pub consumer_typed : (c : Option AvailableConsumer) → ConsumerWithin c → ConsumerTyped c
consumer_typed None h = tt
consumer_typed (Some c) h = fits c.consumer_power_capability.capability h.1

pub consumer_within : (ports : ℕ) (c : Option AvailableConsumer) → ports ≤ 16 → consumer_fits ports c ≡ true → ConsumerTyped c → ConsumerWithin c
consumer_within ports None h e t = tt
consumer_within ports (Some c) h e t =
    let k = ltb-true c.psu ports e in
    (omega arith, within c.consumer_power_capability.capability t)
