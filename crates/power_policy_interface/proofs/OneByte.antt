-- Flags, reasons and answers have one byte each: reading a written byte gives the value, and a byte that is read was written so.
-- Assumes nothing.
use Rattle.std.specs.Prelude.{◌≡◌, ℕ, Result, Some}
use Rattle.std.proofs.Common.{arith}
use Rattle.std.proofs.lemmas.Grind.{common_steps}
use Rattle.power_policy_interface.specs.Capability.{consumer_flags_byte, consumer_flags_from, provider_flags_byte, provider_flags_from, disconnect_byte, disconnect_from}
use Rattle.power_policy_interface.specs.Psu.{answer_byte, answer_from, dropped}
use Rattle.power_policy_interface.specs.declared.capability.ConsumerFlags.{ConsumerFlags}
use Rattle.power_policy_interface.specs.declared.capability.ProviderFlags.{ProviderFlags}
use Rattle.power_policy_interface.specs.declared.capability.DisconnectFlags.{DisconnectFlags}
use Rattle.power_policy_interface.specs.declared.psu.Error.{Error}

pub consumer_read_write : (f : ConsumerFlags) → consumer_flags_from (consumer_flags_byte f) ≡ Some f
consumer_read_write f = grind (arith, common_steps)

pub consumer_injective : (f g : ConsumerFlags) → consumer_flags_byte f ≡ consumer_flags_byte g → f ≡ g
consumer_injective f g e = grind (arith, common_steps)

pub consumer_write_read : (b : ℕ) (f : ConsumerFlags) → consumer_flags_from b ≡ Some f → b ≡ consumer_flags_byte f
consumer_write_read b f e = grind (arith, common_steps)

pub provider_read_write : (f : ProviderFlags) → provider_flags_from (provider_flags_byte f) ≡ Some f
provider_read_write f = grind (arith, common_steps)

pub provider_injective : (f g : ProviderFlags) → provider_flags_byte f ≡ provider_flags_byte g → f ≡ g
provider_injective f g e = grind (arith, common_steps)

pub provider_write_read : (b : ℕ) (f : ProviderFlags) → provider_flags_from b ≡ Some f → b ≡ provider_flags_byte f
provider_write_read b f e = grind (arith, common_steps)

pub reason_read_write : (f : DisconnectFlags) → disconnect_from (disconnect_byte f) ≡ Some f
reason_read_write f = grind (arith, common_steps)

pub reason_write_read : (b : ℕ) (f : DisconnectFlags) → disconnect_from b ≡ Some f → b ≡ disconnect_byte f
reason_write_read b f e = grind (arith, common_steps)

pub answer_read_write : (r : Result (Unit {0}) Error) → answer_from (answer_byte r) ≡ Some (dropped r)
answer_read_write r = grind (arith, common_steps)

pub answer_write_read : (b : ℕ) (r : Result (Unit {0}) Error) → answer_from b ≡ Some r → b ≡ answer_byte r
answer_write_read b r e = grind (arith, common_steps)
