-- Four bytes are the digits of their number, or of mV and mA: there and back.
-- Assumes nothing.
use mathlib.Core.Path.{◌≡◌}
use mathlib.Core.List.{List}
use Prim.Native.Nat.{ℕ, ◌+◌, ◌*◌, ◌/◌, ◌%◌, ◌≤◌, ◌<◌}
use native.Mathlib.Omega.{arith}
use Rattle.power_policy_interface.specs.declared.capability.PowerCapability.{PowerCapability}
use Rattle.interface_records.specs.Row.{AllBytes}
use Rattle.bytes_groups.specs.Quad.{quad_at, quad_bytes, number_quad, number_from, power_quad, power_from}
use Rattle.bytes_groups.specs.declared.quad.Quad.{Quad}
use Rattle.bytes_groups.proofs.Places.{Below, none, one}

pub record QuadBytes (q : Quad) : Type 0 where
  pub b0 : q.b0 < 256
  pub b1 : q.b1 < 256
  pub b2 : q.b2 < 256
  pub b3 : q.b3 < 256

-- mV and mA of 16 bits
pub record Within (c : PowerCapability) : Type 0 where
  pub mv : c.voltage_mv < 65536
  pub ma : c.current_ma < 65536

pub quad_at_lem : (s : List ℕ) (at : ℕ) → AllBytes s → QuadBytes (quad_at s at)
quad_at_lem s at h = record { b0 = h (at + 0); b1 = h (at + 1); b2 = h (at + 2); b3 = h (at + 3) }

pub quad_bytes_lem : (q : Quad) → QuadBytes q → Below (quad_bytes q)
quad_bytes_lem q h = one h.b0 (one h.b1 (one h.b2 (one h.b3 none)))

-- a number

pub number_back : (n : ℕ) → number_from (number_quad n) ≡ n
number_back n = omega arith

low : (a r : ℕ) → a < 256 → (n : ℕ) → n ≡ a + r * 256 → a ≡ n % 256
low a r h n e = omega arith

pub number_written : (q : Quad) → QuadBytes q → q ≡ number_quad (number_from q)
number_written q h =
    let m : number_from q / 256 ≡ q.b1 + q.b2 * 256 + q.b3 * 65536 = omega arith in
    let n : number_from q / 65536 ≡ q.b2 + q.b3 * 256 = omega arith in
    let a : q.b0 ≡ number_from q % 256 = omega arith in
    let b : q.b1 ≡ number_from q / 256 % 256 = low q.b1 (q.b2 + q.b3 * 256) h.b1 (number_from q / 256) (omega arith) in
    let c : q.b2 ≡ number_from q / 65536 % 256 = low q.b2 q.b3 h.b2 (number_from q / 65536) n in
    let d : q.b3 ≡ number_from q / 16777216 = omega arith in
    λ i. record { b0 = a i; b1 = b i; b2 = c i; b3 = d i }

pub number_within : (q : Quad) → QuadBytes q → number_from q ≤ 4294967295
number_within q h = omega arith

pub number_bytes : (n : ℕ) → n ≤ 4294967295 → QuadBytes (number_quad n)
number_bytes n h = record { b0 = omega arith; b1 = omega arith; b2 = omega arith; b3 = omega arith }

-- mV and mA

pub power_back : (c : PowerCapability) → power_from (power_quad c) ≡ c
power_back c =
    let v : c.voltage_mv % 256 + c.voltage_mv / 256 * 256 ≡ c.voltage_mv = omega arith in
    let a : c.current_ma % 256 + c.current_ma / 256 * 256 ≡ c.current_ma = omega arith in
    λ i. record { voltage_mv = v i; current_ma = a i }

pub power_written : (q : Quad) → QuadBytes q → q ≡ power_quad (power_from q)
power_written q h =
    let a : q.b0 ≡ (q.b0 + q.b1 * 256) % 256 = omega arith in
    let b : q.b1 ≡ (q.b0 + q.b1 * 256) / 256 = omega arith in
    let c : q.b2 ≡ (q.b2 + q.b3 * 256) % 256 = omega arith in
    let d : q.b3 ≡ (q.b2 + q.b3 * 256) / 256 = omega arith in
    λ i. record { b0 = a i; b1 = b i; b2 = c i; b3 = d i }

pub power_within : (q : Quad) → QuadBytes q → Within (power_from q)
power_within q h = record { mv = omega arith; ma = omega arith }

pub power_bytes : (c : PowerCapability) → Within c → QuadBytes (power_quad c)
power_bytes c h = record { b0 = omega arith; b1 = omega arith; b2 = omega arith; b3 = omega arith }
