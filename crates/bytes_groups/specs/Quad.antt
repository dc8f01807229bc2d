-- Four bytes: a number of 32 bits, or mV and mA; low bytes first.
use Rattle.std.specs.Prelude.{ℕ, ◌+◌, ◌*◌, ◌/◌, ◌%◌, List, [], ◌∷◌, get_or}
use Rattle.power_policy_interface.specs.declared.capability.PowerCapability.{PowerCapability}
use Rattle.bytes_groups.specs.declared.quad.Quad.{Quad}

-- the four bytes from a position on
abbrev pub quad_at : List ℕ → ℕ → Quad
quad_at s at = record { b0 = get_or s (at + 0) 0; b1 = get_or s (at + 1) 0; b2 = get_or s (at + 2) 0; b3 = get_or s (at + 3) 0 }

abbrev pub quad_bytes : Quad → List ℕ
quad_bytes q = q.b0 ∷ q.b1 ∷ q.b2 ∷ q.b3 ∷ []

abbrev pub number_quad : ℕ → Quad
number_quad n = record { b0 = n % 256; b1 = n / 256 % 256; b2 = n / 65536 % 256; b3 = n / 16777216 }

abbrev pub number_from : Quad → ℕ
number_from q = q.b0 + q.b1 * 256 + q.b2 * 65536 + q.b3 * 16777216

abbrev pub power_quad : PowerCapability → Quad
power_quad c =
    record {
      b0 = c.voltage_mv % 256;
      b1 = c.voltage_mv / 256;
      b2 = c.current_ma % 256;
      b3 = c.current_ma / 256;
    }

abbrev pub power_from : Quad → PowerCapability
power_from q = record { voltage_mv = q.b0 + q.b1 * 256; current_ma = q.b2 + q.b3 * 256 }
