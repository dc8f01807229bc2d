-- DEM-2a: the set of fixed capacity, from heapless's documentation: `insert` of a value that is there changes nothing, of a new one adds
-- it unless the set is full; `remove` says whether it was there. The values are ports 0 to 15, a bit each; there is never room for another
-- number, which REF-23 and the reader keep out. Set.antt says the same over membership alone.
use Rattle.std.specs.Prelude.{ℕ, zero, suc, ◌+◌, ◌/◌, ◌%◌, ◌^◌, Bool, true, false, cond, ◌&&◌, ltb, eqb, Result, Ok, Err}
use Rattle.std.specs.Int.Bits.{bit_or, bit_xor}
use Rattle.power_policy_interface.specs.Limits.{max_ports}
use Rattle.interface_display.specs.declared.providers.Providers.{Providers}

-- the Rust's MAX_CONNECTED_PROVIDERS
abbrev pub max_connected_providers : ℕ
max_connected_providers = 4

abbrev pub none : Providers
none = record { mask = 0 }

abbrev pub bit_at : ℕ → ℕ → ℕ
bit_at m p = m / 2 ^ p % 2

abbrev pub contains : Providers → ℕ → Bool
contains s p = ltb p max_ports && eqb (bit_at s.mask p) 1

-- how many of the first n bits are set
abbrev pub ones : ℕ → ℕ → ℕ
ones m zero = 0
ones m (suc n) = ones m n + bit_at m n

abbrev pub len : Providers → ℕ
len s = ones s.mask max_ports

-- there is room for a new port: it is one of the 16, and fewer than the capacity are there
abbrev pub room : Providers → ℕ → Bool
room s p = ltb p max_ports && ltb (len s) max_connected_providers

-- what an insert finds, and the set after it: whether the value was added, or, if there is no room, the value itself
pub record Inserted : Type 0 where
  pub found : Result Bool ℕ
  pub providers : Providers

-- whether a removal finds the value, and the set after it
pub record Removed : Type 0 where
  pub found : Bool
  pub providers : Providers

abbrev pub insert_of : Providers → ℕ → Inserted
insert_of s p =
    cond (contains s p) (record { found = Ok false; providers = s })
    (cond (room s p) (record { found = Ok true; providers = record { mask = bit_or s.mask (2 ^ p) } })
    (record { found = Err p; providers = s }))

abbrev pub remove_of : Providers → ℕ → Removed
remove_of s p =
    cond (contains s p) (record { found = true; providers = record { mask = bit_xor s.mask (2 ^ p) } })
    (record { found = false; providers = s })
