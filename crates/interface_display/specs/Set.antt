-- DEM-2a: what heapless's documentation says of a set of fixed capacity, over membership: which values are there after `insert` and `remove`, how
-- many, and what is found. The values are ports, so that there is room for a number below 16 alone. Proved in proofs/Set.antt.
use Rattle.std.specs.Prelude.{ℕ, ◌+◌, ◌<◌, ◌≤◌, true, false, cond, not, ◌&&◌, ◌||◌, ◌↔◌, ◌≡◌, eqb, Bool, Result, Ok, Err}
use Rattle.power_policy_interface.specs.Limits.{max_ports}
use Rattle.interface_display.specs.Providers.{max_connected_providers, none, contains, len, room, insert_of, remove_of}
use Rattle.interface_display.specs.declared.providers.Providers.{Providers}

-- how many values more after an insert
abbrev pub more : Result Bool ℕ → ℕ
more (Ok added) = cond added 1 0
more (Err p) = 0

pub record SetLaws : Type 0 where
  -- the capacity of the Rust's set
  pub capacity : max_connected_providers ≡ 4
  -- a new set is empty
  pub none_there : (q : ℕ) → contains none q ≡ false
  pub none_length : len none ≡ 0
  -- there is room for a port while fewer than the capacity are there
  pub room_is : (s : Providers) (p : ℕ) → (room s p ≡ true) ↔ ((p < max_ports) × (len s < max_connected_providers))
  -- a value that is there is found, also in a full set, and nothing changes
  pub present : (s : Providers) (p : ℕ) → contains s p ≡ true → insert_of s p ≡ record { found = Ok false; providers = s }
  -- a new value is added if there is room
  pub added : (s : Providers) (p : ℕ) → contains s p ≡ false → room s p ≡ true → (insert_of s p).found ≡ Ok true
  -- else the set is full and nothing changes
  pub full : (s : Providers) (p : ℕ) → contains s p ≡ false → room s p ≡ false → insert_of s p ≡ record { found = Err p; providers = s }
  -- after an insert a value is there if it was, or if it is the one and there was room
  pub insert_there : (s : Providers) (p q : ℕ) → contains (insert_of s p).providers q ≡ (contains s q || eqb q p && room s p)
  -- one more if it was added, else as many
  pub insert_length : (s : Providers) (p : ℕ) → len (insert_of s p).providers ≡ len s + more (insert_of s p).found
  -- a removal says whether the value was there, and changes nothing if not
  pub remove_found : (s : Providers) (p : ℕ) → (remove_of s p).found ≡ contains s p
  pub absent : (s : Providers) (p : ℕ) → contains s p ≡ false → (remove_of s p).providers ≡ s
  -- after a removal a value is there if it was and is not the one
  pub remove_there : (s : Providers) (p q : ℕ) → contains (remove_of s p).providers q ≡ (contains s q && not (eqb q p))
  -- one less if it was there, else as many
  pub remove_length : (s : Providers) (p : ℕ) → len s ≡ len (remove_of s p).providers + cond (remove_of s p).found 1 0
  -- a removal from a set within its capacity, also a full one, makes room, for any port
  pub makes_room : (s : Providers) (p q : ℕ) → len s ≤ max_connected_providers → contains s p ≡ true → q < max_ports → room (remove_of s p).providers q ≡ true
