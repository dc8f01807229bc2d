-- The tracked set stays one of 16 ports with at most four in it: a port that is added sets one bit more, and one that is removed clears a bit.
use mathlib.Core.Path.{◌≡◌, refl}
use mathlib.Core.Bool.{Bool, true, false}
use Prim.Native.Nat.{ℕ, ◌^◌, ◌<◌, ◌≤◌}
use native.Mathlib.Omega.{arith}
use lib.Bits.{or_lt, xor_lt}
use lib.Pow.{pow-lt}
use Rattle.interface_display.specs.Providers.{max_connected_providers, contains, len, room, insert_of, remove_of}
use Rattle.interface_display.specs.declared.providers.Providers.{Providers}
use Rattle.interface_display.proofs.Set.{member, has_room, inserted, removed, inserted_length, removed_length}

pub record Tracks (s : Providers) : Type 0 where
  pub ports : s.mask < 2 ^ 16
  pub few : len s ≤ max_connected_providers

pub insert_tracks : (s : Providers) (p : ℕ) → Tracks s → Tracks (insert_of s p).providers
insert_tracks s p t = go (contains s p) refl (room s p) refl
  where
    go : (c : Bool) → contains s p ≡ c → (r : Bool) → room s p ≡ r → Tracks (inserted s p c r).providers
    go true e r f = t
    go false e false f = t
    go false e true f =
        let h = has_room s p f in
        record {
          ports = or_lt 16 s.mask (2 ^ p) t.ports (pow-lt h.0);
          few = omega (arith, inserted_length s p false e true f, h.1);
        }

pub remove_tracks : (s : Providers) (p : ℕ) → Tracks s → Tracks (remove_of s p).providers
remove_tracks s p t = go (contains s p) refl
  where
    go : (c : Bool) → contains s p ≡ c → Tracks (removed s p c).providers
    go false e = t
    go true e = record {
      ports = xor_lt 16 s.mask (2 ^ p) t.ports (pow-lt (member s p e).0);
      few = omega (arith, removed_length s p true e, t.few);
    }
