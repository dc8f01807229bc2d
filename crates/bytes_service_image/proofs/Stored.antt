-- The four parts of the image, stored one after the other in 67 bytes, are the image.
-- Assumes nothing.
use mathlib.Core.Path.{◌≡◌, refl, sym}
use mathlib.Core.List.{List}
use Prim.Native.Nat.{ℕ}
use lib.ListN.{length}
use lib.Seq.{sets}
use Rattle.power_policy_interface.specs.Limits.{service_length}
use Rattle.bytes_groups.proofs.Places.{sets_all}
use Rattle.machine_service.specs.declared.Service.{Service}
use Rattle.bytes_service_groups.specs.Registration.{head_bytes}
use Rattle.bytes_service_groups.specs.State.{held_bytes}
use Rattle.bytes_service_groups.specs.Phase.{phase_bytes}
use Rattle.bytes_service_groups.specs.Notices.{notices_bytes}
use Rattle.bytes_service_image.specs.Image.{service_bytes}

pub service_length_lem : (s : Service) → length (service_bytes s) ≡ service_length
unfolding service_bytes
service_length_lem s = refl

pub stored : (s : Service) (o : List ℕ) → length o ≡ service_length
    → sets (sets (sets (sets o 0 (head_bytes s.registration s.number)) 24 (held_bytes s.memory.state s.orders)) 37 (phase_bytes s.phase)) 47
    (notices_bytes s.memory.notices)
    ≡ service_bytes s
unfolding service_bytes
stored s o e = sets_all (service_bytes s) o (sym e)
