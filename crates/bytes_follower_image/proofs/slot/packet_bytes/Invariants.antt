-- What is left to write completes the packet.
use mathlib.Core.Path.{◌≡◌}
use Prim.Native.Nat.{◌+◌, ◌-◌, ◌*◌}
use lib.Seq.{sets}
use Rattle.bytes_follower_image.specs.Slot.{packet_bytes}
use Rattle.bytes_follower_image.proofs.Slots.{places_left}
use Rattle.bytes_follower_image.proofs.slot.packet_bytes.Given as goal

abbrev pub invariant-loop-k : goal.invariant-loop-k
invariant-loop-k l = sets l.out (4 + 7 * l.k) (places_left l.n l.k (4 - l.k)) ≡ packet_bytes l.fn.p
