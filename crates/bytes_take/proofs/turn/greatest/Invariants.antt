-- Slot by slot, the greatest so far.
use mathlib.Core.Path.{◌≡◌}
use Prim.Native.Nat.{◌+◌}
use Rattle.interface_display.specs.declared.packet.Picture.{Picture}
use Rattle.desk_follower.specs.declared.held.Held.{Held}
use Rattle.bytes_follower_image.specs.Image.{ImageOf}
use Rattle.bytes_take.proofs.Turns.{most_of}
use Rattle.bytes_take.proofs.turn.greatest.Given as goal

abbrev pub invariant-loop-k : goal.invariant-loop-k
invariant-loop-k l =
    (s : Picture) (h : Held) → ImageOf l.image s h → s.number ≡ l.n → l.most ≡ most_of l.number (l.n + 2) l.k h
