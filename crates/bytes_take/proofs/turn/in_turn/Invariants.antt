-- Each turn is one of the definition; when there is no slot left, no later event is held.
use mathlib.Core.Path.{◌≡◌}
use Prim.Native.Nat.{◌+◌, ◌-◌, ◌≤◌}
use Rattle.interface_display.specs.declared.packet.Picture.{Picture}
use Rattle.desk_follower.specs.declared.held.Held.{Held}
use Rattle.bytes_follower_image.specs.Image.{ImageOf}
use Rattle.bytes_take.specs.Turned.{turned}
use Rattle.bytes_take.proofs.turn.in_turn.Given as goal

abbrev pub invariant-loop-k : goal.invariant-loop-k
invariant-loop-k l =
    (l.number ≡ l.n + 1 + l.k) × (l.initial.number ≤ l.number)
    × ((s : Picture) (h : Held) → ImageOf l.image s h → s.number ≡ l.n
    → turned 8 l.initial.number l.initial.display h ≡ turned (8 - (l.number - l.initial.number)) l.number l.display h)
