-- What the packets held make of a picture in turn, without what
-- is then held: the same steps as desk_follower's `in_turn`.
use Rattle.std.specs.Prelude.{ℕ, zero, suc, ◌+◌, ◌-◌, cond, eqb, None, Option, Some}
use Rattle.interface_display.specs.Notices.{all_applied}
use Rattle.interface_display.specs.declared.Display.{Display}
use Rattle.desk_follower.specs.Held.{held_for, holds, dropped}
use Rattle.desk_follower.specs.Follower.{lost, showing, at}
use Rattle.desk_follower.specs.declared.Follower.{Follower}
use Rattle.desk_follower.specs.declared.held.Held.{Held}
use Rattle.interface_display.specs.declared.packet.Picture.{Picture}

-- none where one that follows has an error
unfoldable pub turned : ℕ → ℕ → Display → Held → Option Picture
turned zero n d h = Some (at n d)
turned (suc k) n d h =
    cond (holds h (n + 1))
    (cond (eqb (held_for h (n + 1)).answer 0) (turned k (n + 1) (all_applied (held_for h (n + 1)).notices d) h) None)
    (Some (at n d))

-- the j events after m are dropped
abbrev pub dropped_to : ℕ → ℕ → Held → Held
dropped_to zero m h = h
dropped_to (suc j) m h = dropped_to j (m + 1) (dropped h (m + 1))

-- the follower then: lost with the floor, or showing, with the events up to the number shown dropped
abbrev pub outcome : ℕ → Option Picture → ℕ → Held → Follower
outcome f None m h = lost f
outcome f (Some p) m h = showing p (dropped_to (p.number - m) m h)
