-- The followers that have an image (docs/STATE.md): well formed, and what is shown and held within what a packet has. A test, so
-- that it can be decided.
use Rattle.std.specs.Prelude.{ℕ, Bool, true, ◌&&◌, ◌||◌}
use Rattle.power_policy_interface.specs.Limits.{window}
use Rattle.interface_display.specs.declared.packet.EventPacket.{EventPacket}
use Rattle.wire.specs.WellFormed.{event_fits, picture_fits}
use Rattle.desk_follower.specs.WellFormed.{is_none, all_places, well_formed}
use Rattle.desk_follower.specs.declared.Follower.{Follower}
use Rattle.desk_follower.specs.declared.Shown.{Shown}

-- whatever the place
abbrev pub held_fits : ℕ → EventPacket → Bool
held_fits i p = is_none p || event_fits p

abbrev pub shown_fits : Shown → Bool
shown_fits (Shown.Lost floor) = true
shown_fits (Shown.Picture s) = picture_fits s

abbrev pub image_fits : Follower → Bool
image_fits f = well_formed f && (shown_fits f.shown && all_places held_fits window f.held)
