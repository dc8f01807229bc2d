-- SHP-11: the follower's image of 241 bytes (docs/STATE.md): 2,
-- lost or showing, the number, the display and the seven slots.
use Rattle.std.specs.Prelude.{ℕ, Bool, true, cond, ◌&&◌, List, [], ◌∷◌, ◌++◌, ◌≡◌, eqb, leb, length, get_or, drop, replicate, None, Option, Some}
use Rattle.interface_display.specs.declared.AvailableConsumer.{AvailableConsumer}
use Rattle.power_policy_interface.specs.Limits.{max_ports, follower_length}
use Rattle.interface_display.specs.Providers.{len, max_connected_providers}
use Rattle.interface_display.specs.declared.Display.{Display}
use Rattle.interface_display.specs.declared.packet.Picture.{Picture}
use Rattle.desk_follower.specs.Follower.{lost, showing, at}
use Rattle.desk_follower.specs.declared.Follower.{Follower}
use Rattle.desk_follower.specs.declared.Shown.{Shown}
use Rattle.desk_follower.specs.declared.held.Held.{Held}
use Rattle.bytes_groups.specs.Quad.{quad_at, quad_bytes, number_quad, number_from}
use Rattle.bytes_groups.specs.Shown.{shown_at, display_bytes, display_from}
use Rattle.bytes_follower_image.specs.Slot.{zeros}
use Rattle.bytes_follower_image.specs.Held.{held_bytes, held_from}
use Rattle.bytes_follower_image.specs.Fits.{image_fits}

-- writing

-- lost, nothing is shown or held
abbrev pub lost_bytes : ℕ → List ℕ
lost_bytes floor = 2 ∷ 0 ∷ (quad_bytes (number_quad floor) ++ replicate 235 0)

abbrev pub showing_bytes : Picture → Held → List ℕ
showing_bytes s h = 2 ∷ 1 ∷ (quad_bytes (number_quad s.number) ++ (display_bytes s.display ++ held_bytes s.number h))

abbrev pub bytes_at : Shown → Held → List ℕ
bytes_at (Shown.Lost floor) h = lost_bytes floor
bytes_at (Shown.Picture s) h = showing_bytes s h

abbrev pub follower_bytes : Follower → List ℕ
follower_bytes f = bytes_at f.shown f.held

-- reading

abbrev pub lost_in : List ℕ → Option Follower
lost_in b = cond (zeros (drop 6 b)) (Some (lost (number_from (quad_at b 2)))) None

abbrev pub port_fits : Option AvailableConsumer → Bool
port_fits None = true
port_fits (Some c) = leb c.psu 15

-- ports 0 to 15, available 0 to 16, at most four tracked
abbrev pub display_fits : Display → Bool
display_fits d = port_fits d.consumer && (leb d.unconstrained.available max_ports && leb (len d.providers) max_connected_providers)

abbrev pub showing_with : Picture → Option Held → Option Follower
showing_with s None = None
showing_with s (Some h) = Some (showing s h)

abbrev pub showing_of : ℕ → Option Display → Option Held → Option Follower
showing_of n None h = None
showing_of n (Some d) h = cond (display_fits d) (showing_with (at n d) h) None

abbrev pub showing_in : List ℕ → Option Follower
showing_in b = showing_of (number_from (quad_at b 2)) (display_from (shown_at b 6)) (held_from (number_from (quad_at b 2)) (drop 17 b))

abbrev pub follower_cases : List ℕ → List (Option Follower)
follower_cases b = lost_in b ∷ showing_in b ∷ []

-- each group in its one form and in its range: what is read is well formed (proofs/OneImage.antt); other bytes are none's
abbrev pub follower_from : List ℕ → Option Follower
follower_from b = cond (eqb (length b) follower_length && eqb (get_or b 0 0) 2) (get_or (follower_cases b) (get_or b 1 0) None) None

-- what an image shows, without what is held
abbrev pub shown_read : Option Follower → Option Shown
shown_read None = None
shown_read (Some f) = Some f.shown

-- the image of a follower that shows s with h held
pub record ImageOf (b : List ℕ) (s : Picture) (h : Held) : Type 0 where
  pub bytes : b ≡ showing_bytes s h
  pub fits : image_fits (showing s h) ≡ true

-- bytes that are read as this are its image
abbrev pub ShownBy : List ℕ → Option Shown → Type 0
ShownBy b None = Unit {0}
ShownBy b (Some (Shown.Lost floor)) = b ≡ lost_bytes floor
ShownBy b (Some (Shown.Picture s)) = (h : Held) × ImageOf b s h

-- the first 17 bytes, showing
abbrev pub shown_head : ℕ → Display → List ℕ
shown_head n d = 2 ∷ 1 ∷ (quad_bytes (number_quad n) ++ display_bytes d)
