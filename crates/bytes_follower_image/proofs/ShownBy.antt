-- Bytes that are read are the image of what they are read as (OneImage.antt), also where what is held is not made a value.
-- Assumes nothing.
use Rattle.std.specs.Prelude.{None, Option, Some}
use mathlib.Core.Path.{◌≡◌, refl, sym}
use mathlib.Core.Bool.{true}
use mathlib.Core.List.{List}
use Prim.Native.Nat.{ℕ}
use Rattle.interface_records.specs.Row.{AllBytes}
use Rattle.desk_follower.specs.declared.Follower.{Follower}
use Rattle.desk_follower.specs.declared.Shown.{Shown}
use Rattle.desk_follower.specs.declared.held.Held.{Held}
use Rattle.bytes_follower_image.specs.Fits.{image_fits}
use Rattle.bytes_follower_image.specs.Image.{bytes_at, follower_from, shown_read, ShownBy}
use Rattle.bytes_follower_image.proofs.OneImage.{follower_write_read, follower_read_fits}

pub shown_by_lem : (b : List ℕ) → AllBytes b → ShownBy b (shown_read (follower_from b))
shown_by_lem b a = by (follower_from b) refl
  where
    at : (x : Shown) (h : Held) → bytes_at x h ≡ b → image_fits (record { shown = x; held = h }) ≡ true → ShownBy b (Some x)
    at (Shown.Lost floor) h e f = sym e
    at (Shown.Picture s) h e f = (h, record { bytes = sym e; fits = f })

    by : (o : Option Follower) → follower_from b ≡ o → ShownBy b (shown_read o)
    by None e = tt
    by (Some f) e = at f.shown f.held (follower_write_read b f a e) (follower_read_fits b f a e)
