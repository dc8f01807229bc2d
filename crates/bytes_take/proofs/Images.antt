-- What bytes that are an image are read as; a lost follower's image with another floor or with a picture.
-- Assumes nothing.
use Rattle.std.specs.Prelude.{None, Option, Some}
use mathlib.Core.Path.{◌≡◌, refl, ap, sym, ◌∙◌}
use mathlib.Core.List.{List, ◌++◌}
use Prim.Native.Nat.{ℕ, zero, suc, ◌+◌, ◌*◌, ◌%◌}
use native.Mathlib.Omega.{arith}
use lib.ListN.{replicate, replicate-append-replicate}
use lib.Seq.{sets}
use Rattle.interface_records.specs.Row.{written}
use Rattle.interface_display.specs.declared.Display.{Display}
use Rattle.interface_display.specs.declared.packet.Picture.{Picture}
use Rattle.desk_follower.specs.Held as held
use Rattle.desk_follower.specs.Held.{nothing, held_for}
use Rattle.desk_follower.specs.Follower.{showing, at}
use Rattle.desk_follower.specs.declared.Follower.{Follower}
use Rattle.desk_follower.specs.declared.held.Held.{Held}
use Rattle.desk_follower.proofs.Kept.{none_at}
use Rattle.bytes_follower_image.specs.Slot.{slot_bytes}
use Rattle.bytes_follower_image.specs.Held.{slots, held_bytes}
use Rattle.bytes_follower_image.specs.Image.{lost_bytes, showing_bytes, follower_from, shown_read, ImageOf, shown_head}
use Rattle.bytes_follower_image.proofs.OneImage.{follower_read_write}

-- read as

pub read_showing : (b : List ℕ) (s : Picture) (h : Held) → ImageOf b s h → follower_from b ≡ Some (showing s h)
read_showing b s h i = ap follower_from i.bytes ∙ follower_read_write (showing s h) i.fits

pub read_refused : (b : List ℕ) → None ≡ shown_read (follower_from b) → follower_from b ≡ None
read_refused b e = by (follower_from b) e
  where
    by : (o : Option Follower) → None ≡ shown_read o → o ≡ None
    by None q = refl
    by (Some f) q = absurd (cc)

-- with nothing held the slots are zeros

row_nothing : (m k : ℕ) → written slot_bytes (slots m k nothing) ≡ replicate (k * 32) 0
row_nothing m zero = refl
row_nothing m (suc k) =
    let e : held_for nothing m ≡ held.none = none_at 8 (m % 8) in
    let r = row_nothing (suc m) k in
    let x : slot_bytes (held_for nothing m) ≡ replicate 32 0 = ap slot_bytes e in
    let y : 32 + k * 32 ≡ suc k * 32 = omega arith in
    (λ i. x i ++ r i) ∙ (replicate-append-replicate 32 (k * 32) 0 ∙ ap (λ (c : ℕ). replicate c 0) y)

pub held_nothing : (n : ℕ) → held_bytes n nothing ≡ replicate 224 0
held_nothing n = row_nothing (n + 2) 7

pub lost_shown : (b : List ℕ) (floor n : ℕ) (d : Display) → b ≡ lost_bytes floor → sets b 0 (shown_head n d) ≡ showing_bytes (at n d) nothing
lost_shown b floor n d e = ap (λ (l : List ℕ). sets l 0 (shown_head n d)) e ∙ ap (λ (l : List ℕ). shown_head n d ++ l) (sym (held_nothing n))

pub level_shown : (b : List ℕ) (s : Picture) (n : ℕ) (d : Display) → b ≡ showing_bytes s nothing → sets b 0 (shown_head n d) ≡ showing_bytes (at n d) nothing
level_shown b s n d e =
    ap (λ (l : List ℕ). sets l 0 (shown_head n d)) e ∙ ap (λ (l : List ℕ). shown_head n d ++ l) (held_nothing s.number ∙ sym (held_nothing n))
