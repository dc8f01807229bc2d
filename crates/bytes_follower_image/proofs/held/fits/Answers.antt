-- The slots are the bytes from 17 on in chunks of 32, each tested at its event.
use Rattle.std.specs.List.{list_all, enumerate_from}
use Rattle.std.specs.Simd.{first_chunks}
use Rattle.std.proofs.Common.{rules}
use Rattle.std.proofs.lemmas.Iterator.{YieldsList-from_slice}
use Rattle.std.proofs.lemmas.Iterator.Consumers.{YieldsList-at, YieldsList-from_enumerate}
use Rattle.std.proofs.lemmas.Iterator.Search.{all_from_yields_List}
use mathlib.Core.Path.{◌≡◌, ap, ◌∙◌}
use mathlib.Core.List.{List}
use Prim.Native.Nat.{ℕ, ◌+◌, ◌/◌}
use native.Mathlib.Omega.{arith}
use lib.ListN.{length, take, drop, length-drop}
use lib.Seq.{take_all}
use Rattle.desk_follower.specs.Held.{nothing}
use Rattle.bytes_follower_image.specs.Slot.{slot_from, is_read}
use Rattle.bytes_follower_image.specs.Held.{slots_from, is_held}
use Rattle.bytes_follower_image.proofs.Rows.{slots_tested}
use Rattle.bytes_follower_image.proofs.held.fits.Goals as goal

pub returns : goal.returns
returns c =
    let x = c.args in
    let s : List ℕ = drop 17 x.image.now in
    let m : ℕ = x.number + 2 in
    let n : length s ≡ 224 = omega (arith, length-drop 17 x.image.now, c.told-image) in
    let t : take 224 s ≡ s = take_all 224 s (omega (arith, n)) in
    let e : c.as_chunks.result.0.now ≡ first_chunks 32 7 s =
    c.as_chunks.ensures.front
    ∙ (ap (λ (l : List ℕ). first_chunks 32 (length l / 32) l) t ∙ ap (λ (k : ℕ). first_chunks 32 (k / 32) s) n) in
    let a : m + 0 ≡ m = omega arith in
    all_from_yields_List (λ p. is_read (slot_from (m + p.0) p.1)) _ _ c.all.result c.all.ensures.ran
    (YieldsList-from_enumerate (YieldsList-at c.enumerate.ensures.source (YieldsList-from_slice c.as_chunks.result.0.now (cc))) c.enumerate.ensures.count)
    (λ k r q h. search rules)
    ∙ (ap (λ (l : List (List ℕ)). list_all (λ p. is_read (slot_from (m + p.0) p.1)) (enumerate_from 0 l)) e
    ∙ (slots_tested m 7 0 s nothing ∙ ap (λ (j : ℕ). is_held (slots_from j 7 s nothing)) a))
