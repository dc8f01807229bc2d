-- The places are tested in turn; one that fails decides.
use mathlib.Core.Path.{refl, ◌∙◌}
use Prim.Native.Nat.{◌+◌, ◌*◌}
use Rattle.std.proofs.Common.{rules}
use Rattle.std.proofs.lemmas.Iterator.{YieldsList-from_range}
use Rattle.std.proofs.lemmas.Iterator.Search.{all_from_yields_List}
use Rattle.bytes_groups.specs.Tagged.{tagged_at}
use Rattle.bytes_follower_image.specs.Notice.{place_from, is_notice}
use Rattle.bytes_follower_image.proofs.Tests.{notices_tested}
use Rattle.bytes_follower_image.proofs.slot.notices_fit.Goals as goal

pub returns : goal.returns
returns c =
    let x = c.args in
    let s = x.s.now in
    all_from_yields_List (λ k. is_notice (place_from x.count k (tagged_at s (4 + 7 * k)))) _ _ c.all.result c.all.ensures.ran
    (YieldsList-from_range 0 4 4 refl refl) (λ k b q h. search rules)
    ∙ notices_tested x.count (place_from x.count 0 (tagged_at s 4)) (place_from x.count 1 (tagged_at s 11))
    (place_from x.count 2 (tagged_at s 18)) (place_from x.count 3 (tagged_at s 25))
