-- What is left to write completes the packet.
use mathlib.Core.Path.{◌≡◌, ap, sym, ◌∙◌}
use mathlib.Core.List.{List}
use Prim.Native.Nat.{ℕ, suc, ◌+◌, ◌-◌, ◌*◌}
use native.Mathlib.Omega.{arith}
use lib.Seq.{sets}
use lib.ListN.{get_or}
use Rattle.interface_display.specs.Notices.{filler}
use Rattle.bytes_groups.specs.Tagged.{tagged_bytes}
use Rattle.bytes_follower_image.specs.Notice.{place_tagged}
use Rattle.bytes_groups.proofs.Places.{sets_append}
use Rattle.bytes_follower_image.proofs.Slots.{places_left}
use Rattle.bytes_follower_image.proofs.slot.packet_bytes.Goals as goal

pub loop-k-init : goal.loop-k-init
loop-k-init c = ap (λ (l : List ℕ). sets l 4 (places_left c.args.p.notices 0 4)) c.put.ensures

pub loop-k-preserved : goal.loop-k-preserved
loop-k-preserved c =
    let n = c.args.p.notices in
    let l = c.loop-k in
    let v = tagged_bytes (place_tagged n.count l.k (get_or n.events l.k filler)) in
    let b : c.bytes.result ≡ v = c.bytes.ensures ∙ ap tagged_bytes c.place-notice.ensures in
    let w = c.put-in-loop-k.ensures ∙ ap (sets l.out (4 + 7 * l.k)) b in
    let r : 4 - l.k ≡ suc (4 - (l.k + 1)) = omega (arith, c.loop-k-test.true) in
    let at : 4 + 7 * (l.k + 1) ≡ 4 + 7 * l.k + 7 = omega arith in
    let k : l.k + 1 ≡ suc l.k = omega arith in
    (λ i. sets (w i) (at i) (places_left n (k i) (4 - (l.k + 1))))
    ∙ (sets_append v (places_left n (suc l.k) (4 - (l.k + 1))) l.out (4 + 7 * l.k)
    ∙ (ap (λ (j : ℕ). sets l.out (4 + 7 * l.k) (places_left n l.k j)) (sym r) ∙ l.invariant))

pub returns : goal.returns
returns c =
    let l = c.loop-k in
    let e : l.k ≡ 4 = omega (arith, c.loop-k-test.false) in
    sym (ap (λ (j : ℕ). sets l.out (4 + 7 * j) (places_left c.args.p.notices j (4 - j))) e) ∙ l.invariant
