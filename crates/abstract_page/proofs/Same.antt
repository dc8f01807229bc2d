-- Equal pages tell the same: what is read from them is equal, entry by entry, and each figure is one of the follower's.
-- Assumes nothing.
use Rattle.std.specs.Prelude.{None, Option, Some}
use mathlib.Core.Path.{◌≡◌, refl, ap, sym, ◌∙◌}
use mathlib.Core.Bool.{true}
use mathlib.Core.List.{List, [], ◌∷◌}
use Rattle.interface_display.specs.declared.AvailableConsumer.{AvailableConsumer}
use Prim.Native.Nat.{ℕ, zero, suc, ◌<◌}
use lib.Dec.{leb, ltb}
use lib.ListN.{length}
use borrow.Author.Tests.{ltb-true}
use Rattle.power_policy_interface.specs.Limits.{largest, max_ports}
use Rattle.std.proofs.lemmas.Bool.{and_parts}
use Rattle.interface_display.specs.Providers.{len}
use Rattle.interface_display.specs.declared.Display.{Display}
use Rattle.interface_display.specs.declared.providers.Providers.{Providers}
use Rattle.interface_display.specs.declared.State.{State}
use Rattle.wire.specs.Bytes.{ports_bytes}
use Rattle.wire.specs.Packet as wire
use Rattle.wire.specs.Parser.{parsed}
use Rattle.wire.specs.WellFormed.{picture_fits, consumer_fits}
use Rattle.wire.proofs.Tracked.{count_ports, tracked_back}
use Rattle.abstract_desk.specs.Follower as desk
use Rattle.abstract_page.specs.Page.{Figure, absent, state, Entry, one, millivolts, milliamps, of_consumer, ports, entries_of, page_of, Fits}
use Rattle.abstract_page.specs.PageLaws.{consumed, told, PageLaws}
use Rattle.abstract_page.specs.ReadPage.{read_page}
use Rattle.abstract_page.proofs.Read.{line_length, line_ends, page_length_lem, page_read}

-- the figure of an entry
figure : ℕ → List Entry → Figure
figure i [] = absent
figure zero (e ∷ l) = e.figure
figure (suc i) (e ∷ l) = figure i l

absent_or_one : {A : Type 0} (n : ℕ) → absent ≡ one n → A
absent_or_one n e = absurd (cc)

one_one : (n m : ℕ) → one n ≡ one m → n ≡ m
one_one n m e = cc

consumer_same : (c k : Option AvailableConsumer) → of_consumer (λ a. a.psu) c ≡ of_consumer (λ a. a.psu) k → of_consumer millivolts c ≡ of_consumer millivolts k
    → of_consumer milliamps c ≡ of_consumer milliamps k → consumed c ≡ consumed k
consumer_same None None p v a = refl
consumer_same None (Some k) p v a = absent_or_one k.psu p
consumer_same (Some c) None p v a = absent_or_one c.psu (sym p)
consumer_same (Some c) (Some k) p v a =
    let x = one_one c.psu k.psu p in
    let y = one_one (millivolts c) (millivolts k) v in
    let z = one_one (milliamps c) (milliamps k) a in
    λ i. Some (x i, y i, z i)

ports_same : (l k : List ℕ) → ports l ≡ ports k → l ≡ k
ports_same [] [] e = refl
ports_same [] (q ∷ k) e = absurd (cc)
ports_same (p ∷ l) [] e = absurd (cc)
ports_same (p ∷ l) (q ∷ k) e = cc

one_set : (t u : Providers) → parsed t [] ≡ parsed u [] → t ≡ u
one_set t u e = cc

counted : (t : Providers) → length (ports_bytes t.mask) ≡ len t
unfolding ports_bytes
counted t = count_ports 16 0 t.mask

tracked_same : (t u : Providers) → t.mask < 65536 → u.mask < 65536 → ports_bytes t.mask ≡ ports_bytes u.mask → t ≡ u
tracked_same t u h k e =
    let n : len t ≡ len u = sym (counted t) ∙ (ap length e ∙ counted u) in
    one_set t u (sym (tracked_back t h) ∙ ((λ i. wire.ports (n i) 0 0 (e i)) ∙ tracked_back u k))

mask_fits : (n : ℕ) (d : Display) → picture_fits (record { number = n; display = d }) ≡ true → d.providers.mask < 65536
unfolding picture_fits
mask_fits n d h =
    let r = (and_parts (leb d.unconstrained.available max_ports) _ (and_parts (consumer_fits d.consumer) _ (and_parts (leb n largest) _ h).1).1).1 in
    ltb-true d.providers.mask 65536 (and_parts (ltb d.providers.mask 65536) _ r).0

same_told : (p q : desk.Follower) → Fits p → Fits q → entries_of p ≡ entries_of q → told p ≡ told q
unfolding figure
same_told (desk.lost a) (desk.lost b) h k e = refl
same_told (desk.lost a) (desk.showing m d w) h k e = absent_or_one m (ap (figure 0) e)
same_told (desk.showing n c v) (desk.lost b) h k e = absent_or_one n (sym (ap (figure 0) e))
same_told (desk.showing n c v) (desk.showing m d w) h k e =
    let x = one_one n m (ap (figure 0) e) in
    let s : desk.state (desk.showing n c v) ≡ desk.state (desk.showing m d w) = states (desk.state (desk.showing n c v)) (desk.state (desk.showing m d w)) (ap (figure 1) e) in
    let a = consumer_same c.consumer d.consumer (ap (figure 2) e) (ap (figure 3) e) (ap (figure 4) e) in
    let t = tracked_same c.providers d.providers (mask_fits n c h) (mask_fits m d k) (ports_same (ports_bytes c.providers.mask) (ports_bytes d.providers.mask) (ap (figure 5) e)) in
    λ i. Some (x i, s i, a i, t i)
  where
    states : (s t : State) → state s ≡ state t → s ≡ t
    states s t e = cc

page_same : (p q : desk.Follower) → Fits p → Fits q → page_of p ≡ page_of q → told p ≡ told q
page_same p q h k e = same_told p q h k (sym (page_read p h) ∙ (ap read_page e ∙ page_read q k))

page_six : (p : desk.Follower) → length (entries_of p) ≡ 6
page_six (desk.lost floor) = refl
page_six (desk.showing n d held) = refl

pub page_laws : PageLaws
page_laws = record {
  six = page_six;
  columns = λ e. (line_length e, line_ends e);
  length = page_length_lem;
  read = page_read;
  same = page_same;
}
