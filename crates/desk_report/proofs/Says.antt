-- What a page of the code says is what the definition says of it; it has a page's length.
-- Assumes nothing.
use Rattle.std.specs.Prelude.{None, Option, Some}
use mathlib.Core.Path.{◌≡◌, refl, ap, ◌∙◌}
use mathlib.Core.List.{List}
use lib.ListN.{length}
use Rattle.power_policy_interface.specs.Limits.{page_length}
use Rattle.interface_display.specs.declared.AvailableConsumer.{AvailableConsumer}
use Rattle.interface_display.specs.declared.packet.Picture.{Picture}
use Rattle.interface_display.specs.declared.State.{State}
use Rattle.wire.specs.Bytes.{ports_bytes}
use Rattle.abstract_page.specs.Page.{Entry, lines, state, entries, one, millivolts, milliamps, of_consumer, ports, lost_entries, shown_entries}
use Rattle.abstract_page.proofs.Read.{lost_length, shown_length}
use Rattle.desk_follower.specs.Follower.{state_of}
use Rattle.desk_follower.specs.declared.Follower.{Follower}
use Rattle.desk_follower.specs.declared.Shown.{Shown}
use Rattle.desk_report.specs.Page.{entries_in, page_bytes, lost_page, shown_page, showing_page, page_at, page_for}

pub lost_says : entries_in lost_page ≡ lost_entries
unfolding ports_bytes
lost_says = refl

by_consumer : (s : State) (p : Picture) (c : Option AvailableConsumer) → entries_in (shown_page s p c)
    ≡ entries (one p.number) (state s) (of_consumer (λ a. a.psu) c) (of_consumer millivolts c) (of_consumer milliamps c) (ports (ports_bytes p.display.providers.mask))
by_consumer s p None = refl
by_consumer s p (Some a) = refl

pub showing_says : (s : State) (p : Picture) → entries_in (showing_page s p) ≡ shown_entries s p.number p.display
showing_says s p = by_consumer s p p.display.consumer

length_at : (s : State) (x : Shown) → length (page_bytes (page_at s x)) ≡ page_length
length_at s (Shown.Lost floor) = ap (λ (l : List Entry). length (lines l)) lost_says ∙ lost_length
length_at s (Shown.Picture p) = ap (λ (l : List Entry). length (lines l)) (showing_says s p) ∙ shown_length s p.number p.display

pub page_length_lem : (f : Follower) → length (page_bytes (page_for f)) ≡ page_length
page_length_lem f = length_at (state_of f) f.shown
