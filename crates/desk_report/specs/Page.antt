-- A page as the code has it; what it says is said in abstract_page's words.
use Rattle.std.specs.Prelude.{ℕ, ◌-◌, List, length, drop, None, Option, Some}
use Rattle.interface_display.specs.Providers.{none}
use Rattle.interface_display.specs.declared.AvailableConsumer.{AvailableConsumer}
use Rattle.interface_display.specs.declared.packet.Picture.{Picture}
use Rattle.interface_display.specs.declared.State.{State}
use Rattle.wire.specs.Bytes.{ports_bytes}
use Rattle.abstract_page.specs.Page.{Figure, absent, state, Entry, lines, entries, one, millivolts, milliamps, ports}
use Rattle.desk_follower.specs.Follower.{state_of}
use Rattle.desk_follower.specs.declared.Follower.{Follower}
use Rattle.desk_follower.specs.declared.Shown.{Shown}
use Rattle.desk_report.specs.declared.page.Page.{Page}

abbrev pub figure_of : Option ℕ → Figure
figure_of None = absent
figure_of (Some n) = one n

abbrev pub entries_in : Page → List Entry
entries_in p =
    entries (figure_of p.number) (state p.state) (figure_of p.port) (figure_of p.mv) (figure_of p.ma) (ports (ports_bytes p.tracked.mask))

abbrev pub page_bytes : Page → List ℕ
page_bytes p = lines (entries_in p)

-- lost
abbrev pub lost_page : Page
lost_page =
    record {
      number = None;
      state = State.Lost;
      port = None;
      mv = None;
      ma = None;
      tracked = none;
    }

-- level or waiting, what is shown
abbrev pub shown_page : State → Picture → Option AvailableConsumer → Page
shown_page s p None =
    record {
      number = Some p.number;
      state = s;
      port = None;
      mv = None;
      ma = None;
      tracked = p.display.providers;
    }
shown_page s p (Some c) =
    record {
      number = Some p.number;
      state = s;
      port = Some c.psu;
      mv = Some (millivolts c);
      ma = Some (milliamps c);
      tracked = p.display.providers;
    }

abbrev pub showing_page : State → Picture → Page
showing_page s p = shown_page s p p.display.consumer

abbrev pub page_at : State → Shown → Page
page_at s (Shown.Lost floor) = lost_page
page_at s (Shown.Picture p) = showing_page s p

-- of a follower
abbrev pub page_for : Follower → Page
page_for f = page_at (state_of f) f.shown

-- the last twenty bytes of a text, or all of it: what stands at the right of its columns
abbrev pub end_of : List ℕ → List ℕ
end_of s = drop (length s - 20) s
