-- What holds of every page (proofs/Read.antt, Same.antt).
use Rattle.std.specs.Prelude.{ℕ, [], ◌∷◌, ◌≡◌, drop, length as count, None, Option, Some}
use Rattle.interface_display.specs.declared.AvailableConsumer.{AvailableConsumer}
use Rattle.power_policy_interface.specs.Limits.{page_length}
use Rattle.interface_display.specs.declared.providers.Providers.{Providers}
use Rattle.interface_display.specs.declared.State.{State}
use Rattle.abstract_desk.specs.Follower.{Follower, lost, showing, state}
use Rattle.abstract_page.specs.Page.{Entry, line, millivolts, milliamps, entries_of, page_of, Fits}
use Rattle.abstract_page.specs.ReadPage.{read_page}
use Rattle.abstract_page.specs.Text.{newline}

-- what a page tells: nothing if lost, else number, state, the consumer's port, mV and mA, and the tracked ports

abbrev pub consumed : Option AvailableConsumer → Option (ℕ × ℕ × ℕ)
consumed None = None
consumed (Some c) = Some (c.psu, millivolts c, milliamps c)

abbrev pub told : Follower → Option (ℕ × State × Option (ℕ × ℕ × ℕ) × Providers)
told (lost floor) = None
told (showing n d held) = Some (n, state (showing n d held), consumed d.consumer, d.providers)

pub record PageLaws : Type 0 where
  -- S1-1: six lines, each of 40 columns and a newline, 246 bytes in all
  pub six : (p : Follower) → count (entries_of p) ≡ 6
  pub columns : (e : Entry) → (count (line e) ≡ 41) × (drop 40 (line e) ≡ newline ∷ [])
  pub length : (p : Follower) → count (page_of p) ≡ page_length
  -- S1-7: figures and names can be read back,
  pub read : (p : Follower) → Fits p → read_page (page_of p) ≡ entries_of p
  -- and no figure is lost on the way: equal pages tell the same
  pub same : (p q : Follower) → Fits p → Fits q → page_of p ≡ page_of q → told p ≡ told q
