-- Our page of an image is the definition's page of the follower that it is the image of, seen as the abstract one; and so it is read as what that shows.
use Rattle.std.specs.Prelude.{Option, Some}
use mathlib.Core.Path.{◌≡◌, ap, ◌∙◌, subst}
use mathlib.Core.Bool.{true}
use mathlib.Core.List.{List, [], ◌∷◌}
use mathlib.Core.Logic.{◌⊎◌, inl, inr}
use Prim.Native.Nat.{ℕ}
use lib.ListN.{take}
use Rattle.power_policy_interface.specs.Limits.{page_length}
use Rattle.interface_display.specs.declared.Display.{Display}
use Rattle.interface_display.specs.declared.packet.EventPacket.{EventPacket}
use Rattle.interface_display.specs.declared.State.{State}
use Rattle.abstract_desk.specs.Follower as paper
use Rattle.abstract_desk.specs.Takes.{paper_after, EachBytes}
use Rattle.abstract_page.specs.Page.{lines, shown_entries, entries_of, page_of, Fits}
use Rattle.abstract_page.specs.ReadPage.{read_page}
use Rattle.abstract_page.proofs.Same.{page_laws}
use Rattle.abstract_calls.specs.Called.{Called}
use Rattle.abstract_calls.specs.Lent.{page_call}
use Rattle.abstract_calls.specs.Numbers.{shown_number}
use Rattle.abstract_calls.proofs.Pages.{page_said}
use Rattle.desk_follower.specs.Follower.{fresh, state_of}
use Rattle.desk_follower.specs.declared.Follower.{Follower}
use Rattle.desk_follower.specs.declared.Shown.{Shown}
use Rattle.desk_follower.specs.declared.held.Held.{Held}
use Rattle.desk_report.specs.Page.{page_bytes, page_at}
use Rattle.desk_report.proofs.Says.{lost_says, showing_says}
use Rattle.bytes_follower_image.specs.Fits.{shown_fits, image_fits}
use Rattle.bytes_follower_image.specs.Image.{follower_from}
use Rattle.bytes_follower_image.proofs.OneImage.{fits, fresh_fits}
use Rattle.bytes_calls.specs.Calls.{write_page_call}
use Rattle.abi_functions.specs.Ours.{functions}
use Rattle.promise_link.specs.Alike.{seen_at, seen}
use Rattle.promise_link.specs.Link.{follower_after}
use Rattle.promise_link.proofs.Alike.{alike}
use Rattle.promise_calls.proofs.Takes.{each_keeps, takes_fit}
use Rattle.promise.specs.Runs.{Says, ShownAs}

page_by : (s : Shown) (h : Held) (t : State) → t ≡ paper.state (seen_at s h) → page_bytes (page_at t s) ≡ page_of (seen_at s h)
page_by (Shown.Lost floor) h t e = ap lines lost_says
page_by (Shown.Picture s) h t e = ap lines (showing_says t s ∙ ap (λ (u : State). shown_entries u s.number s.display) e)

fits_by : (s : Shown) (h : Held) → shown_fits s ≡ true → Fits (seen_at s h)
fits_by (Shown.Lost floor) h e = tt
fits_by (Shown.Picture s) h e = e

module _ (b : List ℕ) (f : Follower) (r : follower_from b ≡ Some f) (i : image_fits f ≡ true) where
  pub page_is : (buffer : List ℕ) → functions.write_page b buffer ≡ page_call (page_of (seen f)) buffer
  page_is buffer =
      ap (λ (x : Option Follower). write_page_call x buffer) r
      ∙ ap (λ (y : List ℕ). page_call y buffer) (page_by f.shown f.held (state_of f) (alike.state f (fits f i).formed))

  pub page_says : Says functions b (entries_of (seen f))
  page_says buffer h =
      ap (λ (c : Called). read_page (take page_length c.bytes)) (page_is buffer)
      ∙ page_said (entries_of (seen f)) (page_laws.length (seen f)) (page_laws.read (seen f) (fits_by f.shown f.held (fits f i).shown)) buffer h

-- showing, it is level or waiting, by the reader and by the page
pub shown_either : (b : List ℕ) (n : ℕ) (d : Display) (l : List EventPacket) → functions.shown b ≡ shown_number (paper.state (paper.showing n d l)) n d
    → Says functions b (entries_of (paper.showing n d l)) → ShownAs functions b State.Level n d ⊎ ShownAs functions b State.Waiting n d
shown_either b n d [] r s = inl (r, s)
shown_either b n d (e ∷ l) r s = inr (r, s)

-- after any takes what is shown is within what a picture has
pub reached_fit : (l : List (List ℕ)) → EachBytes l → Fits (paper_after l)
reached_fit l a =
    let i = takes_fit l fresh (each_keeps l a) fresh_fits in
    subst (λ (p : paper.Follower). Fits p) (alike.takes_alike l a) (fits_by (follower_after l).shown (follower_after l).held (fits (follower_after l) i).shown)
