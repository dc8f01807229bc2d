-- What an image shows decides what a reader returns: the follower that bytes are read as shows it, or there is none.
-- Assumes nothing.
use Rattle.std.specs.Prelude.{◌≡◌, ℕ, List, Option, Some, None, option_map, ok_or, Ok, Err}
use mathlib.Core.Path.{refl, sym, ap, subst, ◌∙◌}
use native.Mathlib.Omega.{arith}
use Rattle.power_policy_interface.specs.Refusal.{refusal_number}
use Rattle.power_policy_interface.specs.declared.refusal.Refusal.{Refusal}
use Rattle.interface_display.specs.declared.packet.Picture.{Picture}
use Rattle.desk_follower.specs.Follower.{showing, state_of}
use Rattle.desk_follower.specs.declared.Follower.{Follower}
use Rattle.desk_follower.specs.declared.held.Held.{Held}
use Rattle.desk_follower.specs.declared.Shown.{Shown}
use Rattle.abstract_calls.specs.Lent.{page_call}
use Rattle.abstract_calls.specs.Called.{refused_call}
use Rattle.abstract_calls.specs.Numbers.{refused_number, lost_number}
use Rattle.desk_report.specs.Page.{page_bytes, page_for}
use Rattle.desk_report.specs.declared.page.Page.{Page}
use Rattle.bytes_follower_image.specs.Image.{follower_from, shown_read, ImageOf, ShownBy}
use Rattle.bytes_take.proofs.Images.{read_showing}
use Rattle.bytes_calls.specs.Calls.{reader_call, shown_as, shown_call, write_page_call}

-- a number made of what is shown
pub of_shown : (r : Option Follower) (s : Shown) (t : Shown → ℕ) → Some s ≡ shown_read r → t s ≡ reader_call r (λ f. t f.shown)
of_shown None s t e = absurd (cc)
of_shown (Some f) s t e = ap t (let q : s ≡ f.shown = cc in q)

-- without one the call is turned back
pub of_none : (r : Option Follower) (t : Follower → ℕ) → None ≡ shown_read r → refused_number 21 ≡ reader_call r t
of_none None t e = refl
of_none (Some f) t e = absurd (cc)

-- lost, whatever the floor
pub of_lost : (r : Option Follower) (floor : ℕ) → Some (Shown.Lost floor) ≡ shown_read r → lost_number ≡ shown_call r
of_lost None floor e = absurd (cc)
of_lost (Some f) floor e = ap (λ (x : Shown). shown_as (state_of f) x) (let q : Shown.Lost floor ≡ f.shown = cc in q)

-- of an image that shows a picture: the follower that shows it with what is held
pub of_picture : {A : Type 0} (b : List ℕ) (o : Option Shown) (p : Picture) → o ≡ Some (Shown.Picture p) → ShownBy b o → (t : Option Follower → A) (n : A)
    → ((h : Held) → ImageOf b p h → n ≡ t (Some (showing p h))) → n ≡ t (follower_from b)
of_picture b o p e s t n g =
    let i = subst (λ (x : Option Shown). ShownBy b x) e s in
    g i.0 i.1 ∙ ap t (sym (read_showing b p i.0 i.1))

-- the page of what is shown is the call's; without one the buffer stays
pub of_page : (r : Option Follower) (page : Page) (buffer : List ℕ) → Ok page ≡ ok_or (option_map page_for r) Refusal.Image
    → page_call (page_bytes page) buffer ≡ write_page_call r buffer
of_page None page buffer e = absurd (cc)
of_page (Some f) page buffer e = ap (λ (x : Page). page_call (page_bytes x) buffer) (let q : page ≡ page_for f = cc in q)

pub no_page : (r : Option Follower) (e : Refusal) (buffer : List ℕ) → Err e ≡ ok_or (option_map page_for r) Refusal.Image
    → refused_call (refusal_number e) buffer ≡ write_page_call r buffer
no_page None e buffer q = ap (λ (x : Refusal). refused_call (refusal_number x) buffer) (let z : e ≡ Refusal.Image = cc in z)
no_page (Some f) e buffer q = absurd (cc)
