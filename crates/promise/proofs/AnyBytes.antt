-- The desk's calls on any bytes: where no follower is written so, 21 is the first of their conditions, else it does not apply and what follows it decides.
use Rattle.std.specs.Prelude.{Err, None, Ok, Option, Result, Some, is_none, unwrap_or}
use mathlib.Core.Path.{◌≡◌, refl, ap, ◌∙◌}
use mathlib.Core.Bool.{Bool, true, false}
use mathlib.Core.List.{List, [], ◌∷◌}
use Prim.Native.Nat.{ℕ, ◌%◌}
use native.Mathlib.Omega.{arith}
use lib.Dec.{lit<}
use Rattle.interface_display.specs.Providers.{none}
use Rattle.interface_display.specs.declared.State.{State}
use Rattle.abstract_policy.specs.Refusals.{Ascending}
use Rattle.abstract_policy.proofs.First.{first}
use Rattle.wire.specs.Read.{read_packet}
use Rattle.interface_display.specs.declared.packet.Packet.{Packet}
use Rattle.abstract_calls.specs.Calls.{desk_after, desk_returned, desk_buffer_in, desk_buffer_after}
use Rattle.abstract_calls.specs.Definition.{Refuses}
use Rattle.abstract_calls.specs.DeskCall.{DeskCall, desk_call, take_packet, read_shown, read_consumer, read_tracked, write_page, shown_by, consumer_by, tracked_by}
use Rattle.abstract_calls.specs.Lent.{take_to}
use Rattle.abstract_calls.specs.Numbers.{consumer_number}
use Rattle.abstract_calls.proofs.OneToOne.{one_to_one}
use Rattle.abstract_calls.proofs.Packets.{read_refuses}
use Rattle.abstract_calls.proofs.Pages.{page_refuses, page_back}
use Rattle.abstract_calls.proofs.Results.{packed_low, done_low}
use Rattle.desk_follower.specs.Follower.{fresh, state_of, consumer_of}
use Rattle.desk_follower.specs.declared.Follower.{Follower}
use Rattle.desk_follower.specs.declared.Shown.{Shown}
use Rattle.desk_report.specs.Page.{page_bytes, page_for}
use Rattle.bytes_follower_image.specs.Fits.{image_fits}
use Rattle.bytes_follower_image.specs.Image.{follower_from}
use Rattle.bytes_follower_image.proofs.OneImage.{fits}
use Rattle.bytes_calls.specs.Calls.{taken_call, take_on, reader_call, shown_as, tracked_in, shown_call, consumer_call, tracked_call, write_page_call}
use Rattle.abi_functions.specs.Ours.{functions}
use Rattle.promise_calls.specs.Refused.{desk_conditions}
use Rattle.promise_calls.proofs.Low.{not_two, refused_first}
use Rattle.promise_link.specs.Alike.{seen}
use Rattle.promise_link.proofs.Alike.{alike}
use Rattle.promise.proofs.Desk.{taken_number, free, shown_by_lem, consumer_by_lem, tracked_by_lem}

-- a condition that does not hold comes before
over : (k n : ℕ) (l : List (Bool × ℕ)) → Ascending ((false, k) ∷ l) → Refuses l n → Refuses ((false, k) ∷ l) n
over k n l a r = record { first = first ((false, k) ∷ l) a; turned_back = r.turned_back; accepted = r.accepted }

shown_low : (t : State) (s : Shown) → shown_as t s % 256 ≡ 5
shown_low t (Shown.Lost floor) = packed_low 5 0 0 0 0 0 (lit< tt)
shown_low t (Shown.Picture s) = one_to_one.outcomes.shown t s.number s.display

tracked_low : (s : Shown) → tracked_in s % 256 ≡ 7
tracked_low (Shown.Lost floor) = one_to_one.outcomes.tracked none
tracked_low (Shown.Picture s) = one_to_one.outcomes.tracked s.display.providers

-- what our functions return of bytes that are read so
returned_on : Option Follower → List ℕ → DeskCall → ℕ
returned_on r b (take_packet y) = (take_on b r y).number
returned_on r b read_shown = shown_call r
returned_on r b read_consumer = consumer_call r
returned_on r b read_tracked = tracked_call r
returned_on r b (write_page buffer) = (write_page_call r buffer).number

returned_on_lem : (b : List ℕ) (c : DeskCall) → desk_returned functions b c ≡ returned_on (follower_from b) b c
unfolding returned_on
returned_on_lem b (take_packet y) = refl
returned_on_lem b read_shown = refl
returned_on_lem b read_consumer = refl
returned_on_lem b read_tracked = refl
returned_on_lem b (write_page buffer) = refl

refuses_on : (r : Option Follower) (b : List ℕ) (c : DeskCall) → Refuses ((is_none r, 21) ∷ (desk_call c).conditions (seen (unwrap_or r fresh))) (returned_on r b c)
unfolding returned_on
refuses_on (Some f) b (take_packet y) =
    rw (taken_number b f (read_packet y)) (over 21 (take_to (read_packet y)) _ refl (read_refuses y (read_packet y) refl))
refuses_on (Some f) b read_shown = over 21 _ [] refl (free (shown_as (state_of f) f.shown) 5 (shown_low (state_of f) f.shown) (λ z. omega (arith, z)))
refuses_on (Some f) b read_consumer = over 21 _ [] refl (free (consumer_number (consumer_of f.shown)) 6 (one_to_one.outcomes.consumer (consumer_of f.shown)) (λ z. omega (arith, z)))
refuses_on (Some f) b read_tracked = over 21 _ [] refl (free (tracked_in f.shown) 7 (tracked_low f.shown) (λ z. omega (arith, z)))
refuses_on (Some f) b (write_page buffer) = over 21 _ _ refl (page_refuses (page_bytes (page_for f)) buffer)
refuses_on None b (take_packet y) = refused_first _ 21 refl refl refl
refuses_on None b read_shown = refused_first _ 21 refl refl refl
refuses_on None b read_consumer = refused_first _ 21 refl refl refl
refuses_on None b read_tracked = refused_first _ 21 refl refl refl
refuses_on None b (write_page buffer) = refused_first _ 21 refl refl refl

pub desk_refuses : (b : List ℕ) (c : DeskCall) → Refuses (desk_conditions b c) (desk_returned functions b c)
desk_refuses b c = rw (returned_on_lem b c) (refuses_on (follower_from b) b c)

-- turned back, every byte stays

taken_back : (b : List ℕ) (f : Follower) (r : Result Packet ℕ) → (taken_call b f r).number % 256 ≡ 0 → (taken_call b f r).bytes ≡ b
taken_back b f (Err n) k = refl
taken_back b f (Ok p) k = absurd (not_two done_low k refl)

take_back : (r : Option Follower) (b y : List ℕ) → (take_on b r y).number % 256 ≡ 0 → (take_on b r y).bytes ≡ b
take_back (Some f) b y k = taken_back b f (read_packet y) k
take_back None b y k = refl

write_back : (r : Option Follower) (buffer : List ℕ) → (write_page_call r buffer).number % 256 ≡ 0 → (write_page_call r buffer).bytes ≡ buffer
write_back (Some f) buffer k = page_back (page_bytes (page_for f)) buffer k
write_back None buffer k = refl

pub desk_turned_back : (b : List ℕ) (c : DeskCall) → desk_returned functions b c % 256 ≡ 0 →
    (desk_after functions b c ≡ b) × (desk_buffer_after functions b c ≡ desk_buffer_in c)
desk_turned_back b (take_packet y) k = (take_back (follower_from b) b y k, refl)
desk_turned_back b read_shown k = (refl, refl)
desk_turned_back b read_consumer k = (refl, refl)
desk_turned_back b read_tracked k = (refl, refl)
desk_turned_back b (write_page buffer) k = (refl, write_back (follower_from b) buffer k)

-- on an image the readers tell what the abstract follower shows
module _ (b : List ℕ) (f : Follower) (r : follower_from b ≡ Some f) (i : image_fits f ≡ true) where
  told : (t : Follower → ℕ) → reader_call (follower_from b) t ≡ t f
  told t = ap (λ (x : Option Follower). reader_call x t) r

  pub readers_on : (functions.shown b ≡ shown_by (seen f)) × (functions.consumer b ≡ consumer_by (seen f)) × (functions.tracked b ≡ tracked_by (seen f))
  readers_on = (
    told (λ x. shown_as (state_of x) x.shown) ∙ shown_by_lem f.shown f.held (state_of f) (alike.state f (fits f i).formed),
    told (λ x. consumer_number (consumer_of x.shown)) ∙ consumer_by_lem f.shown f.held,
    told (λ x. tracked_in x.shown) ∙ tracked_by_lem f.shown f.held,
  )
