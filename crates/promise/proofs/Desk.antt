-- The desk's calls on an image that a follower start left, whatever bytes are taken: the image is read as the code's follower after them, which says what
-- the abstract one does (promise_link proofs/Alike.antt).
use Rattle.std.specs.Prelude.{Err, None, Ok, Option, Result, Some}
use mathlib.Core.Path.{◌≡◌, refl, sym, ap, ◌∙◌, subst}
use mathlib.Core.Bool.{Bool, true, false, cond}
use mathlib.Core.List.{List, []}
use Prim.Native.Nat.{ℕ, ◌%◌}
use native.Mathlib.Omega.{arith}
use lib.Dec.{eqb, lit<}
use lib.ListN.{length}
use Rattle.power_policy_interface.specs.Limits.{follower_length}
use Rattle.interface_records.specs.Row.{AllBytes}
use Rattle.interface_display.specs.Providers.{none}
use Rattle.interface_display.specs.declared.packet.Packet.{Packet}
use Rattle.interface_display.specs.declared.State.{State}
use Rattle.abstract_policy.proofs.First.{first}
use Rattle.wire.specs.Read.{read_packet}
use Rattle.abstract_desk.specs.Follower as paper
use Rattle.abstract_desk.specs.Takes.{paper_after, EachBytes}
use Rattle.desk_follower.specs.Follower.{fresh, state_of, consumer_of}
use Rattle.desk_follower.specs.declared.Follower.{Follower}
use Rattle.desk_follower.specs.declared.Shown.{Shown}
use Rattle.desk_follower.specs.declared.held.Held.{Held}
use Rattle.promise_link.specs.Alike.{seen_at, seen}
use Rattle.promise_link.specs.Link.{follower_after}
use Rattle.promise_link.proofs.Alike.{alike}
use Rattle.abstract_calls.specs.Called.{Called, called, refused_call}
use Rattle.abstract_page.specs.Page.{entries_of, page_of}
use Rattle.abstract_calls.specs.Lent.{take_to, page_call}
use Rattle.abstract_calls.specs.Numbers.{done_number, refused_number, shown_number, consumer_number}
use Rattle.abstract_calls.specs.Calls.{desk_after, desk_returned, desk_buffer_in, desk_buffer_after, desk, packets_of, DeskBytes}
use Rattle.abstract_calls.specs.Definition.{Refuses, followed, desk_return_to, desk_buffer_to, desk_conditions_to}
use Rattle.abstract_calls.specs.DeskCall.{DeskCall, take_packet, read_shown, read_consumer, read_tracked, write_page, shown_by, consumer_by, tracked_by}
use Rattle.abstract_calls.proofs.OneToOne.{one_to_one}
use Rattle.abstract_calls.proofs.Packets.{read_refuses}
use Rattle.abstract_calls.proofs.Pages.{page_refuses, page_back}
use Rattle.abstract_calls.proofs.Results.{packed_low, done_low}
use Rattle.bytes_follower_image.specs.Image.{follower_bytes, follower_from}
use Rattle.bytes_follower_image.proofs.OneImage.{follower_length_lem, follower_bytes_lem}
use Rattle.bytes_calls.specs.Calls.{taken_call, take_on, take_call, reader_call, shown_as, tracked_in}
use Rattle.abi_functions.specs.Ours.{functions}
use Rattle.promise_calls.proofs.Low.{not_two}
use Rattle.promise_calls.proofs.Takes.{each_keeps, desk_is, desk_fits, desk_read}
use Rattle.promise.specs.Promise.{Follows, FollowerStarts}
use Rattle.promise.specs.Runs.{Says}
use Rattle.promise.proofs.Pages.{page_is, page_says}

pub taken_number : (b : List ℕ) (f : Follower) (y : Result Packet ℕ) → (taken_call b f y).number ≡ take_to y
taken_number b f (Err n) = refl
taken_number b f (Ok p) = refl

module _ (x : List ℕ) (e : length x ≡ follower_length) (l : List DeskCall) (a : DeskBytes l) where
  read : follower_from (desk functions x l) ≡ Some (follower_after (packets_of l))
  read = desk_read x e l (each_keeps (packets_of l) a)

  size : length (desk functions x l) ≡ follower_length
  size = ap length (desk_is x e l (each_keeps (packets_of l) a)) ∙ follower_length_lem (follower_after (packets_of l))

  number : (y : List ℕ) → (take_call (desk functions x l) y).number ≡ take_to (read_packet y)
  number y =
      ap (λ (r : Option Follower). (take_on (desk functions x l) r y).number) read
      ∙ taken_number (desk functions x l) (follower_after (packets_of l)) (read_packet y)

  back : (y : List ℕ) (n : ℕ) → read_packet y ≡ Err n → (take_call (desk functions x l) y).bytes ≡ desk functions x l
  back y n q =
      ap (λ (r : Option Follower). (take_on (desk functions x l) r y).bytes) read
      ∙ ap (λ (z : Result Packet ℕ). (taken_call (desk functions x l) (follower_after (packets_of l)) z).bytes) q

  page_same : (buffer : List ℕ) → functions.write_page (desk functions x l) buffer ≡ page_call (page_of (followed l)) buffer
  page_same buffer =
      page_is (desk functions x l) (follower_after (packets_of l)) read (desk_fits x e l (each_keeps (packets_of l) a)) buffer
      ∙ ap (λ (p : paper.Follower). page_call (page_of p) buffer) (alike.takes_alike (packets_of l) a)

  page_told : Says functions (desk functions x l) (entries_of (followed l))
  page_told =
      subst (λ (p : paper.Follower). Says functions (desk functions x l) (entries_of p)) (alike.takes_alike (packets_of l) a)
      (page_says (desk functions x l) (follower_after (packets_of l)) read (desk_fits x e l (each_keeps (packets_of l) a)))

  told : (t : Follower → ℕ) → reader_call (follower_from (desk functions x l)) t ≡ t (follower_after (packets_of l))
  told t = ap (λ (r : Option Follower). reader_call r t) read

-- what the code's follower tells is what the abstract one does

pub shown_by_lem : (s : Shown) (h : Held) (t : State) → t ≡ paper.state (seen_at s h) → shown_as t s ≡ shown_by (seen_at s h)
shown_by_lem (Shown.Lost floor) h t e = refl
shown_by_lem (Shown.Picture s) h t e = ap (λ (u : State). shown_number u s.number s.display) e

pub consumer_by_lem : (s : Shown) (h : Held) → consumer_number (consumer_of s) ≡ consumer_by (seen_at s h)
consumer_by_lem (Shown.Lost floor) h = refl
consumer_by_lem (Shown.Picture s) h = refl

pub tracked_by_lem : (s : Shown) (h : Held) → tracked_in s ≡ tracked_by (seen_at s h)
tracked_by_lem (Shown.Lost floor) h = refl
tracked_by_lem (Shown.Picture s) h = refl

module _ (l : List (List ℕ)) (a : EachBytes l) where
  same : seen (follower_after l) ≡ paper_after l
  same = alike.takes_alike l a

  shown_same : shown_as (state_of (follower_after l)) (follower_after l).shown ≡ shown_by (paper_after l)
  shown_same =
      shown_by_lem (follower_after l).shown (follower_after l).held (state_of (follower_after l)) (alike.takes_state l a ∙ ap (λ (p : paper.Follower). paper.state p) (sym same))
      ∙ ap shown_by same

  consumer_same : consumer_number (consumer_of (follower_after l).shown) ≡ consumer_by (paper_after l)
  consumer_same = consumer_by_lem (follower_after l).shown (follower_after l).held ∙ ap consumer_by same

  tracked_same : tracked_in (follower_after l).shown ≡ tracked_by (paper_after l)
  tracked_same = tracked_by_lem (follower_after l).shown (follower_after l).held ∙ ap tracked_by same

-- a reader is never turned back

pub free : (n w : ℕ) → n % 256 ≡ w → (w ≡ 0 → ⊥) → Refuses [] n
free n w e d = record { first = first [] refl; turned_back = λ z. absurd (z refl); accepted = λ z k. d (sym e ∙ k) }

shown_low : (p : paper.Follower) → shown_by p % 256 ≡ 5
shown_low (paper.lost floor) = packed_low 5 0 0 0 0 0 (lit< tt)
shown_low (paper.showing n d l) = one_to_one.outcomes.shown (paper.state (paper.showing n d l)) n d

consumer_low : (p : paper.Follower) → consumer_by p % 256 ≡ 6
consumer_low (paper.lost floor) = one_to_one.outcomes.consumer None
consumer_low (paper.showing n d l) = one_to_one.outcomes.consumer d.consumer

tracked_low : (p : paper.Follower) → tracked_by p % 256 ≡ 7
tracked_low (paper.lost floor) = one_to_one.outcomes.tracked none
tracked_low (paper.showing n d l) = one_to_one.outcomes.tracked d.providers

module _ (x : List ℕ) (e : length x ≡ follower_length) (l : List DeskCall) (a : DeskBytes l) where
  returns : (c : DeskCall) → desk_returned functions (desk functions x l) c ≡ desk_return_to (followed l) c
  returns (take_packet y) = number x e l a y
  returns read_shown = told x e l a (λ f. shown_as (state_of f) f.shown) ∙ shown_same (packets_of l) a
  returns read_consumer = told x e l a (λ f. consumer_number (consumer_of f.shown)) ∙ consumer_same (packets_of l) a
  returns read_tracked = told x e l a (λ f. tracked_in f.shown) ∙ tracked_same (packets_of l) a
  returns (write_page buffer) = ap (λ (c : Called). c.number) (page_same x e l a buffer)

  told_refuses : (c : DeskCall) → Refuses (desk_conditions_to (followed l) c) (desk_return_to (followed l) c)
  told_refuses (take_packet y) = read_refuses y (read_packet y) refl
  told_refuses read_shown = free (shown_by (followed l)) 5 (shown_low (followed l)) (λ z. omega (arith, z))
  told_refuses read_consumer = free (consumer_by (followed l)) 6 (consumer_low (followed l)) (λ z. omega (arith, z))
  told_refuses read_tracked = free (tracked_by (followed l)) 7 (tracked_low (followed l)) (λ z. omega (arith, z))
  told_refuses (write_page buffer) = page_refuses (page_of (followed l)) buffer

  turned_back : (c : DeskCall) → desk_returned functions (desk functions x l) c % 256 ≡ 0 →
      (desk_after functions (desk functions x l) c ≡ desk functions x l) × (desk_buffer_after functions (desk functions x l) c ≡ desk_buffer_in c)
  turned_back (take_packet y) k = go (read_packet y) refl
    where
      go : (r : Result Packet ℕ) → read_packet y ≡ r → (desk_after functions (desk functions x l) (take_packet y) ≡ desk functions x l) × (◌≡◌ {A = List ℕ} [] [])
      go (Err n) q = (back x e l a y n q, refl)
      go (Ok p) q =
          absurd (not_two done_low (ap (λ (n : ℕ). n % 256) (sym (number x e l a y ∙ ap take_to q)) ∙ k) refl)
  turned_back read_shown k = (refl, refl)
  turned_back read_consumer k = (refl, refl)
  turned_back read_tracked k = (refl, refl)
  turned_back (write_page buffer) k =
      let e = page_same x e l a buffer in
      (refl, ap (λ (c : Called). c.bytes) e ∙ page_back (page_of (followed l)) buffer (ap (λ (c : Called). c.number % 256) (sym e) ∙ k))

  buffers : (c : DeskCall) → desk_buffer_after functions (desk functions x l) c ≡ desk_buffer_to (followed l) c
  buffers (take_packet y) = refl
  buffers read_shown = refl
  buffers read_consumer = refl
  buffers read_tracked = refl
  buffers (write_page buffer) = ap (λ (c : Called). c.bytes) (page_same x e l a buffer)

ours_follows : (x : List ℕ) → length x ≡ follower_length → Follows functions x
ours_follows x e = record {
  fresh_lost = record {
    shown = told x e [] tt (λ f. shown_as (state_of f) f.shown);
    consumer = told x e [] tt (λ f. consumer_number (consumer_of f.shown));
    tracked = told x e [] tt (λ f. tracked_in f.shown);
    page = page_told x e [] tt;
  };
  refuses = λ l c a. subst (λ (n : ℕ). Refuses (desk_conditions_to (followed l) c) n) (sym (returns x e l a c)) (told_refuses x e l a c);
  turned_back = λ l c a k. turned_back x e l a c k;
  returns = λ l c a. returns x e l a c;
  buffers = λ l c a. buffers x e l a c;
  page = λ l a. page_told x e l a;
  size = λ l a. size x e l a;
  bytes = λ l a.
      subst AllBytes (sym (desk_is x e l (each_keeps (packets_of l) a)))
      (follower_bytes_lem (follower_after (packets_of l)) (desk_fits x e l (each_keeps (packets_of l) a)));
}

pub ours_follower_starts : (x : List ℕ) → FollowerStarts functions x
ours_follower_starts x = record {
  number = number (eqb (length x) follower_length);
  turned_back = λ e. ap (λ (t : Bool). (cond {A = Called} t (called done_number (follower_bytes fresh)) (refused_call 21 x)).bytes) e;
  follows = ours_follows x;
}
  where
    number : (t : Bool) → (cond {A = Called} t (called done_number (follower_bytes fresh)) (refused_call 21 x)).number ≡ cond t done_number (refused_number 21)
    number true = refl
    number false = refl
