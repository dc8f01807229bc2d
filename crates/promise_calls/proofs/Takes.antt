-- The follower's image through takes: the bytes of a follower that has an image are read as it, so that a take leaves the bytes of the follower after
-- it. It still has an image, since a packet that is read from bytes or that the link carries is well formed, and bytes that are turned back change nothing.
use Rattle.std.specs.Prelude.{Err, Ok, Option, Result, Some}
use mathlib.Core.Path.{◌≡◌, refl, sym, ap, ◌∙◌, subst}
use mathlib.Core.Bool.{Bool, true, cond}
use mathlib.Core.List.{List, [], ◌∷◌}
use Prim.Native.Nat.{ℕ}
use lib.ListN.{length}
use borrow.Author.Tests.{eq-eqb}
use Rattle.power_policy_interface.specs.Limits.{follower_length}
use Rattle.interface_records.specs.Row.{AllBytes}
use Rattle.wire.specs.Read.{read_packet}
use Rattle.interface_display.specs.declared.packet.Packet.{Packet}
use Rattle.abstract_desk.specs.Takes.{EachBytes}
use Rattle.desk_follower.specs.Follower.{fresh, taken}
use Rattle.desk_follower.specs.declared.Follower.{Follower}
use Rattle.promise_link.specs.Link.{follower_after}
use Rattle.promise_link.specs.Source.{Source}
use Rattle.promise_link.specs.Takes as link
use Rattle.promise_link.specs.Takes.{taken_read, take_bytes, Carried, copy, turned_back, AllCarried}
use Rattle.promise_link.proofs.Lists.{read_back}
use Rattle.abstract_calls.specs.Called.{Called, called, refused_call}
use Rattle.abstract_calls.specs.Numbers.{done_number}
use Rattle.abstract_calls.specs.Calls.{desks, desk, packets_of}
use Rattle.abstract_calls.specs.DeskCall.{DeskCall, take_packet, read_shown, read_consumer, read_tracked, write_page}
use Rattle.abstract_calls.specs.Functions.{Functions}
use Rattle.bytes_follower_image.specs.Fits.{image_fits}
use Rattle.bytes_follower_image.specs.Image.{follower_bytes, follower_from}
use Rattle.bytes_follower_image.proofs.OneImage.{follower_length_lem, follower_read_write, fresh_fits}
use Rattle.bytes_follower_image.proofs.Takes as image
use Rattle.bytes_calls.specs.Calls.{put_follower, taken_call, take_on, take_call, follower_start_call}
use Rattle.abi_functions.specs.Ours.{functions}

-- one take

put_is : (f g : Follower) → put_follower (follower_bytes f) g ≡ follower_bytes g
put_is f g = ap (λ (x : Bool). cond x (follower_bytes g) (follower_bytes f)) (eq-eqb (length (follower_bytes f)) follower_length (follower_length_lem f))

taken_bytes : (f : Follower) (y : Result Packet ℕ) → (taken_call (follower_bytes f) f y).bytes ≡ follower_bytes (taken_read f y)
taken_bytes f (Err n) = refl
taken_bytes f (Ok p) = put_is f (taken f p)

take_bytes_lem : (f : Follower) (x : List ℕ) → image_fits f ≡ true → (take_call (follower_bytes f) x).bytes ≡ follower_bytes (take_bytes f x)
take_bytes_lem f x h =
    ap (λ (r : Option Follower). (take_on (follower_bytes f) r x).bytes) (follower_read_write f h)
    ∙ taken_bytes f (read_packet x)

-- a start

started_bytes : (b : List ℕ) → length b ≡ follower_length → (follower_start_call b).bytes ≡ follower_bytes fresh
started_bytes b e = ap (λ (x : Bool). (cond {A = Called} x (called done_number (follower_bytes fresh)) (refused_call 21 b)).bytes) (eq-eqb (length b) follower_length e)

-- takes that leave a follower that has an image

pub record Keeps (x : List ℕ) : Type 0 where
  pub fits : (f : Follower) → image_fits f ≡ true → image_fits (take_bytes f x) ≡ true

abbrev pub AllKeep : List (List ℕ) → Type 0
AllKeep [] = Unit {0}
AllKeep (x ∷ l) = Keeps x × AllKeep l

-- bytes
bytes_keep : (x : List ℕ) → AllBytes x → Keeps x
bytes_keep x a = record { fits = λ f h. go f h (read_packet x) refl }
  where
    go : (f : Follower) → image_fits f ≡ true → (r : Result Packet ℕ) → read_packet x ≡ r → image_fits (taken_read f r) ≡ true
    go f h (Err n) e = h
    go f h (Ok p) e = image.take_fits f x p h a e

pub each_keeps : (l : List (List ℕ)) → EachBytes l → AllKeep l
each_keeps [] b = tt
each_keeps (x ∷ l) b = (bytes_keep x b.0, each_keeps l b.1)

-- what the link hands over
handed_keeps : (source : Source) (x : List ℕ) → Carried source x → Keeps x
handed_keeps source x (copy p w e) =
    record {
      fits = λ f h.
          subst (λ (y : Result Packet ℕ). image_fits (taken_read f y) ≡ true) (sym (read_back source p x w e)) (image.packet_fits f p h (source.fits p w));
    }
handed_keeps source x (turned_back n e) = record { fits = λ f h. subst (λ (y : Result Packet ℕ). image_fits (taken_read f y) ≡ true) (sym e) h }

pub all_keep : (source : Source) (l : List (List ℕ)) → AllCarried source l → AllKeep l
all_keep source [] q = tt
all_keep source (x ∷ l) q = (handed_keeps source x q.0, all_keep source l q.1)

-- a list of them

-- of any functions, the image after these packets have been taken
abbrev pub takes_on : Functions → List ℕ → List (List ℕ) → List ℕ
takes_on f b [] = b
takes_on f b (y ∷ l) = takes_on f (f.take b y).bytes l

-- only takes change it
pub desk_takes : (f : Functions) (l : List DeskCall) (b : List ℕ) → desks f b l ≡ takes_on f b (packets_of l)
desk_takes f [] b = refl
desk_takes f (take_packet y ∷ l) b = desk_takes f l (f.take b y).bytes
desk_takes f (read_shown ∷ l) b = desk_takes f l b
desk_takes f (read_consumer ∷ l) b = desk_takes f l b
desk_takes f (read_tracked ∷ l) b = desk_takes f l b
desk_takes f (write_page buffer ∷ l) b = desk_takes f l b

takes_bytes_lem : (l : List (List ℕ)) (f : Follower) → AllKeep l → image_fits f ≡ true → takes_on functions (follower_bytes f) l ≡ follower_bytes (link.takes_bytes f l)
takes_bytes_lem [] f a h = refl
takes_bytes_lem (x ∷ l) f a h =
    ap (λ (b : List ℕ). takes_on functions b l) (take_bytes_lem f x h) ∙ takes_bytes_lem l (take_bytes f x) a.1 (a.0.fits f h)

pub takes_fit : (l : List (List ℕ)) (f : Follower) → AllKeep l → image_fits f ≡ true → image_fits (link.takes_bytes f l) ≡ true
takes_fit [] f a h = h
takes_fit (x ∷ l) f a h = takes_fit l (take_bytes f x) a.1 (a.0.fits f h)

-- from a fresh follower's image

module _ (b : List ℕ) (e : length b ≡ follower_length) (l : List DeskCall) (a : AllKeep (packets_of l)) where
  pub desk_is : desk functions b l ≡ follower_bytes (follower_after (packets_of l))
  desk_is =
      desk_takes functions l (functions.follower_start b).bytes
      ∙ (ap (λ (x : List ℕ). takes_on functions x (packets_of l)) (started_bytes b e) ∙ takes_bytes_lem (packets_of l) fresh a fresh_fits)

  pub desk_fits : image_fits (follower_after (packets_of l)) ≡ true
  desk_fits = takes_fit (packets_of l) fresh a fresh_fits

  pub desk_read : follower_from (desk functions b l) ≡ Some (follower_after (packets_of l))
  desk_read = ap follower_from desk_is ∙ follower_read_write (follower_after (packets_of l)) desk_fits
