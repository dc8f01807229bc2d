-- LNK-4: a trace: any list of calls of the twelve functions, in any order, on one image of the service and one of the follower, after a start of each that
-- was done, starts anew included; and what is seen of it.
use Rattle.std.specs.Prelude.{ℕ, List, [], ◌∷◌, ◌≡◌, false, eqb, length}
use Rattle.power_policy_interface.specs.Limits.{service_length, follower_length}
use Rattle.abstract_desk.specs.Takes.{EachBytes}
use Rattle.abstract_calls.specs.Called.{Called}
use Rattle.abstract_calls.specs.Numbers.{done_number}
use Rattle.abstract_calls.specs.ServiceCall.{ByteCall}
use Rattle.abstract_calls.specs.Calls.{CallBytes, image_after, returned, buffer_after, desk_after, desk_returned, desk_buffer_after}
use Rattle.abstract_calls.specs.DeskCall.{DeskCall, desk_call}
use Rattle.abstract_calls.specs.Functions.{Functions, Arguments}

pub data Call : Type 0 where
  start : Arguments → Call
  call : ByteCall → Call
  follower_start : Call
  desk : DeskCall → Call

-- records and packets are bytes
abbrev pub OfBytes : List Call → Type 0
OfBytes [] = Unit {0}
OfBytes (start a ∷ l) = OfBytes l
OfBytes (call c ∷ l) = CallBytes c × OfBytes l
OfBytes (follower_start ∷ l) = OfBytes l
OfBytes (desk c ∷ l) = EachBytes (desk_call c).packets × OfBytes l

-- the number, and the lent buffer; the bytes of an image are a program's own
abbrev pub seen : ℕ → List ℕ → Called
seen n b = record { number = n; bytes = b }

-- b the service's image, x the follower's
abbrev pub trace : Functions → List ℕ → List ℕ → List Call → List Called
trace f b x [] = []
trace f b x (start a ∷ l) = seen (f.start b a).number [] ∷ trace f (f.start b a).bytes x l
trace f b x (call c ∷ l) = seen (returned f b c) (buffer_after f b c) ∷ trace f (image_after f b c) x l
trace f b x (follower_start ∷ l) = seen (f.follower_start x).number [] ∷ trace f b (f.follower_start x).bytes l
trace f b x (desk c ∷ l) = seen (desk_returned f x c) (desk_buffer_after f x c) ∷ trace f b (desk_after f x c) l

-- nobody can tell them apart who keeps to images that a start left: the same starts are done, after them every trace is seen alike, and bytes of another
-- length are refused alike
pub record Same (f g : Functions) : Type 0 where
  pub start : (image : List ℕ) (a : Arguments) → (f.start image a).number ≡ (g.start image a).number
  pub start_refused : (image : List ℕ) (a : Arguments) → ((f.start image a).number ≡ done_number → ⊥) → (f.start image a).bytes ≡ (g.start image a).bytes
  pub follower_start : (x : List ℕ) → (f.follower_start x).number ≡ (g.follower_start x).number
  pub follower_start_refused : (x : List ℕ) → ((f.follower_start x).number ≡ done_number → ⊥) → (f.follower_start x).bytes ≡ (g.follower_start x).bytes
  pub traces :
      (image x : List ℕ) (a : Arguments) (l : List Call) → OfBytes l → (f.start image a).number ≡ done_number → (f.follower_start x).number ≡ done_number →
      trace f (f.start image a).bytes (f.follower_start x).bytes l ≡ trace g (g.start image a).bytes (g.follower_start x).bytes l
  pub service_other :
      (b : List ℕ) (c : ByteCall) → eqb (length b) service_length ≡ false →
      (returned f b c ≡ returned g b c) × ((image_after f b c ≡ image_after g b c) × (buffer_after f b c ≡ buffer_after g b c))
  pub follower_other :
      (b : List ℕ) (c : DeskCall) → eqb (length b) follower_length ≡ false →
      (desk_returned f b c ≡ desk_returned g b c) × ((desk_after f b c ≡ desk_after g b c) × (desk_buffer_after f b c ≡ desk_buffer_after g b c))
