-- Calls of any functions, one after the other, refused ones included: an image is what the last call left of it.
use Rattle.std.specs.Prelude.{ℕ, ◌/◌, ◌%◌, List, [], ◌∷◌, ◌++◌, ◌≡◌, take}
use Rattle.interface_records.specs.Row.{AllBytes}
use Rattle.abstract_desk.specs.Takes.{EachBytes}
use Rattle.abstract_calls.specs.DeskCall.{DeskCall, desk_call}
use Rattle.abstract_calls.specs.Functions.{Functions}
use Rattle.abstract_calls.specs.ServiceCall.{ByteCall, service_call}

-- on a service's image

abbrev pub buffer_in : ByteCall → List ℕ
buffer_in c = (service_call c).buffer

abbrev pub CallBytes : ByteCall → Type 0
CallBytes c = AllBytes (service_call c).records

abbrev pub CallsBytes : List ByteCall → Type 0
CallsBytes [] = Unit {0}
CallsBytes (c ∷ l) = CallBytes c × CallsBytes l

abbrev pub image_after : Functions → List ℕ → ByteCall → List ℕ
image_after f b c = (service_call c).image f b

abbrev pub returned : Functions → List ℕ → ByteCall → ℕ
returned f b c = (service_call c).number f b

abbrev pub buffer_after : Functions → List ℕ → ByteCall → List ℕ
buffer_after f b c = (service_call c).buffer_after f b

-- after a list of calls
abbrev pub images : Functions → List ℕ → List ByteCall → List ℕ
images f b [] = b
images f b (c ∷ l) = images f (image_after f b c) l

-- a call has written these bytes: low byte 3, as many of its buffer as the next byte says
abbrev pub Writes : Functions → List ℕ → ByteCall → List ℕ → Type 0
Writes f b c y = (returned f b c % 256 ≡ 3) × (y ≡ take (returned f b c / 256 % 256) (buffer_after f b c))

-- on a follower's

abbrev pub desk_after : Functions → List ℕ → DeskCall → List ℕ
desk_after f b c = (desk_call c).image f b

abbrev pub desk_returned : Functions → List ℕ → DeskCall → ℕ
desk_returned f b c = (desk_call c).number f b

abbrev pub desk_buffer_in : DeskCall → List ℕ
desk_buffer_in c = (desk_call c).buffer

abbrev pub desk_buffer_after : Functions → List ℕ → DeskCall → List ℕ
desk_buffer_after f b c = (desk_call c).buffer_after f b

-- after a list of calls
abbrev pub desks : Functions → List ℕ → List DeskCall → List ℕ
desks f b [] = b
desks f b (c ∷ l) = desks f (desk_after f b c) l

-- from the bytes x that a follower start was lent
abbrev pub desk : Functions → List ℕ → List DeskCall → List ℕ
desk f x l = desks f (f.follower_start x).bytes l

-- the packets that these calls hand over
abbrev pub packets_of : List DeskCall → List (List ℕ)
packets_of [] = []
packets_of (c ∷ l) = (desk_call c).packets ++ packets_of l

-- they are bytes
abbrev pub DeskBytes : List DeskCall → Type 0
DeskBytes l = EachBytes (packets_of l)
