-- Lists of calls, and the packets that those of the desk hand over.
use mathlib.Core.List.{List, [], ◌∷◌, ◌++◌, append_assoc}
use mathlib.Core.Path.{◌≡◌, refl, sym, ap, ◌∙◌}
use Prim.Native.Nat.{ℕ}
use Rattle.abstract_desk.specs.Takes.{EachBytes}
use Rattle.abstract_calls.specs.Calls.{CallBytes, CallsBytes, image_after, images, desk_after, desks, packets_of, DeskBytes}
use Rattle.abstract_calls.specs.DeskCall.{DeskCall, desk_call}
use Rattle.abstract_calls.specs.Functions.{Functions}
use Rattle.abstract_calls.specs.ServiceCall.{ByteCall}

-- one more

pub images_more : (f : Functions) (l : List ByteCall) (b : List ℕ) (c : ByteCall) → images f b (l ++ (c ∷ [])) ≡ image_after f (images f b l) c
images_more f [] b c = refl
images_more f (d ∷ l) b c = images_more f l (image_after f b d) c

pub bytes_more : (l : List ByteCall) (c : ByteCall) → CallsBytes l → CallBytes c → CallsBytes (l ++ (c ∷ []))
bytes_more [] c b h = (h, tt)
bytes_more (d ∷ l) c b h = (b.0, bytes_more l c b.1 h)

pub desks_more : (f : Functions) (l : List DeskCall) (b : List ℕ) (c : DeskCall) → desks f b (l ++ (c ∷ [])) ≡ desk_after f (desks f b l) c
desks_more f [] b c = refl
desks_more f (d ∷ l) b c = desks_more f l (desk_after f b d) c

-- packets

pub packets_on : (l m : List DeskCall) → packets_of (l ++ m) ≡ packets_of l ++ packets_of m
packets_on [] m = refl
packets_on (c ∷ l) m = ap (λ (x : List (List ℕ)). (desk_call c).packets ++ x) (packets_on l m) ∙ sym (append_assoc (desk_call c).packets (packets_of l) (packets_of m))

each_append : (l m : List (List ℕ)) → EachBytes l → EachBytes m → EachBytes (l ++ m)
each_append [] m a b = b
each_append (y ∷ l) m a b = (a.0, each_append l m a.1 b)

each_left : (l m : List (List ℕ)) → EachBytes (l ++ m) → EachBytes l
each_left [] m a = tt
each_left (y ∷ l) m a = (a.0, each_left l m a.1)

each_right : (l m : List (List ℕ)) → EachBytes (l ++ m) → EachBytes m
each_right [] m a = a
each_right (y ∷ l) m a = each_right l m a.1

pub desk_bytes_more : (l : List DeskCall) (c : DeskCall) → DeskBytes l → EachBytes (desk_call c).packets → DeskBytes (l ++ (c ∷ []))
desk_bytes_more [] c a h = each_append (desk_call c).packets [] h tt
desk_bytes_more (d ∷ l) c a h =
    each_append (desk_call d).packets (packets_of (l ++ (c ∷ []))) (each_left (desk_call d).packets (packets_of l) a)
    (desk_bytes_more l c (each_right (desk_call d).packets (packets_of l) a) h)
