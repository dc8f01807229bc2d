-- PKT-8: the notices of an event: four places, of which the first `count` are meant.
use Rattle.std.specs.Prelude.{ℕ, ◌+◌, Bool, true, false, cond, ◌&&◌, List, [], ◌∷◌, ◌++◌, eqb, leb, ltb, length, take, drop, None}
use Rattle.power_policy_interface.specs.Limits.{max_notices}
use Rattle.power_policy_interface.specs.Capability.{disconnect_byte}
use Rattle.power_policy_interface.specs.declared.service.event.Event.{Event}
use Rattle.interface_display.specs.Display.{applied_to}
use Rattle.interface_display.specs.declared.Display.{Display}
use Rattle.interface_display.specs.declared.notices.Notices.{Notices}

abbrev pub places : Notices → List Event
places n = n.events

-- what is meant; of a count above four, all four
abbrev pub listed : Notices → List Event
listed n = take n.count (places n)

abbrev pub length_of : Notices → ℕ
length_of n = length (listed n)

-- what stands in a place past the count
abbrev pub filler : Event
filler = Event.ConsumerDisconnected 0 (record { reason = None })

abbrev pub empty : Notices
empty = record { count = 0; events = filler ∷ filler ∷ filler ∷ filler ∷ [] }

-- the notice stands in the place after those that are meant; a fifth notice is dropped
abbrev pub pushed : Notices → Event → Notices
pushed n e = cond (ltb n.count max_notices) (record { count = n.count + 1; events = listed n ++ (e ∷ drop (n.count + 1) (places n)) }) n

-- FOL-9: the first is applied first
abbrev pub applied_all : List Event → Display → Display
applied_all [] d = d
applied_all (e ∷ l) d = applied_all l (applied_to d e)

abbrev pub all_applied : Notices → Display → Display
all_applied n d = applied_all (listed n) d

-- well-formed: at most four, and the filler in each place past them; one value for each list (proofs/Four.antt)

abbrev pub is_filler : Event → Bool
is_filler (Event.ConsumerDisconnected p f) = eqb p 0 && eqb (disconnect_byte f) 0
is_filler (Event.ConsumerConnected p c) = false
is_filler (Event.ProviderDisconnected p) = false
is_filler (Event.ProviderConnected p c) = false
is_filler (Event.Unconstrained u) = false

abbrev pub all_filler : List Event → Bool
all_filler [] = true
all_filler (e ∷ l) = is_filler e && all_filler l

abbrev pub padded : Notices → Bool
padded n = leb n.count max_notices && (eqb (length (places n)) max_notices && all_filler (drop n.count (places n)))
