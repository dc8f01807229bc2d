-- What a take makes of a follower's image.
use Rattle.std.specs.Prelude.{ℕ, ◌+◌, Bool, List, eqb, get_or, None, Option, Some, Ok, Err, Result}
use Rattle.power_policy_interface.specs.declared.refusal.Refusal.{Refusal}
use Rattle.interface_display.specs.declared.packet.Packet.{Packet}
use Rattle.desk_follower.specs.Follower.{taken}
use Rattle.desk_follower.specs.declared.Follower.{Follower}
use Rattle.bytes_follower_image.specs.Image.{follower_bytes, follower_from}

-- the first byte of each slot is 0: nothing is held
abbrev pub none_in : List ℕ → Bool
none_in b = eqb (get_or b 17 0 + get_or b 49 0 + get_or b 81 0 + get_or b 113 0 + get_or b 145 0 + get_or b 177 0 + get_or b 209 0) 0

-- bytes that are no image are refused, and stay

abbrev pub taken_answer : Option Follower → Result (Unit {0}) Refusal
taken_answer None = Err Refusal.Image
taken_answer (Some f) = Ok tt

abbrev pub taken_by : List ℕ → Packet → Option Follower → List ℕ
taken_by b p None = b
taken_by b p (Some f) = follower_bytes (taken f p)

abbrev pub taken_image : List ℕ → Packet → List ℕ
taken_image b p = taken_by b p (follower_from b)
