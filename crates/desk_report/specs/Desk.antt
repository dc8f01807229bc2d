-- What a desk writes for its input, and where it then stands; the program `follow` (PRG-1 to PRG-6).
use Rattle.std.specs.Prelude.{ℕ, zero, suc, ◌+◌, Bool, true, cond, List, [], ◌++◌, eqb, ltb, length, take, drop, Err, Ok, Result}
use Rattle.wire.specs.Read.{read_packet}
use Rattle.interface_display.specs.declared.packet.Packet.{Packet}
use Rattle.wire_framing.specs.Framing.{framed, refusal_of}
use Rattle.wire_framing.specs.declared.Framed.{Framed}
use Rattle.desk_follower.specs.Follower as follower
use Rattle.desk_follower.specs.declared.Follower.{Follower}
use Rattle.desk_report.specs.Text.{header}
use Rattle.desk_report.specs.Line.{line_of, line_bytes, refused_bytes}
use Rattle.desk_report.specs.declared.desk.Desk.{Desk}
use Rattle.desk_report.specs.declared.desk.Next.{Next}
use Rattle.desk_report.specs.declared.line.Line.{Line}

-- before any packet; a packet that is taken has a line or not
abbrev pub fresh : Bool → Desk
fresh lines = record { packets = 0; follower = follower.fresh; lines = lines }

-- the next ordinal; the greatest of 64 bits stays
abbrev pub counted : ℕ → ℕ
counted k = cond (ltb k 18446744073709551615) (k + 1) k

-- a refused packet changes nothing

abbrev pub after_read : Follower → Result Packet ℕ → Follower
after_read f (Err n) = f
after_read f (Ok p) = follower.taken f p

-- the line of a packet that was taken, where these have one; of one that is refused always

abbrev pub line_taken : Bool → ℕ → Line → List ℕ
line_taken lines k l = cond lines (line_bytes k l) []

abbrev pub line_read : Bool → ℕ → Follower → Result Packet ℕ → List ℕ
line_read lines k f (Err n) = refused_bytes k n
line_read lines k f (Ok p) = line_taken lines k (line_of (follower.taken f p))

-- a packet: ordinals count every packet, refused ones too

unfoldable pub taken_by : Desk → List ℕ → Desk
taken_by d p = record { packets = counted d.packets; follower = after_read d.follower (read_packet p); lines = d.lines }

unfoldable pub line_for : Desk → List ℕ → List ℕ
line_for d p = line_read d.lines (counted d.packets) d.follower (read_packet p)

-- PRG-5: `K refused N` where no packet can be taken from the front of the bytes
abbrev pub refused_at : Desk → Result Framed ℕ → List ℕ
refused_at d r = refused_bytes (counted d.packets) (refusal_of r)

-- a packet with its length, from the front of the bytes

abbrev pub desk_at : Desk → List ℕ → Result Framed ℕ → Desk
desk_at d s (Ok Framed.Empty) = d
desk_at d s (Ok Framed.Cut) = d
desk_at d s (Err n) = record { packets = counted d.packets; follower = d.follower; lines = d.lines }
desk_at d s (Ok (Framed.Frame used n)) = taken_by d (take n (drop used s))

abbrev pub bytes_at : Desk → List ℕ → Result Framed ℕ → List ℕ
bytes_at d s (Ok Framed.Empty) = []
bytes_at d s (Ok Framed.Cut) = []
bytes_at d s (Err n) = refused_at d (Err n)
bytes_at d s (Ok (Framed.Frame used n)) = line_for d (take n (drop used s))

abbrev pub next_at : Result Framed ℕ → Next
next_at (Ok Framed.Empty) = Next.More
next_at (Ok Framed.Cut) = Next.More
next_at (Err n) = Next.Stop
next_at (Ok (Framed.Frame used n)) = Next.Used (used + n)

abbrev pub stepped_desk : Desk → List ℕ → Desk
stepped_desk d s = desk_at d s (framed s)

abbrev pub stepped_bytes : Desk → List ℕ → List ℕ
stepped_bytes d s = bytes_at d s (framed s)

abbrev pub stepped_next : List ℕ → Next
stepped_next s = next_at (framed s)

-- PRG-6: an end between packets writes nothing; bytes that are left are a packet cut short
abbrev pub end_bytes : Desk → List ℕ → List ℕ
end_bytes d s = cond (eqb (length s) 0) [] (refused_at d (Ok Framed.Cut))

-- the whole input, of at most k packets: what is written for it, and the desk at its end. After a packet `more` has the rest; without one
-- the input ends; a refused length stops.

abbrev pub after_step : (Desk → List ℕ → List ℕ) → Desk → List ℕ → Next → List ℕ
after_step more d s (Next.Used n) = more d (drop n s)
after_step more d s Next.More = end_bytes d s
after_step more d s Next.Stop = []

abbrev pub output : ℕ → Desk → List ℕ → List ℕ
output zero d s = []
output (suc k) d s = stepped_bytes d s ++ after_step (output k) (stepped_desk d s) s (stepped_next s)

abbrev pub desk_after : (Desk → List ℕ → Desk) → Desk → List ℕ → Next → Desk
desk_after more d s (Next.Used n) = more d (drop n s)
desk_after more d s Next.More = d
desk_after more d s Next.Stop = d

abbrev pub desk_end : ℕ → Desk → List ℕ → Desk
desk_end zero d s = d
desk_end (suc k) d s = desk_after (desk_end k) (stepped_desk d s) s (stepped_next s)

-- a packet takes at least two bytes with its length, so there are fewer than bytes; ordinals past the greatest of 64 bits stay
-- at it (`counted`)

abbrev pub output_of : Desk → List ℕ → List ℕ
output_of d s = output (length s) d s

abbrev pub desk_of : Desk → List ℕ → Desk
desk_of d s = desk_end (length s) d s

-- the program `follow`: a header, and a line for each packet
unfoldable pub follow : List ℕ → List ℕ
follow s = header ++ output_of (fresh true) s
