-- A line takes at most 92 bytes, and a packet with its length at least one of the input's.
-- Assumes nothing.
use Rattle.std.specs.Prelude.{Err, None, Ok, Option, Result, Some}
use mathlib.Core.Path.{◌≡◌, refl}
use mathlib.Core.Bool.{Bool, true, false, cond}
use mathlib.Core.List.{List, [], ◌∷◌, ◌++◌}
use Prim.Native.Nat.{ℕ, ◌+◌, ◌≤◌}
use native.Mathlib.Omega.{arith}
use lib.Dec.{eqb}
use lib.ListN.{length, take, drop, length-append}
use Rattle.interface_display.specs.declared.State.{State}
use Rattle.wire.specs.Read.{read_packet}
use Rattle.interface_display.specs.declared.packet.Packet.{Packet}
use Rattle.abstract_page.specs.Text.{decimal, word}
use Rattle.abstract_page.proofs.Decimal.{length_to}
use Rattle.desk_follower.specs.Follower as follower
use Rattle.desk_follower.specs.declared.Follower.{Follower}
use Rattle.wire_framing.specs.Framing.{framed}
use Rattle.wire_framing.specs.declared.Framed.{Framed}
use Rattle.wire_framing.proofs.Frames.{frame_told}
use Rattle.desk_report.specs.Text.{number, refused}
use Rattle.desk_report.specs.Line.{line_of, line_bytes, refused_bytes, spaced}
use Rattle.desk_report.specs.Desk.{counted, line_taken, line_read, line_for, bytes_at, next_at, stepped_bytes, stepped_next, end_bytes}
use Rattle.desk_report.specs.declared.desk.Desk.{Desk}
use Rattle.desk_report.specs.declared.desk.Next.{Next}
use Rattle.desk_report.specs.declared.line.Line.{Line}

number_length : (n : Option ℕ) → length (number n) ≤ 20
number_length None = omega arith
number_length (Some n) = length_to n

word_length : (s : State) → length (word s) ≤ 7
word_length State.Lost = omega arith
word_length State.Level = omega arith
word_length State.Waiting = omega arith

pub line_length : (k : ℕ) (l : Line) → length (line_bytes k l) ≤ 92
unfolding line_bytes
line_length k l =
    let e = spaced (number l.mw) in
    let d = spaced (number l.port) in
    let c = spaced (word l.state) in
    let b = spaced (number l.shown) in
    omega (arith, length-append (decimal k) (b ++ (c ++ (d ++ (e ++ (10 ∷ []))))), length-append b (c ++ (d ++ (e ++ (10 ∷ [])))), length-append c (d ++ (e ++ (10 ∷ []))), length-append d (e ++ (10 ∷ [])), length-append e (10 ∷ []), length_to k, number_length l.shown, word_length l.state, number_length l.port, number_length l.mw)

pub refused_length : (k n : ℕ) → length (refused_bytes k n) ≤ 92
unfolding refused_bytes
refused_length k n =
    omega (arith, length-append (decimal k) (refused ++ (decimal n ++ (10 ∷ []))), length-append refused (decimal n ++ (10 ∷ [])), length-append (decimal n) (10 ∷ []), length_to k, length_to n)

taken_length : (lines : Bool) (k : ℕ) (l : Line) → length (line_taken lines k l) ≤ 92
taken_length true k l = line_length k l
taken_length false k l = omega arith

read_length : (lines : Bool) (k : ℕ) (f : Follower) (r : Result Packet ℕ) → length (line_read lines k f r) ≤ 92
read_length lines k f (Err n) = refused_length k n
read_length lines k f (Ok p) = taken_length lines k (line_of (follower.taken f p))

at_length : (d : Desk) (s : List ℕ) (r : Result Framed ℕ) → length (bytes_at d s r) ≤ 92
unfolding line_for
at_length d s (Ok Framed.Empty) = omega arith
at_length d s (Ok Framed.Cut) = omega arith
at_length d s (Err n) = refused_length (counted d.packets) n
at_length d s (Ok (Framed.Frame u n)) = read_length d.lines (counted d.packets) d.follower (read_packet (take n (drop u s)))

pub step_length : (d : Desk) (s : List ℕ) → length (stepped_bytes d s) ≤ 92
step_length d s = at_length d s (framed s)

pub end_length : (d : Desk) (s : List ℕ) → length (end_bytes d s) ≤ 92
end_length d s = tested (eqb (length s) 0)
  where
    tested : (t : Bool) → length (cond t [] (refused_bytes (counted d.packets) 30)) ≤ 92
    tested true = omega arith
    tested false = refused_length (counted d.packets) 30

-- what a step uses

next_told : (s : List ℕ) (r : Result Framed ℕ) (m : ℕ) → framed s ≡ r → next_at r ≡ Next.Used m → (1 ≤ m) × (m ≤ length s)
next_told s (Ok Framed.Empty) m p e = absurd (cc)
next_told s (Ok Framed.Cut) m p e = absurd (cc)
next_told s (Err n) m p e = absurd (cc)
next_told s (Ok (Framed.Frame u n)) m p e =
    let t = frame_told s u n p in
    let f : u + n ≡ m = cc in
    (omega (arith, t.least), omega (arith, t.there))

pub used_bounds : (s : List ℕ) (m : ℕ) → stepped_next s ≡ Next.Used m → (1 ≤ m) × (m ≤ length s)
used_bounds s m e = next_told s (framed s) m refl e
