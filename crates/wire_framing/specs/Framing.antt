-- PRG-1: framing by length: length# (1 to 64), packet, repeated.
-- The length is judged before the bytes after it are counted.
use Rattle.std.specs.Prelude.{ℕ, ◌+◌, cond, List, eqb, leb, ltb, length, Result, Ok, Err}
use Rattle.power_policy_interface.specs.Limits.{buffer_length}
use Rattle.wire.specs.Number.{read_number}
use Rattle.wire_framing.specs.declared.Framed.{Framed}

-- a length of n, which took `used` of the `have` bytes that are there
abbrev pub sized : ℕ → ℕ → ℕ → Result Framed ℕ
sized have used n =
    cond (eqb n 0) (Err 32)
    (cond (ltb buffer_length n) (Err 32)
    (cond (leb (used + n) have) (Ok (Framed.Frame used n)) (Ok Framed.Cut)))

-- by the length that is read
abbrev pub framed_at : ℕ → Result (ℕ × ℕ) ℕ → Result Framed ℕ
framed_at have (Err n) = cond (eqb n 30) (Ok Framed.Cut) (Err n)
framed_at have (Ok (v, used)) = sized have used v

-- what stands at the front of the bytes
unfoldable pub framed : List ℕ → Result Framed ℕ
framed s = cond (eqb (length s) 0) (Ok Framed.Empty) (framed_at (length s) (read_number 4294967295 s))

-- PRG-5: the number for each case; 0 for none
abbrev pub refusal_of : Result Framed ℕ → ℕ
refusal_of (Ok Framed.Empty) = 0
refusal_of (Ok Framed.Cut) = 30
refusal_of (Err n) = n
refusal_of (Ok (Framed.Frame used n)) = 0
