-- A packet in a buffer, and other bytes that ask for a buffer of a least length.
use Rattle.std.specs.Prelude.{ℕ, cond, List, ltb, length, Err, Ok, Result}
use Rattle.std.proofs.lemmas.List.Edits.{sets}
use Rattle.power_policy_interface.specs.Limits.{buffer_length}

-- a buffer under the least length is refused by a number and left as it was; else the bytes stand at its front, and those past them stay

abbrev pub stored_from : ℕ → List ℕ → List ℕ → List ℕ
stored_from least bytes out = cond (ltb (length out) least) out (sets out 0 bytes)

abbrev pub written_from : ℕ → ℕ → List ℕ → List ℕ → Result ℕ ℕ
written_from least number bytes out = cond (ltb (length out) least) (Err number) (Ok (length bytes))

-- REF-29: a packet or picture, in a buffer of at least 64 bytes

abbrev pub stored : List ℕ → List ℕ → List ℕ
stored bytes out = stored_from buffer_length bytes out

abbrev pub written_of : List ℕ → List ℕ → Result ℕ ℕ
written_of bytes out = written_from buffer_length 29 bytes out
