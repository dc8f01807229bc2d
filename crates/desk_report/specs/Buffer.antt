-- A buffer of at most so many bytes.
use Rattle.std.specs.Prelude.{ℕ, ◌+◌, ◌<◌, ◌≡◌, cond, leb, List, [], ◌++◌, length, take, drop, Option, None, Some}
use Rattle.std.specs.Io.KnownBytes.{Consumes, Keeps, IsAtEnd}

-- a line from a place on, where it has room
abbrev pub stored_at : List ℕ → ℕ → List ℕ → List ℕ
stored_at b at line = cond (leb (at + length line) (length b)) (take at b ++ (line ++ drop (at + length line) b)) b

-- bytes after those of a buffer of n, where they have room
abbrev pub added : ℕ → List ℕ → List ℕ → List ℕ
added n s b = cond (leb (length s + length b) n) (s ++ b) s

-- the bytes that a read gave; none where it failed
abbrev pub given : Option (List ℕ) → List ℕ
given None = []
given (Some c) = c

-- a read into a buffer of n bytes that has s: it gave no byte only at the input's end or where there is no room, and took nothing where it failed
abbrev pub Reads : ℕ → List ℕ → Option (List ℕ) → Option (List ℕ) → Option (List ℕ) → Type 0
Reads n s r r' None = Keeps r r'
Reads n s r r' (Some c) = Consumes r r' c × (length c ≡ 0 → length s < n → IsAtEnd r')
