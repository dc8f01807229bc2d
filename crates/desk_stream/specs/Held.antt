-- The bytes that stand in the buffer of a run, which has 4,096: where a line has no room after them they are written out first.
use Rattle.std.specs.Prelude.{ℕ, zero, suc, ◌+◌, cond, List, [], ◌++◌, leb, length, drop}
use Rattle.desk_report.specs.Desk.{stepped_desk, stepped_bytes, stepped_next}
use Rattle.desk_report.specs.declared.desk.Desk.{Desk}
use Rattle.desk_report.specs.declared.desk.Next.{Next}

-- a line after the bytes b
unfoldable pub held : List ℕ → List ℕ → List ℕ
held b line = cond (leb (length b + length line) 4096) (b ++ line) line

-- the lines of the packets that are whole, at most k, after the bytes b

abbrev pub held_next : (Desk → List ℕ → List ℕ → List ℕ) → Desk → List ℕ → List ℕ → Next → List ℕ
held_next more d s b (Next.Used n) = more d (drop n s) b
held_next more d s b Next.More = b
held_next more d s b Next.Stop = b

abbrev pub holding : ℕ → Desk → List ℕ → List ℕ → List ℕ
holding zero d s b = b
holding (suc k) d s b = held_next (holding k) (stepped_desk d s) s (held b (stepped_bytes d s)) (stepped_next s)

-- each takes at least a byte; the buffer is empty before the first
abbrev pub held_all : Desk → List ℕ → List ℕ
held_all d s = holding (length s) d s []
