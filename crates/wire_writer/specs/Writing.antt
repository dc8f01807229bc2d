-- What a writer of parts asks and promises: from its place on there is room, and then these bytes stand there.
use Rattle.std.specs.Prelude.{◌≡◌, ℕ, ◌+◌, ◌≤◌, List, length}
use Rattle.std.proofs.lemmas.List.Edits.{sets}
use Rattle.wire_writer.specs.declared.Writer.{Writer}

abbrev pub HasRoom : ℕ → Writer → Type 0
HasRoom k w = w.at + k ≤ length w.out.now

-- the bytes stand from the place on, the next place is that after them, and they are at most so many; the buffer is the same
pub record Wrote (bytes : List ℕ) (most : ℕ) (v w : Writer) : Type 0 where
  pub same_buffer : w.out.ghost_name ≡ v.out.ghost_name
  pub place : w.at ≡ v.at + length bytes
  pub buffer : w.out.now ≡ sets v.out.now v.at bytes
  pub near : w.at ≤ v.at + most
  pub long : length w.out.now ≡ length v.out.now
