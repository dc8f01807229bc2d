-- A presence byte, and what follows it.
use native.Mathlib.Omega.{arith}
use Rattle.wire.specs.Bytes.{consumer_bytes}
use Rattle.wire_writer.proofs.Parts.{joined, loosely}
use Rattle.wire_writer.proofs.Writer.consumer.Goals as goal

pub returns-in-None : goal.returns-in-None
unfolding consumer_bytes
returns-in-None c = rw c.in-None.is (loosely c.byte.ensures (omega arith))

pub returns-in-Some : goal.returns-in-Some
unfolding consumer_bytes
returns-in-Some c = rw c.in-Some.is (joined c.byte-in-Some.ensures (rw c.from.ensures at c.contract.ensures))
