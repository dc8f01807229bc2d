-- A byte, the capability, and a byte.
use Rattle.wire.specs.Bytes.{contract_bytes}
use Rattle.wire_writer.proofs.Parts.{joined}
use Rattle.wire_writer.proofs.Writer.contract.Goals as goal

pub returns : goal.returns
unfolding contract_bytes
returns c = joined c.byte.ensures (joined c.capability.ensures c.byte-2.ensures)
