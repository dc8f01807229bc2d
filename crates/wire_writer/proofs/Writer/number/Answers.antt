-- What `number::write` gives.
use mathlib.Core.Path.{refl}
use Rattle.wire_writer.proofs.Parts.{wrote_number}
use Rattle.wire_writer.proofs.Writer.number.Goals as goal

pub returns : goal.returns
returns c = wrote_number c.args.self.now _ c.args.n c.requires refl c.write-self.ensures.0 c.write-self.ensures.1
