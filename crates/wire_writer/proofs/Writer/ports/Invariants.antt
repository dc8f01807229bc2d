-- The loop's invariant: the ports that are left complete what was written.
use Rattle.std.proofs.Common.{◌≡◌, ◌+◌, ◌≤◌, length}
use Rattle.wire.specs.Bytes.{ports_bytes}
use Rattle.wire.proofs.Stores.{Left}
use Rattle.wire_writer.proofs.Writer.ports.Given as goal

abbrev pub invariant-loop-port : goal.invariant-loop-port
invariant-loop-port l =
    (l.self.out.ghost_name ≡ l.initial.self.out.ghost_name)
    × (l.self.at ≤ l.initial.self.at + l.port)
    × (length l.self.out.now ≡ length l.initial.self.out.now)
    × Left l.initial.self.out.now l.initial.self.at (ports_bytes l.mask) l.self.out.now l.self.at l.port l.left
