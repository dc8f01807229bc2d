-- The loop's invariant: all the ports read to what those that are left read to, with the mask of those before, which are below `low`.
use Rattle.std.proofs.Common.{◌≡◌, ◌-◌, ◌^◌, ◌≤◌, ◌<◌}
use Rattle.wire.specs.Packet.{ports}
use Rattle.wire.proofs.packet.Reader.ports.Given as goal

abbrev pub invariant-loop : goal.invariant-loop
invariant-loop l =
    (l.low ≤ 16) × (l.mask < 2 ^ l.low) × (ports l.count 0 0 l.initial.self.rest.now ≡ ports (l.count - l.counter) l.low l.mask l.self.rest.now)
