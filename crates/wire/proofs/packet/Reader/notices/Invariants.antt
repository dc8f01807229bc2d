-- The loop's invariant: all the notices read to what those that are left read to, from the rest, with what was found so far.
use Rattle.std.proofs.Common.{◌≡◌, ◌-◌}
use Rattle.interface_display.specs.Notices.{empty}
use Rattle.wire.specs.Packet.{notices}
use Rattle.wire.proofs.packet.Reader.notices.Given as goal

abbrev pub invariant-loop : goal.invariant-loop
invariant-loop l = notices l.count empty l.initial.self.rest.now ≡ notices (l.count - l.counter) l.found l.self.rest.now
