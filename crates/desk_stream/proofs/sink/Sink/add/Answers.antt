-- The line comes after what stands there, or alone.
use Rattle.std.proofs.Common.{◌≤◌, ◌<◌, ◌+◌, length, arith}
use Rattle.desk_stream.proofs.Holds.{with_room, without_room, stored, stored_alone}
use Rattle.desk_stream.proofs.Known.{owes_none, owes_line}
use Rattle.desk_stream.proofs.sink.Sink.add.Goals as goal

pub returns-then-line-room-clause-held : goal.returns-then-line-room-clause-held
returns-then-line-room-clause-held g c =
    let b = c.args.lines.now in
    let l = c.args.line.now in
    let k : length b + length l ≤ 4096 = omega (arith, c.room.ensures.value, c.room.ensures.fits, c.if-line-room.true) in
    with_room b l _ k (stored b l _ k c.extend.ensures)

pub returns-then-line-room-clause-owes : goal.returns-then-line-room-clause-owes
returns-then-line-room-clause-owes g c =
    let b = c.args.lines.now in
    let l = c.args.line.now in
    let k : length b + length l ≤ 4096 = omega (arith, c.room.ensures.value, c.room.ensures.fits, c.if-line-room.true) in
    owes_none c.args.self _ _ _ (stored b l _ k c.extend.ensures)

pub returns-clause-held : goal.returns-clause-held
returns-clause-held g c =
    let b = c.args.lines.now in
    let l = c.args.line.now in
    let k : 4096 < length b + length l = omega (arith, c.room.ensures.value, c.room.ensures.fits, c.if-line-room.false) in
    without_room b l _ k (stored_alone _ l _ c.requires c.in_ok-write_out.ensures.empty c.extend-2.ensures)

pub returns-clause-owes : goal.returns-clause-owes
returns-clause-owes g c =
    owes_line c.args.self _ _ c.args.lines.now c.args.line.now _ c.in_ok-write_out.ensures.wrote
    (stored_alone _ c.args.line.now _ c.requires c.in_ok-write_out.ensures.empty c.extend-2.ensures)
