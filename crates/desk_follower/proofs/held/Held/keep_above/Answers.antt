-- The loop's invariant: in the places passed, what is numbered so or less is dropped.
use Rattle.std.proofs.Common.{rules}
use Rattle.std.proofs.lemmas.List.{set-get_or}
use Rattle.desk_follower.proofs.Places.{above_start, above_drop, above_keep}
use mathlib.Core.Path.{sym, ◌∙◌}
use Prim.Native.Nat.{◌<◌}
use lib.ListN.{length}
use native.Mathlib.Omega.{arith}
use Rattle.desk_follower.proofs.held.Held.keep_above.Goals as goal
use Rattle.desk_follower.proofs.held.Held.keep_above.Goals.{then-p-number, else-p-number}

pub loop-p-init : goal.loop-p-init
loop-p-init c = record { places = search rules; dropped = sym (above_start c.args.number c.args.self.now) }

pub loop-p-preserved : goal.loop-p-preserved
loop-p-preserved c =
    let l = c.loop-p in
    let a = c.args in
    let j : l.p-index < length l.p-items = omega arith in record {
      places = search rules;
      dropped =
          elim c.if-p-number.branch [
            | then-p-number w ↦
                above_drop a.number l.p-index l.p-items c.if-p-number.p-items a.self.now l.invariant.dropped w.no_packet.result _ w.no_packet.ensures j w.if-p-number.true w.p-items-is
            | else-p-number w ↦
                above_keep a.number l.p-index l.p-items c.if-p-number.p-items a.self.now l.invariant.dropped _ j w.if-p-number.false (w.p-items-is ∙ set-get_or l.p-items l.p-index _)
          ];
    }
