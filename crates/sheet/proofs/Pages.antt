-- A page in a buffer of its length, and that of a run.
-- Assumes nothing.
use mathlib.Core.Path.{◌≡◌, ap, ◌∙◌}
use mathlib.Core.List.{List, flatten, append-nil}
use Prim.Native.Nat.{ℕ, ◌+◌, ◌≤◌}
use native.Mathlib.Omega.{arith}
use lib.ListN.{length, drop_of_length-le}
use lib.Seq.{sets-eq}
use borrow.Author.Tests.{le-ltb}
use Rattle.std.specs.Prelude.{Option, None, Some, IfSome, false}
use Rattle.power_policy_interface.specs.Limits.{page_length}
use Rattle.wire_writer.specs.Stored.{stored_from}
use Rattle.desk_follower.specs.declared.Follower.{Follower}
use Rattle.desk_report.specs.Desk.{fresh, desk_of, output_of}
use Rattle.desk_report.specs.declared.desk.Desk.{Desk}
use Rattle.desk_report.specs.Page.{page_bytes, page_for}
use Rattle.desk_report.specs.Sheet.{sheet_page, sheet_run, sheet_shows}
use Rattle.desk_report.proofs.Says.{page_length_lem}
use Rattle.desk_report.proofs.Whole.{sheet_shows_lem}
use Rattle.desk_stream.specs.Known.{Wrote}
use Rattle.desk_stream.specs.declared.sink.Sink.{Sink}

pub filled : (f : Follower) (o : List ℕ) → length o ≡ page_length → stored_from page_length (page_bytes (page_for f)) o ≡ page_bytes (page_for f)
filled f o h =
    let p = page_bytes (page_for f) in
    let n = page_length_lem f in
    let a : page_length ≤ length o = omega arith in
    let b : 0 + length p ≤ length o = omega (arith, n) in
    let d : length o ≤ 0 + length p = omega (arith, n) in
    rw (le-ltb (length o) page_length a, sets-eq p o 0 b, drop_of_length-le o d, append-nil p)

-- the page of a run over these pieces is that of their bytes
pub page_of_run : (l : List (List ℕ)) → page_bytes (page_for (sheet_run l).desk.follower) ≡ sheet_page (flatten l)
page_of_run l = ap (λ (f : Follower). page_bytes (page_for f)) (sheet_shows_lem l)

-- of a run that was read to its end, the follower is that of the whole input
pub shown_at_end : (d e : Desk) (k : Sink) (r w w' : Option (List ℕ)) → d ≡ fresh false
    → IfSome r (λ s. (e ≡ desk_of d s) × Wrote k w w' (output_of d s)) → IfSome r (λ s. e.follower ≡ sheet_shows s)
unfolding sheet_shows
shown_at_end d e k None w w' f h = tt
shown_at_end d e k (Some s) w w' f h = ap (λ (x : Desk). x.follower) (h.0 ∙ ap (λ (x : Desk). desk_of x s) f)
