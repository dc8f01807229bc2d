-- The header, and then the lines of a run, are `follow` of the whole input.
-- Assumes nothing.
use Rattle.std.proofs.Common.{◌≡◌, ℕ, List, true, false, Option, None, Some, IfSome, Result, Ok, Err, OnOk, is_err}
use Rattle.std.specs.Io.KnownBytes.{Appends}
use Rattle.std.proofs.KnownBytes.{Appends-trans}
use Rattle.desk_report.specs.Text.{header}
use Rattle.desk_report.specs.Desk.{fresh, output_of, desk_of, follow}
use Rattle.desk_report.specs.declared.desk.Desk.{Desk}
use Rattle.desk_stream.specs.Known.{Wrote}
use Rattle.desk_stream.specs.declared.sink.Sink.{Sink}

pub on_ok : {T E : Type 0} (r : Result T E) (P : Type 0) → is_err r ≡ false → OnOk r P → P
on_ok (Ok a) P e h = h
on_ok (Err x) P e h = absurd (cc)

pub follow_written : (d e : Desk) (k : Sink) (r w w' w'' : Option (List ℕ)) → k.needed ≡ true → d ≡ fresh true → Appends w w' header
    → IfSome r (λ s. (e ≡ desk_of d s) × Wrote k w' w'' (output_of d s)) → IfSome r (λ s. Appends w w'' (follow s))
unfolding follow
follow_written d e k None w w' w'' n f h o = tt
follow_written d e k (Some s) w w' w'' n f h o = Appends-trans w w' w'' header (output_of (fresh true) s) h (rw f at (o.1 n))
