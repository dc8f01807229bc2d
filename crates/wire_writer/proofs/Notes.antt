-- The notices of a packet, one after the other: the bytes of one more follow those of the ones before it.
-- Assumes nothing.
use Rattle.std.proofs.lemmas.List.{take_more}
use mathlib.Core.Path.{◌≡◌, ap, sym, ◌∙◌}
use mathlib.Core.List.{List, [], ◌∷◌, ◌++◌, append_assoc, append-nil}
use Prim.Native.Nat.{ℕ, ◌+◌, ◌*◌, ◌<◌}
use native.Mathlib.Omega.{arith}
use lib.ListN.{length, get_or, take}
use Rattle.power_policy_interface.specs.declared.service.event.Event.{Event}
use Rattle.wire.specs.Bytes.{notice_bytes, all_bytes}
use Rattle.wire_writer.specs.Writing.{Wrote}
use Rattle.wire_writer.specs.declared.Writer.{Writer}
use Rattle.wire_writer.proofs.Parts.{joined}

bytes_last : (l : List Event) (e : Event) → all_bytes (l ++ (e ∷ [])) ≡ all_bytes l ++ notice_bytes e
bytes_last [] e = append-nil (notice_bytes e)
bytes_last (a ∷ l) e =
    ap (λ (k : List ℕ). notice_bytes a ++ k) (bytes_last l e) ∙ sym (append_assoc (notice_bytes a) (all_bytes l) (notice_bytes e))

bytes_next : (l : List Event) (i : ℕ) (z : Event) → i < length l → all_bytes (take (i + 1) l) ≡ all_bytes (take i l) ++ notice_bytes (get_or l i z)
bytes_next l i z h = ap all_bytes (take_more l i z h) ∙ bytes_last (take i l) (get_or l i z)

pub wrote_next : {u v w : Writer} (k : List Event) (i : ℕ) (z : Event) → i < length k
    → Wrote (all_bytes (take i k)) (9 * i) u v → Wrote (notice_bytes (get_or k i z)) 9 v w → Wrote (all_bytes (take (i + 1) k)) (9 * (i + 1)) u w
wrote_next k i z h a b =
    let e : 9 * (i + 1) ≡ 9 * i + 9 = omega arith in
    rw (bytes_next k i z h, e) (joined a b)
