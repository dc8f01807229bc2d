-- Parts that are written one after the other are one part.
-- Assumes nothing.
use Rattle.std.specs.Prelude.{Ok}
use mathlib.Core.Path.{◌≡◌, refl, ap, ◌∙◌}
use mathlib.Core.List.{List, [], ◌++◌}
use Prim.Native.Nat.{ℕ, ◌+◌, ◌≤◌, ◌<◌}
use native.Mathlib.Omega.{arith}
use lib.ListN.{length, length-append}
use lib.Seq.{sets, length-sets}
use borrow.Author.Tests.{le-ltb, le-leb}
use Rattle.wire.specs.Number.{leb128, written, next}
use Rattle.wire.proofs.Stores.{sets_append, length_to, length_short}
use Rattle.wire_writer.specs.Stored.{stored, written_of}
use Rattle.wire_writer.specs.Writing.{HasRoom, Wrote}
use Rattle.wire_writer.specs.declared.Writer.{Writer}

pub nothing : (v : Writer) → Wrote [] 0 v v
nothing v = record { same_buffer = refl; place = omega arith; buffer = refl; near = omega arith; long = refl }

pub joined : {vs ws : List ℕ} {k m : ℕ} {u v w : Writer} → Wrote vs k u v → Wrote ws m v w → Wrote (vs ++ ws) (k + m) u w
joined {vs} {ws} {k} {m} {u} {v} {w} a b = record {
  same_buffer = b.same_buffer ∙ a.same_buffer;
  place = omega (arith, length-append vs ws, a.place, b.place);
  buffer = b.buffer ∙ ((λ i. sets (a.buffer i) (a.place i) ws) ∙ sets_append vs ws u.out.now u.at);
  near = omega (arith, a.near, b.near);
  long = b.long ∙ a.long;
}

-- a number below 65,536 takes at most three places
pub short : {n k : ℕ} {v w : Writer} → n < 65536 → Wrote (leb128 n) k v w → Wrote (leb128 n) 3 v w
short {n} {k} {v} {w} h a = record {
  same_buffer = a.same_buffer;
  place = a.place;
  buffer = a.buffer;
  near = omega (arith, a.place, length_short n h);
  long = a.long;
}

pub loosely : {vs : List ℕ} {k m : ℕ} {v w : Writer} → Wrote vs k v w → k ≤ m → Wrote vs m v w
loosely {vs} {k} {m} {v} {w} a h = record {
  same_buffer = a.same_buffer;
  place = a.place;
  buffer = a.buffer;
  near = omega (arith, a.near);
  long = a.long;
}

-- what number::write gives where there is room
pub wrote_number : (v w : Writer) (n : ℕ) → HasRoom 5 v → w.out.ghost_name ≡ v.out.ghost_name
    → w.at ≡ next v.out.now v.at n → w.out.now ≡ written v.out.now v.at n → Wrote (leb128 n) 5 v w
wrote_number v w n h s p q =
    let a : w.at ≡ v.at + length (leb128 n) = p ∙ rw (le-leb (v.at + 5) (length v.out.now) h) in
    let b : w.out.now ≡ sets v.out.now v.at (leb128 n) = q ∙ rw (le-leb (v.at + 5) (length v.out.now) h) in
    record {
      same_buffer = s;
      place = a;
      buffer = b;
      near = omega (arith, length_to n);
      long = ap length b ∙ length-sets v.out.now v.at (leb128 n);
    }

-- the parts make a packet, from the front of a buffer that is long enough
pub whole : {vs : List ℕ} {k : ℕ} {v w : Writer} → Wrote vs k v w → v.at ≡ 0 → 64 ≤ length v.out.now
    → (Ok w.at ≡ written_of vs v.out.now) × (w.out.now ≡ stored vs v.out.now)
whole {vs} {k} {v} {w} a z h =
    let p : w.at ≡ length vs = omega (arith, a.place) in
    rw (le-ltb (length v.out.now) 64 h) (ap Ok p, a.buffer ∙ ap (λ (i : ℕ). sets v.out.now i vs) z)
