-- However the reads cut the input, a run writes what is written for the whole and ends at its desk: a packet that is there, and a length
-- that is refused, stay so whatever bytes come after them, so to take what is there and then the rest is to take all at once.
-- Assumes nothing.
use Rattle.std.specs.Prelude.{Result, Ok, Err}
use mathlib.Core.Path.{◌≡◌, refl, ap, sym, ◌∙◌}
use mathlib.Core.Bool.{Bool, true, false, cond}
use mathlib.Core.List.{List, [], ◌∷◌, ◌++◌, flatten, append-nil, append_assoc}
use Prim.Native.Nat.{ℕ, zero, suc, ◌+◌, ◌≤◌}
use native.Mathlib.Omega.{arith}
use lib.ListN.{length, take, drop, length-append, length-drop}
use lib.Seq.{take-append-le, drop-append-le}
use Rattle.wire_framing.specs.Framing.{framed}
use Rattle.wire_framing.specs.declared.Framed.{Framed}
use Rattle.wire_framing.proofs.Frames.{frame_told, frame_more, refused_more, Unframed, unframed_short}
use Rattle.desk_report.specs.Text.{header}
use Rattle.desk_report.specs.Desk.{fresh, taken_by, line_for, desk_at, bytes_at, next_at, stepped_desk, stepped_bytes, stepped_next, end_bytes, refused_at, after_step, output, desk_after, desk_end, output_of, desk_of, follow}
use Rattle.desk_report.specs.Reads.{Turn, begin, written_after, after_take, taking, take_all, read_on, reads, ended, run}
use Rattle.desk_report.specs.Sheet.{sheet_told, sheet_shows, sheet_run}
use Rattle.desk_report.specs.declared.desk.Desk.{Desk}
use Rattle.desk_report.specs.declared.desk.Next.{Next}

-- enough turns are enough
same : (k m : ℕ) (d : Desk) (s : List ℕ) → length s ≤ k → length s ≤ m → taking k d s ≡ taking m d s
unfolding framed
same zero zero d s p q = refl
same zero (suc m) d [] p q = refl
same zero (suc m) d (b ∷ s) p q = absurd (omega arith)
same (suc k) zero d [] p q = refl
same (suc k) zero d (b ∷ s) p q = absurd (omega arith)
same (suc k) (suc m) d s p q = found (same k m) (framed s) refl
  where
    found : ((d : Desk) (s : List ℕ) → length s ≤ k → length s ≤ m → taking k d s ≡ taking m d s) → (r : Result Framed ℕ) → framed s ≡ r
        → written_after (bytes_at d s r) (after_take (taking k) (desk_at d s r) s (next_at r)) ≡ written_after (bytes_at d s r) (after_take (taking m) (desk_at d s r) s (next_at r))
    found ih (Ok Framed.Empty) e = refl
    found ih (Ok Framed.Cut) e = refl
    found ih (Err n) e = refl
    found ih (Ok (Framed.Frame u n)) e =
        let t = frame_told s u n e in
        let l = length-drop (u + n) s in
        let p' : length (drop (u + n) s) ≤ k = omega (arith, t.least, t.there) in
        let q' : length (drop (u + n) s) ≤ m = omega (arith, t.least, t.there) in
        ap (written_after (line_for d (take n (drop u s)))) (ih (taken_by d (take n (drop u s))) (drop (u + n) s) p' q')

-- one packet more, or none
pub take_step : (d : Desk) (s : List ℕ) → take_all d s ≡ written_after (stepped_bytes d s) (after_take take_all (stepped_desk d s) s (stepped_next s))
unfolding framed
take_step d [] = refl
take_step d (b ∷ s) = found (b ∷ s) refl (framed (b ∷ s)) refl
  where
    found : (v : List ℕ) → length v ≡ suc (length s) → (r : Result Framed ℕ) → framed v ≡ r
        → written_after (bytes_at d v r) (after_take (taking (length s)) (desk_at d v r) v (next_at r)) ≡ written_after (bytes_at d v r) (after_take take_all (desk_at d v r) v (next_at r))
    found v h (Ok Framed.Empty) e = refl
    found v h (Ok Framed.Cut) e = refl
    found v h (Err n) e = refl
    found v h (Ok (Framed.Frame u n)) e =
        let t = frame_told v u n e in
        let l = length-drop (u + n) v in
        let p : length (drop (u + n) v) ≤ length s = omega (arith, t.least, t.there) in
        ap (written_after (line_for d (take n (drop u v)))) (same (length s) (length (drop (u + n) v)) (taken_by d (take n (drop u v))) (drop (u + n) v) p (omega arith))

-- what is kept is shorter than a length and a packet
kept_in : (k : ℕ) (d : Desk) (s : List ℕ) → length s ≤ k → length (taking k d s).kept ≤ 68
kept_in zero d s p = omega arith
kept_in (suc k) d s p = found (kept_in k) (framed s) refl (unframed_short s)
  where
    found : ((d : Desk) (s : List ℕ) → length s ≤ k → length (taking k d s).kept ≤ 68) → (r : Result Framed ℕ) → framed s ≡ r → Unframed s r
        → length (after_take (taking k) (desk_at d s r) s (next_at r)).kept ≤ 68
    found ih (Ok Framed.Empty) e h = h
    found ih (Ok Framed.Cut) e h = h
    found ih (Err n) e h = omega arith
    found ih (Ok (Framed.Frame u n)) e h =
        let t = frame_told s u n e in
        let l = length-drop (u + n) s in
        ih (taken_by d (take n (drop u s))) (drop (u + n) s) (omega (arith, t.least, t.there))

pub kept_short : (d : Desk) (s : List ℕ) → length (take_all d s).kept ≤ 68
kept_short d s = kept_in (length s) d s (omega arith)

read_after : (w : List ℕ) (r : Turn) (t : List ℕ) → written_after w (read_on r t) ≡ read_on (written_after w r) t
read_after w r t = tested r.more
  where
    tested : (b : Bool) → written_after w (cond b (written_after r.written (take_all r.desk (r.kept ++ t))) r)
        ≡ cond b (written_after (w ++ r.written) (take_all r.desk (r.kept ++ t))) (written_after w r)
    tested true = rw (append_assoc w r.written (take_all r.desk (r.kept ++ t)).written)
    tested false = refl

-- the packets of s, and then those of what is kept and t
split : (k m : ℕ) (d : Desk) (s t : List ℕ) → length s ≤ k → length (s ++ t) ≤ m → taking m d (s ++ t) ≡ read_on (taking k d s) t
unfolding framed
split zero m d [] t p q = same m (length t) d t q (omega arith)
split zero m d (b ∷ s) t p q = absurd (omega arith)
split (suc k) zero d [] [] p q = refl
split (suc k) zero d [] (b ∷ t) p q = absurd (omega arith)
split (suc k) zero d (b ∷ s) t p q = absurd (omega arith)
split (suc k) (suc m) d s t p q = found (split k m) (framed s) refl
  where
    found : ((d : Desk) (s t : List ℕ) → length s ≤ k → length (s ++ t) ≤ m → taking m d (s ++ t) ≡ read_on (taking k d s) t)
        → (r : Result Framed ℕ) → framed s ≡ r
        → taking (suc m) d (s ++ t) ≡ read_on (written_after (bytes_at d s r) (after_take (taking k) (desk_at d s r) s (next_at r))) t
    found ih (Ok Framed.Empty) e = same (suc m) (length (s ++ t)) d (s ++ t) q (omega arith)
    found ih (Ok Framed.Cut) e = same (suc m) (length (s ++ t)) d (s ++ t) q (omega arith)
    found ih (Err n) e = rw (refused_more s t n e)
    found ih (Ok (Framed.Frame u n)) e =
        let w = frame_told s u n e in
        let a : u ≤ length s = omega (arith, w.there) in
        let b : n ≤ length (drop u s) = omega (arith, w.there, length-drop u s) in
        let x = take n (drop u s) in
        let v = drop (u + n) s in
        let l = length-drop (u + n) s in
        let p' : length v ≤ k = omega (arith, w.least, w.there) in
        let q' : length (v ++ t) ≤ m = omega (arith, w.least, w.there, length-append v t, length-append s t) in
        rw (frame_more s t u n e, drop-append-le u s t a, take-append-le n (drop u s) t b, drop-append-le (u + n) s t w.there)
        (ap (written_after (line_for d x)) (ih (taken_by d x) v t p' q') ∙ read_after (line_for d x) (taking k (taken_by d x) v) t)

-- so two reads are one
joined : (r : Turn) (s t : List ℕ) → read_on r (s ++ t) ≡ read_on (read_on r s) t
joined r s t = tested r.more refl
  where
    tested : (b : Bool) → r.more ≡ b → cond b (written_after r.written (take_all r.desk (r.kept ++ (s ++ t)))) r
        ≡ read_on (cond b (written_after r.written (take_all r.desk (r.kept ++ s))) r) t
    tested true e =
        let v = r.kept ++ s in
        let w = r.written in
        rw (← append_assoc r.kept s t)
        (ap (written_after w) (split (length v) (length (v ++ t)) r.desk v t (omega arith) (omega arith)) ∙ read_after w (take_all r.desk v) t)
    tested false e = rw e

-- and all reads
all : (r : Turn) (s : List ℕ) (l : List (List ℕ)) → reads r (s ∷ l) ≡ read_on r (s ++ flatten l)
unfolding flatten
all r s [] = rw (append-nil s)
all r s (t ∷ l) = all (read_on r s) t l ∙ sym (joined r s (t ++ flatten l))

-- a read of all, and the end
at_once : (k : ℕ) (d : Desk) (s : List ℕ) → length s ≤ k → ended (taking k d s) ≡ output k d s
at_once zero d [] p = refl
at_once zero d (b ∷ s) p = absurd (omega arith)
at_once (suc k) d s p = found (at_once k) (framed s) refl
  where
    found : ((d : Desk) (s : List ℕ) → length s ≤ k → ended (taking k d s) ≡ output k d s) → (r : Result Framed ℕ) → framed s ≡ r
        → ended (written_after (bytes_at d s r) (after_take (taking k) (desk_at d s r) s (next_at r)))
        ≡ bytes_at d s r ++ after_step (output k) (desk_at d s r) s (next_at r)
    found ih (Ok Framed.Empty) e = refl
    found ih (Ok Framed.Cut) e = refl
    found ih (Err n) e = append-nil (refused_at d (Err n) ++ [])
    found ih (Ok (Framed.Frame u n)) e =
        let w = frame_told s u n e in
        let l = length-drop (u + n) s in
        let x = take n (drop u s) in
        let v = drop (u + n) s in
        let q : Turn = taking k (taken_by d x) v in
        append_assoc (line_for d x) q.written (cond q.more (end_bytes q.desk q.kept) [])
        ∙ ap (λ (y : List ℕ). line_for d x ++ y) (ih (taken_by d x) v (omega (arith, w.least, w.there)))

desk_at_once : (k : ℕ) (d : Desk) (s : List ℕ) → (taking k d s).desk ≡ desk_end k d s
desk_at_once zero d s = refl
desk_at_once (suc k) d s = found (desk_at_once k) (stepped_next s)
  where
    found : ((d : Desk) (s : List ℕ) → (taking k d s).desk ≡ desk_end k d s) → (n : Next)
        → (after_take (taking k) (stepped_desk d s) s n).desk ≡ desk_after (desk_end k) (stepped_desk d s) s n
    found ih (Next.Used m) = ih (stepped_desk d s) (drop m s)
    found ih Next.More = refl
    found ih Next.Stop = refl

-- for every desk, every input and every way to cut it; a piece may be empty
pub record Whole (d : Desk) (w : List ℕ) (l : List (List ℕ)) : Type 0 where
  pub written : ended (reads (begin d w) l) ≡ w ++ output_of d (flatten l)
  pub desk : (reads (begin d w) l).desk ≡ desk_of d (flatten l)

pub whole : (d : Desk) (w : List ℕ) (l : List (List ℕ)) → Whole d w l
unfolding flatten
whole d w [] = record { written = refl; desk = refl }
whole d w (s ∷ l) =
    let v = s ++ flatten l in
    let q = take_all d v in
    let e = all (begin d w) s l in
    record {
      written =
          ap ended e
          ∙ (append_assoc w q.written (cond q.more (end_bytes q.desk q.kept) [])
          ∙ ap (λ (y : List ℕ). w ++ y) (at_once (length v) d v (omega arith)));
      desk = ap (λ (t : Turn). t.desk) e ∙ desk_at_once (length v) d v;
    }

-- of `follow` and of `sheet`

pub run_is_follow : (l : List (List ℕ)) → run l ≡ follow (flatten l)
unfolding run follow
run_is_follow l = (whole (fresh true) header l).written

pub sheet_tells : (l : List (List ℕ)) → ended (sheet_run l) ≡ sheet_told (flatten l)
unfolding sheet_run sheet_told
sheet_tells l = (whole (fresh false) [] l).written

pub sheet_shows_lem : (l : List (List ℕ)) → (sheet_run l).desk.follower ≡ sheet_shows (flatten l)
unfolding sheet_run sheet_shows
sheet_shows_lem l = ap (λ (d : Desk). d.follower) (whole (fresh false) [] l).desk
