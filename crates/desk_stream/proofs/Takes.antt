-- A turn of `take_all` from the place u of the bytes s is a step of `take_all`: the bytes given to the step are those from u on.
-- Assumes nothing.
use Rattle.std.specs.Prelude.{Ok, Err}
use mathlib.Core.Path.{◌≡◌, refl, ap, sym, ◌∙◌}
use mathlib.Core.List.{List, [], ◌∷◌, ◌++◌}
use mathlib.Core.Logic.{⊎_elim}
use Prim.Native.Nat.{ℕ, ◌+◌, ◌-◌, ◌≤◌}
use native.Mathlib.Omega.{arith}
use lib.ListN.{length, take, drop, length-drop, drop_of_length-le}
use lib.Seq.{take_all as take_every, drop-drop}
use Rattle.desk_report.specs.Desk.{stepped_desk, stepped_next}
use Rattle.desk_report.specs.Reads.{Turn, begin, go_on, stop, after_take, take_all, read_on, reads}
use Rattle.desk_report.specs.declared.desk.Desk.{Desk}
use Rattle.desk_report.specs.declared.desk.Next.{Next}
use Rattle.desk_report.proofs.Lengths.{used_bounds}
use Rattle.desk_report.proofs.Whole.{take_step, kept_short}
use Rattle.desk_stream.specs.Ran.{Seen, ended_by}
use Rattle.desk_stream.specs.Took.{left, Read, Stands}
use Rattle.desk_stream.specs.declared.End.{End}
use Rattle.desk_stream.specs.declared.Ended.{Ended}
use Rattle.desk_stream.specs.declared.sink.Sink.{Sink}

module _
    (d₀ d e : Desk) (s : List ℕ) (u : ℕ) (n : Next) (h : u ≤ length s)
    (i : left (take_all d₀ s) ≡ left (take_all d (drop u s)))
    (p : e ≡ stepped_desk d (take (length s - u) (drop u s))) (q : n ≡ stepped_next (take (length s - u) (drop u s)))
  where
    rest : take (length s - u) (drop u s) ≡ drop u s
    rest = take_every (length s - u) (drop u s) (omega (arith, length-drop u s))

    step : left (take_all d₀ s) ≡ left (after_take take_all e (drop u s) n)
    step =
        let a : e ≡ stepped_desk d (drop u s) = rw rest at p in
        let b : n ≡ stepped_next (drop u s) = rw rest at q in
        rw (a, b) (i ∙ ap left (take_step d (drop u s)))

    pub used-within : (m : ℕ) → n ≡ Next.Used m → (1 ≤ m) × (m ≤ length (drop u s))
    used-within m r = used_bounds (drop u s) m (sym (rw rest at q) ∙ r)

    pub step-used : (m : ℕ) → n ≡ Next.Used m → left (take_all d₀ s) ≡ left (take_all e (drop (u + m) s))
    step-used m r = rw (← drop-drop m u s) (step ∙ ap (λ (k : Next). left (after_take take_all e (drop u s) k)) r)

    pub step-more : n ≡ Next.More → left (take_all d₀ s) ≡ go_on e (drop u s)
    step-more r = step ∙ ap (λ (k : Next). left (after_take take_all e (drop u s) k)) r

    pub step-stop : n ≡ Next.Stop → left (take_all d₀ s) ≡ stop e
    step-stop r = step ∙ ap (λ (k : Next). left (after_take take_all e (drop u s) k)) r

-- at the end of the bytes
pub none_more : (d : Desk) (s : List ℕ) (u : ℕ) → length s ≤ u → left (take_all d (drop u s)) ≡ go_on d (drop u s)
none_more d s u h = rw (drop_of_length-le s h)

-- what is kept is short
pub kept_few : (d e : Desk) (s kept : List ℕ) → left (take_all d s) ≡ go_on e kept → length kept ≤ 68
kept_few d e s kept p =
    let z : (take_all d s).kept ≡ kept = ap (λ (t : Turn). t.kept) p in
    rw z at (kept_short d s)

pub reads_snoc : (t : Turn) (l : List (List ℕ)) (c : List ℕ) → reads t (l ++ (c ∷ [])) ≡ read_on (reads t l) c
reads_snoc t [] c = refl
reads_snoc t (s ∷ l) c = reads_snoc (read_on t s) l c

-- a read more

piece_more : (d₀ d : Desk) (b c : List ℕ) (s : Stands d₀ d b) → left (reads (begin d₀ []) (s.0 ++ (c ∷ []))) ≡ left (take_all d (b ++ c))
piece_more d₀ d b c s =
    let w : left (reads (begin d₀ []) s.0) ≡ go_on d b = s.1 in
    ap left (reads_snoc (begin d₀ []) s.0 c)
    ∙ rw (ap (λ (x : Turn). x.more) w, ap (λ (x : Turn). x.desk) w, ap (λ (x : Turn). x.kept) w) refl

pub stands_on : (d₀ d e : Desk) (k : Sink) (b kept : List ℕ) → Stands d₀ d b → Read d k b e kept (Ok tt) → Stands d₀ e kept
stands_on d₀ d e k b kept s r = (s.0 ++ (r.1.0 ∷ []), piece_more d₀ d b r.1.0 s ∙ r.1.1)

-- or the end

abbrev ended_at : End → Desk → Ended
ended_at x e = record { desk = e; end = x }

pub stands_end : (d₀ d : Desk) (b : List ℕ) (x : End) → Stands d₀ d b → (w : Seen) × (ended_at x d ≡ ended_by d₀ w)
stands_end d₀ d b x s = (record { pieces = s.0; end = x }, ap (ended_at x) (sym (ap (λ (t : Turn). t.desk) s.1)))

pub stands_off : (d₀ d e : Desk) (k : Sink) (b kept : List ℕ) (x : End) → Stands d₀ d b → Read d k b e kept (Err x)
    → (w : Seen) × (ended_at x e ≡ ended_by d₀ w)
stands_off d₀ d e k b kept x s r =
    ⊎_elim
    (λ p. rw p (stands_end d₀ d b x s))
    (λ q. (record { pieces = s.0 ++ (q.0 ∷ []); end = x }, ap (ended_at x) (sym (ap (λ (t : Turn). t.desk) (piece_more d₀ d b q.0 s) ∙ q.1))))
    r.1
