-- What was written and read of bytes that are known, over the turns of `take_all` and of a run: what was written, what stands in the
-- buffer and what the packets that are left will add are together the lines of all.
-- Assumes nothing.
use mathlib.Core.Path.{◌≡◌, refl, ap, sym, ◌∙◌}
use mathlib.Core.Bool.{Bool, true, false}
use mathlib.Core.List.{List, [], ◌∷◌, ◌++◌, flatten, append-nil, append_assoc}
use mathlib.Core.Logic.{⊎_elim}
use Prim.Native.Nat.{ℕ, ◌+◌, ◌-◌, ◌≤◌}
use native.Mathlib.Omega.{arith}
use lib.ListN.{length, take, drop, length-drop, drop_of_length-le}
use lib.Seq.{take_all as take_every, drop-drop}
use Rattle.std.specs.Prelude.{Option, None, Some, IfSome}
use Rattle.std.specs.Io.KnownBytes.{Consumes}
use Rattle.std.proofs.KnownBytes.{Appends-nil, Appends-trans, Consumes-nil, Consumes-trans}
use Rattle.desk_report.specs.Desk.{stepped_desk, stepped_bytes, stepped_next, end_bytes, output_of, desk_of}
use Rattle.desk_report.specs.Reads.{Turn, begin, go_on, stop, after_take, take_all, reads, ended}
use Rattle.desk_report.specs.declared.desk.Desk.{Desk}
use Rattle.desk_report.specs.declared.desk.Next.{Next}
use Rattle.desk_report.proofs.Whole.{take_step, whole}
use Rattle.desk_stream.specs.Took.{left}
use Rattle.desk_stream.specs.Known.{Wrote, Owes, PassesOn, Stops, Finishes, Fails, PassesAt, EndsOver}
use Rattle.desk_stream.specs.declared.End.{End}
use Rattle.desk_stream.specs.declared.sink.Sink.{Sink}
use Rattle.desk_stream.proofs.Takes.{reads_snoc}

-- nothing is written yet
pub owes_none : (k : Sink) (w : Option (List ℕ)) (b c : List ℕ) → c ≡ b → Owes k w w b c
owes_none k w b c e = ([], e, λ n. Appends-nil w)

-- the bytes before a line are written out
pub owes_line : (k : Sink) (w w' : Option (List ℕ)) (b line c : List ℕ) → Wrote k w w' b → c ≡ line → Owes k w w' (b ++ line) c
owes_line k w w' b line c h e = (b, ap (λ (z : List ℕ). b ++ z) e, h)

-- a line more: t are the lines that are left before it, r those after it
owes_join : (k : Sink) (w w' w'' : Option (List ℕ)) (all b line c t r : List ℕ) → Owes k w w' all (b ++ t) → Owes k w' w'' (b ++ line) c
    → t ≡ line ++ r → Owes k w w'' all (c ++ r)
owes_join k w w' w'' all b line c t r o p e =
    let x = o.0 in
    let y = p.0 in
    let a : y ++ (c ++ r) ≡ b ++ t =
    sym (append_assoc y c r) ∙ ap (λ (z : List ℕ). z ++ r) p.1 ∙ append_assoc b line r ∙ ap (λ (z : List ℕ). b ++ z) (sym e)
    in
    (x ++ y, append_assoc x y (c ++ r) ∙ ap (λ (z : List ℕ). x ++ z) a ∙ o.1, λ n. Appends-trans w w' w'' x y (o.2 n) (p.2 n))

-- after some turns of `take_all` from the desk d₀: the desk d, the place u of the bytes s, the bytes b in the buffer
abbrev pub Due : Desk → Sink → List ℕ → Option (List ℕ) → Option (List ℕ) → Desk → ℕ → List ℕ → Type 0
Due d₀ k s w w' d u b = Owes k w w' (take_all d₀ s).written (b ++ (take_all d (drop u s)).written)

pub due_first : (d : Desk) (k : Sink) (s : List ℕ) (w : Option (List ℕ)) → Due d k s w w d 0 []
due_first d k s w = owes_none k w (take_all d s).written (take_all d s).written refl

module _
    (d₀ d e : Desk) (k : Sink) (s b c : List ℕ) (w w' w'' : Option (List ℕ)) (u : ℕ) (n : Next)
    (i : Due d₀ k s w w' d u b)
    (p : e ≡ stepped_desk d (take (length s - u) (drop u s))) (q : n ≡ stepped_next (take (length s - u) (drop u s)))
    (o : Owes k w' w'' (b ++ stepped_bytes d (take (length s - u) (drop u s))) c)
  where
    rest : take (length s - u) (drop u s) ≡ drop u s
    rest = take_every (length s - u) (drop u s) (omega (arith, length-drop u s))

    step : Owes k w w'' (take_all d₀ s).written (c ++ (after_take take_all e (drop u s) n).written)
    step =
        let v = drop u s in
        let f : e ≡ stepped_desk d v = rw rest at p in
        let g : n ≡ stepped_next v = rw rest at q in
        let a : Owes k w' w'' (b ++ stepped_bytes d v) c = rw rest at o in
        rw (f, g)
        (owes_join k w w' w'' (take_all d₀ s).written b (stepped_bytes d v) c (take_all d v).written (after_take take_all (stepped_desk d v) v (stepped_next v)).written i a
        (ap (λ (t : Turn). t.written) (take_step d v)))

    told : (m : Next) → n ≡ m → Owes k w w'' (take_all d₀ s).written (c ++ (after_take take_all e (drop u s) m).written)
    told m h = rw h at step

    pub due_used : (m : ℕ) → n ≡ Next.Used m → Due d₀ k s w w'' e (u + m) c
    due_used m h = rw (← drop-drop m u s) (told (Next.Used m) h)

    pub due_more : n ≡ Next.More → Owes k w w'' (take_all d₀ s).written c
    due_more h = rw (append-nil c) at (told Next.More h)

    pub due_stop : n ≡ Next.Stop → Owes k w w'' (take_all d₀ s).written c
    due_stop h = rw (append-nil c) at (told Next.Stop h)

-- at the end of the bytes
pub due_all : (d₀ d : Desk) (k : Sink) (s b : List ℕ) (w w' : Option (List ℕ)) (u : ℕ) → length s ≤ u → Due d₀ k s w w' d u b
    → Owes k w w' (take_all d₀ s).written b
due_all d₀ d k s b w w' u h i = rw (append-nil b) at (rw (drop_of_length-le s h) at i)

-- from the desk d₀ on pieces l were read, and a run over them stands here and has written this
abbrev pub Over : Desk → Sink → Option (List ℕ) → Option (List ℕ) → Option (List ℕ) → Option (List ℕ) → Desk → List ℕ → Type 0
Over d₀ k r r' w w' d kept =
    (l : List (List ℕ)) × Consumes r r' (flatten l) × (left (reads (begin d₀ []) l) ≡ go_on d kept) × Wrote k w w' (reads (begin d₀ []) l).written

pub over_first : (d : Desk) (k : Sink) (r w : Option (List ℕ)) → Over d k r r w w d []
unfolding flatten
over_first d k r w = ([], Consumes-nil r, refl, λ n. Appends-nil w)

flatten_snoc : (l : List (List ℕ)) (c : List ℕ) → flatten (l ++ (c ∷ [])) ≡ flatten l ++ c
unfolding flatten
flatten_snoc [] c = append-nil c
flatten_snoc (b ∷ l) c = ap (λ (z : List ℕ). b ++ z) (flatten_snoc l c) ∙ sym (append_assoc b (flatten l) c)

module _ (d₀ d : Desk) (k : Sink) (r r' r'' w w' w'' : Option (List ℕ)) (b : List ℕ) (o : Over d₀ k r r' w w' d b) where
  before : Turn
  before = reads (begin d₀ []) o.0

  module _ (c : List ℕ) where
    after : Turn
    after = reads (begin d₀ []) (o.0 ++ (c ∷ []))

    pieces_more : Consumes r' r'' c → Consumes r r'' (flatten (o.0 ++ (c ∷ [])))
    pieces_more h = rw (flatten_snoc o.0 c) (Consumes-trans r r' r'' (flatten o.0) c o.1 h)

    turn_more : reads (begin d₀ []) (o.0 ++ (c ∷ []))
        ≡ record {
          desk = (take_all d (b ++ c)).desk;
          kept = (take_all d (b ++ c)).kept;
          more = (take_all d (b ++ c)).more;
          written = (reads (begin d₀ []) o.0).written ++ (take_all d (b ++ c)).written;
        }
    turn_more =
        let e = o.2 in
        reads_snoc (begin d₀ []) o.0 c
        ∙ rw (ap (λ (x : Turn). x.more) e, ap (λ (x : Turn). x.desk) e, ap (λ (x : Turn). x.kept) e) refl

    wrote_more : Wrote k w' w'' (take_all d (b ++ c)).written → Wrote k w w'' (reads (begin d₀ []) (o.0 ++ (c ∷ []))).written
    wrote_more h =
        rw (ap (λ (x : Turn). x.written) turn_more)
        (λ n. Appends-trans w w' w'' (reads (begin d₀ []) o.0).written (take_all d (b ++ c)).written (o.3 n) (h n))

  pub over_on : (e : Desk) (kept : List ℕ) → PassesOn d k b r' r'' w' w'' e kept → Over d₀ k r r'' w w'' e kept
  over_on e kept p =
      let c = p.0 in
      (o.0 ++ (c ∷ []), pieces_more c p.1, ap left (turn_more c) ∙ p.2, wrote_more c p.3)

  over_stop : (e : Desk) → Stops d k b r' r'' w' w'' e → EndsOver d₀ k r r'' w w'' e End.Read
  over_stop e p =
      let c = p.0 in
      let l = o.0 ++ (c ∷ []) in
      let t : left (reads (begin d₀ []) l) ≡ stop e = ap left (turn_more c) ∙ p.2 in
      let m : (reads (begin d₀ []) l).more ≡ false = ap (λ (x : Turn). x.more) t in
      let z : ended (reads (begin d₀ []) l) ≡ (reads (begin d₀ []) l).written =
      rw m (append-nil (reads (begin d₀ []) l).written)
      in
      (l, pieces_more c p.1, ap (λ (x : Turn). x.desk) t, λ y. absurd (cc), rw z (wrote_more c p.3))

  over_finish : (e : Desk) → Finishes d k b r' r'' w' w'' e → EndsOver d₀ k r r'' w w'' e End.Read
  over_finish e p =
      let t = o.2 in
      let z : ended (reads (begin d₀ []) o.0) ≡ (reads (begin d₀ []) o.0).written ++ end_bytes d b =
      rw (ap (λ (x : Turn). x.more) t, ap (λ (x : Turn). x.desk) t, ap (λ (x : Turn). x.kept) t) refl
      in (
        o.0,
        rw (append-nil (flatten o.0)) at (Consumes-trans r r' r'' (flatten o.0) [] o.1 p.0),
        ap (λ (x : Turn). x.desk) t ∙ sym p.2,
        λ y. p.1,
        rw z (λ n. Appends-trans w w' w'' (reads (begin d₀ []) o.0).written (end_bytes d b) (o.3 n) (p.3 n)),
      )

  over_fail : (e : Desk) → Fails d k r' r'' w' w'' e → EndsOver d₀ k r r'' w w'' e End.Unread
  over_fail e p = (
    o.0,
    rw (append-nil (flatten o.0)) at (Consumes-trans r r' r'' (flatten o.0) [] o.1 p.0),
    ap (λ (x : Turn). x.desk) o.2 ∙ sym p.1,
    λ n. rw (append-nil (reads (begin d₀ []) o.0).written) at (Appends-trans w w' w'' (reads (begin d₀ []) o.0).written [] (o.3 n) (p.2 n)),
  )

  pub over_off : (e : Desk) (x : End) → PassesAt d k b r' r'' w' w'' e x → EndsOver d₀ k r r'' w w'' e x
  over_off e End.Read p = ⊎_elim (over_finish e) (over_stop e) p
  over_off e End.Unread p = over_fail e p
  over_off e End.Unwritten p = tt

-- the whole input: where a refused length stopped the run, what is left changes nothing

at_end : (d : Desk) (s t : List ℕ) (l : List (List ℕ)) (more : Bool) → (reads (begin d []) l).more ≡ more → s ≡ flatten l ++ t → (more ≡ true → t ≡ [])
    → ((reads (begin d []) l).desk ≡ desk_of d s) × (ended (reads (begin d []) l) ≡ output_of d s)
at_end d s t l true h e f =
    let a : flatten l ≡ s = sym (append-nil (flatten l)) ∙ ap (λ (z : List ℕ). flatten l ++ z) (sym (f refl)) ∙ sym e in
    let w = whole d [] l in
    (rw a at w.desk, rw a at w.written)
at_end d s t l false h e f =
    let a : flatten (l ++ (t ∷ [])) ≡ s = flatten_snoc l t ∙ sym e in
    let b : reads (begin d []) (l ++ (t ∷ [])) ≡ reads (begin d []) l = reads_snoc (begin d []) l t ∙ rw h refl in
    let w = whole d [] (l ++ (t ∷ [])) in
    (sym (ap (λ (x : Turn). x.desk) b) ∙ (rw a at w.desk), sym (ap ended b) ∙ (rw a at w.written))

pub over_whole : (d e : Desk) (k : Sink) (r r' w w' : Option (List ℕ)) → EndsOver d k r r' w w' e End.Read
    → IfSome r (λ s. (e ≡ desk_of d s) × Wrote k w w' (output_of d s))
over_whole d e k None r' w w' o = tt
over_whole d e k (Some s) None w w' o = absurd o.1
over_whole d e k (Some s) (Some t) w w' o =
    let z = at_end d s t o.0 (reads (begin d []) o.0).more refl o.1 o.3 in
    (sym o.2 ∙ z.0, rw z.1 at o.4)
