-- What stands in the buffer: a line that is stored after the bytes before it, a turn of `take_all`, and that these bytes are the last of
-- those that a turn of report's Reads writes.
-- Assumes nothing.
use mathlib.Core.Path.{◌≡◌, refl, ap, sym, ◌∙◌}
use mathlib.Core.Bool.{Bool, true, false, cond}
use mathlib.Core.List.{List, [], ◌++◌, append-nil, append_assoc}
use Prim.Native.Nat.{ℕ, zero, suc, ◌+◌, ◌-◌, ◌≤◌, ◌<◌}
use native.Mathlib.Omega.{arith}
use lib.Dec.{leb}
use lib.ListN.{length, take, drop, length-append, length-drop, drop_of_length-le}
use lib.Seq.{take_all as take_every, drop-drop}
use borrow.Author.Tests.{le-leb, lt-leb, leb-true}
use Rattle.wire_framing.specs.Framing.{framed}
use Rattle.desk_report.specs.Buffer.{added}
use Rattle.desk_report.specs.Desk.{stepped_desk, stepped_bytes, stepped_next}
use Rattle.desk_report.specs.Reads.{after_take, taking, take_all}
use Rattle.desk_report.specs.declared.desk.Desk.{Desk}
use Rattle.desk_report.specs.declared.desk.Next.{Next}
use Rattle.desk_stream.specs.Held.{held, held_next, holding, held_all}

-- a line comes after the bytes b, or alone

pub with_room : (b line l : List ℕ) → length b + length line ≤ 4096 → l ≡ b ++ line → l ≡ held b line
unfolding held
with_room b line l k e = rw (le-leb (length b + length line) 4096 k) e

pub without_room : (b line l : List ℕ) → 4096 < length b + length line → l ≡ line → l ≡ held b line
unfolding held
without_room b line l k e = rw (lt-leb (length b + length line) 4096 k) e

-- a line that has room is stored
pub stored : (b line l : List ℕ) → length b + length line ≤ 4096 → l ≡ added 4096 b line → l ≡ b ++ line
stored b line l k e = rw (le-leb (length b + length line) 4096 k) at e

pub stored_alone : (b line l : List ℕ) → length line ≤ 4096 → b ≡ [] → l ≡ added 4096 b line → l ≡ line
stored_alone b line l k n e =
    let z : length b + length line ≤ 4096 = omega (arith, ap length n) in
    rw n at (stored b line l z e)

pub held_short : (b line : List ℕ) → length line ≤ 4096 → length (held b line) ≤ 4096
unfolding held
held_short b line h = tested (leb (length b + length line) 4096) refl
  where
    tested : (t : Bool) → leb (length b + length line) 4096 ≡ t → length (cond t (b ++ line) line) ≤ 4096
    tested true e = omega (arith, length-append b line, leb-true (length b + length line) 4096 e)
    tested false e = h

-- after some turns of `take_all` from the desk d₀: the desk d, the place u of the bytes s, the bytes b in the buffer
abbrev pub Holds : Desk → List ℕ → Desk → ℕ → List ℕ → Type 0
Holds d₀ s d u b = (k : ℕ) × (length (drop u s) ≤ k) × (holding k d (drop u s) b ≡ held_all d₀ s)

pub holds_first : (d : Desk) (s : List ℕ) → Holds d s d 0 []
holds_first d s = (length s, omega arith, refl)

module _
    (d₀ d e : Desk) (s b c : List ℕ) (u : ℕ) (n : Next) (h : u < length s) (i : Holds d₀ s d u b)
    (p : e ≡ stepped_desk d (take (length s - u) (drop u s))) (q : n ≡ stepped_next (take (length s - u) (drop u s)))
    (r : c ≡ held b (stepped_bytes d (take (length s - u) (drop u s))))
  where
    step : (k : ℕ) × (length (drop u s) ≤ suc k) × (held_next (holding k) e (drop u s) c n ≡ held_all d₀ s)
    step = counted i.0 i.1 i.2
      where
        counted : (k : ℕ) → length (drop u s) ≤ k → holding k d (drop u s) b ≡ held_all d₀ s
            → (k : ℕ) × (length (drop u s) ≤ suc k) × (held_next (holding k) e (drop u s) c n ≡ held_all d₀ s)
        counted zero l t = absurd (omega (arith, length-drop u s))
        counted (suc k) l t =
            let z : take (length s - u) (drop u s) ≡ drop u s = take_every (length s - u) (drop u s) (omega (arith, length-drop u s)) in
            (k, l, rw (p, q, r, z) t)

    told : (m : Next) → n ≡ m → held_next (holding step.0) e (drop u s) c m ≡ held_all d₀ s
    told m w = ap (λ (z : Next). held_next (holding step.0) e (drop u s) c z) (sym w) ∙ step.2

    pub holds-used : (m : ℕ) → n ≡ Next.Used m → 1 ≤ m → Holds d₀ s e (u + m) c
    holds-used m w l = (step.0, omega (arith, step.1, length-drop u s, length-drop (u + m) s), rw (← drop-drop m u s) (told (Next.Used m) w))

    pub holds_more : n ≡ Next.More → c ≡ held_all d₀ s
    holds_more w = told Next.More w

    pub holds-stop : n ≡ Next.Stop → c ≡ held_all d₀ s
    holds-stop w = told Next.Stop w

-- at the end of the bytes
pub holds_all : (d₀ d : Desk) (s b : List ℕ) (u : ℕ) → length s ≤ u → length b ≤ 4096 → Holds d₀ s d u b → b ≡ held_all d₀ s
unfolding framed held
holds_all d₀ d s b u h l i = counted i.0 (rw (drop_of_length-le s h) at i.2)
  where
    counted : (k : ℕ) → holding k d [] b ≡ held_all d₀ s → b ≡ held_all d₀ s
    counted zero t = t
    counted (suc k) t =
        let z : length b + 0 ≤ 4096 = omega arith in
        rw (le-leb (length b + 0) 4096 z, append-nil b) at t

-- the bytes in the buffer are the last that a turn writes: those before them were written out

held_last : (b line : List ℕ) → (w : List ℕ) × (w ++ held b line ≡ b ++ line)
unfolding held
held_last b line = tested (leb (length b + length line) 4096)
  where
    tested : (t : Bool) → (w : List ℕ) × (w ++ cond t (b ++ line) line ≡ b ++ line)
    tested true = ([], refl)
    tested false = (b, refl)

holding_last : (k : ℕ) (d : Desk) (s b : List ℕ) → (w : List ℕ) × (w ++ holding k d s b ≡ b ++ (taking k d s).written)
holding_last zero d s b = ([], sym (append-nil b))
holding_last (suc k) d s b = found (holding_last k) (stepped_next s)
  where
    found : ((d : Desk) (s b : List ℕ) → (w : List ℕ) × (w ++ holding k d s b ≡ b ++ (taking k d s).written)) → (n : Next)
        → (w : List ℕ) × (w ++ held_next (holding k) (stepped_desk d s) s (held b (stepped_bytes d s)) n ≡ b ++ (stepped_bytes d s ++ (after_take (taking k) (stepped_desk d s) s n).written))
    found ih (Next.Used m) =
        let x = held_last b (stepped_bytes d s) in
        let y = ih (stepped_desk d s) (drop m s) (held b (stepped_bytes d s)) in
        let t = (taking k (stepped_desk d s) (drop m s)).written in
        (x.0 ++ y.0, append_assoc x.0 y.0 _ ∙ (ap (λ (z : List ℕ). x.0 ++ z) y.1 ∙ (sym (append_assoc x.0 (held b (stepped_bytes d s)) t) ∙ (ap (λ (z : List ℕ). z ++ t) x.1 ∙ append_assoc b (stepped_bytes d s) t))))
    found ih Next.More = let x = held_last b (stepped_bytes d s) in (x.0, rw (append-nil (stepped_bytes d s)) x.1)
    found ih Next.Stop = let x = held_last b (stepped_bytes d s) in (x.0, rw (append-nil (stepped_bytes d s)) x.1)

pub held_lines : (d : Desk) (s : List ℕ) → (w : List ℕ) × (w ++ held_all d s ≡ (take_all d s).written)
held_lines d s = holding_last (length s) d s []
