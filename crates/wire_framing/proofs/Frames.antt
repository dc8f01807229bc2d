-- What framing gives: for length, packet and rest that packet; a frame is within the bytes; what follows a frame or a refused length changes
-- nothing.
-- Assumes nothing.
use Rattle.std.specs.Prelude.{Result, Ok, Err}
use mathlib.Core.Path.{◌≡◌, refl, ap, ◌∙◌}
use mathlib.Core.Bool.{Bool, true, false, cond}
use mathlib.Core.List.{List, [], ◌∷◌, ◌++◌}
use Prim.Native.Nat.{ℕ, zero, suc, ◌+◌, ◌-◌, ◌*◌, ◌≤◌}
use native.Mathlib.Omega.{arith}
use lib.Dec.{eqb, leb, ltb}
use lib.ListN.{length, take, drop, length-append}
use lib.Seq.{take-append_seam, drop-append_seam}
use borrow.Author.Tests.{le-ltb, le-leb, ne_eqb, eqb-true, eqb-false, ltb-false, leb-true, leb-false}
use Rattle.wire.specs.Number.{leb128, read_number, digits_read, digit_before, within}
use Rattle.wire.proofs.OneNumber.{AllBytes, read_write, write_read}
use Rattle.wire_framing.specs.Framing.{sized, framed_at, framed}
use Rattle.wire_framing.specs.declared.Framed.{Framed}

-- a frame: its length was read, is 1 to 64, and so many bytes are there
pub record Told (s : List ℕ) (u n : ℕ) : Type 0 where
  pub number : read_number 4294967295 s ≡ Ok (n, u)
  pub least : 1 ≤ n
  pub most : n ≤ 64
  pub there : u + n ≤ length s

record Sized (have used v u n : ℕ) : Type 0 where
  used_same : used ≡ u
  length_same : v ≡ n
  least : 1 ≤ v
  most : v ≤ 64
  there : used + v ≤ have

sized_told : (have used v u n : ℕ) → sized have used v ≡ Ok (Framed.Frame u n) → Sized have used v u n
sized_told have used v u n e = tested (eqb v 0) (ltb 64 v) (leb (used + v) have) refl refl refl e
  where
    tested : (a b d : Bool) → eqb v 0 ≡ a → ltb 64 v ≡ b → leb (used + v) have ≡ d
        → cond {A = Result Framed ℕ} a (Err 32) (cond {A = Result Framed ℕ} b (Err 32) (cond {A = Result Framed ℕ} d (Ok (Framed.Frame used v)) (Ok Framed.Cut))) ≡ Ok (Framed.Frame u n)
        → Sized have used v u n
    tested true b d p q r t = absurd (cc)
    tested false true d p q r t = absurd (cc)
    tested false false false p q r t = absurd (cc)
    tested false false true p q r t =
        let f : used ≡ u = cc in
        let g : v ≡ n = cc in
        let a = eqb-false v 0 p in
        record { used_same = f; length_same = g; least = omega arith; most = ltb-false 64 v q; there = leb-true (used + v) have r }

at_told : (s : List ℕ) (r : Result (ℕ × ℕ) ℕ) (u n : ℕ) → read_number 4294967295 s ≡ r → framed_at (length s) r ≡ Ok (Framed.Frame u n) → Told s u n
at_told s (Err k) u n p e = tested (eqb k 30) e
  where
    tested : (t : Bool) → cond {A = Result Framed ℕ} t (Ok Framed.Cut) (Err k) ≡ Ok (Framed.Frame u n) → Told s u n
    tested true q = absurd (cc)
    tested false q = absurd (cc)
at_told s (Ok (v, used)) u n p e =
    let w = sized_told (length s) used v u n e in
    record {
      number = rw (← w.used_same, ← w.length_same) p;
      least = omega (arith, w.length_same, w.least);
      most = omega (arith, w.length_same, w.most);
      there = omega (arith, w.length_same, w.used_same, w.there);
    }

pub frame_told : (s : List ℕ) (u n : ℕ) → framed s ≡ Ok (Framed.Frame u n) → Told s u n
unfolding framed
frame_told s u n e = tested (eqb (length s) 0) e
  where
    tested : (t : Bool) → cond {A = Result Framed ℕ} t (Ok Framed.Empty) (framed_at (length s) (read_number 4294967295 s)) ≡ Ok (Framed.Frame u n) → Told s u n
    tested true q = absurd (cc)
    tested false q = at_told s (read_number 4294967295 s) u n refl q

-- length, packet and rest: the packet's bytes, whatever follows

module _ (p rest : List ℕ) (least : 1 ≤ length p) (most : length p ≤ 64) where
  pub framed_packet : framed (leb128 (length p) ++ (p ++ rest)) ≡ Ok (Framed.Frame (length (leb128 (length p))) (length p))
  unfolding framed
  framed_packet =
      let n = length p in
      let l = leb128 n in
      let all : length (l ++ (p ++ rest)) ≡ length l + (n + length rest) = length-append l (p ++ rest) ∙ ap (λ (k : ℕ). length l + k) (length-append p rest) in
      let some : length (l ++ (p ++ rest)) ≡ 0 → ⊥ = omega arith in
      let none : n ≡ 0 → ⊥ = omega arith in
      let there : length l + n ≤ length (l ++ (p ++ rest)) = omega arith in
      let fits : n ≤ 4294967295 = omega arith in
      rw (ne_eqb (length (l ++ (p ++ rest))) 0 some, read_write 4294967295 n (p ++ rest) fits fits, ne_eqb n 0 none, le-ltb 64 n most, le-leb (length l + n) (length (l ++ (p ++ rest))) there)

  pub packet_there : take (length p) (drop (length (leb128 (length p))) (leb128 (length p) ++ (p ++ rest))) ≡ p
  packet_there = rw (drop-append_seam (leb128 (length p)) (p ++ rest)) (take-append_seam p rest)

-- a frame is its length, the packet and the rest
pub frame_bytes : (s : List ℕ) (u n : ℕ) → AllBytes s → framed s ≡ Ok (Framed.Frame u n) → s ≡ leb128 n ++ drop u s
frame_bytes s u n h e = write_read 4294967295 s n u h (frame_told s u n e).number

-- more bytes after a number change nothing, unless it was cut short

digits_more : (k : ℕ) (s t : List ℕ) → (digits_read k s ≡ Err 30 → ⊥) → digits_read k (s ++ t) ≡ digits_read k s
digits_more k [] t h = absurd (h refl)
digits_more zero (b ∷ s) t h = refl
digits_more (suc k) (b ∷ s) t h = tested (ltb b 128) h (digits_more k s t)
  where
    tested : (a : Bool) → (cond {A = Result (ℕ × ℕ) ℕ} a (Ok (b, 1)) (digit_before (b - 128) (digits_read k s)) ≡ Err 30 → ⊥)
        → ((digits_read k s ≡ Err 30 → ⊥) → digits_read k (s ++ t) ≡ digits_read k s)
        → cond {A = Result (ℕ × ℕ) ℕ} a (Ok (b, 1)) (digit_before (b - 128) (digits_read k (s ++ t)))
        ≡ cond {A = Result (ℕ × ℕ) ℕ} a (Ok (b, 1)) (digit_before (b - 128) (digits_read k s))
    tested true g ih = refl
    tested false g ih = ap (digit_before (b - 128)) (ih (λ e. g (ap (digit_before (b - 128)) e)))

pub number_more : (l : ℕ) (s t : List ℕ) → (read_number l s ≡ Err 30 → ⊥) → read_number l (s ++ t) ≡ read_number l s
unfolding read_number
number_more l s t h = ap (within l) (digits_more 4 s t (λ e. h (ap (within l) e)))

-- so a frame is found as soon as its bytes are there
pub frame_more : (s t : List ℕ) (u n : ℕ) → framed s ≡ Ok (Framed.Frame u n) → framed (s ++ t) ≡ Ok (Framed.Frame u n)
unfolding framed
frame_more s t u n e =
    let w = frame_told s u n e in
    let m = number_more 4294967295 s t (λ q. cc w.number) ∙ w.number in
    let l = length-append s t in
    let some : length (s ++ t) ≡ 0 → ⊥ = omega (arith, w.least, w.there) in
    let none : n ≡ 0 → ⊥ = omega (arith, w.least) in
    let there : u + n ≤ length (s ++ t) = omega (arith, w.there) in
    rw (ne_eqb (length (s ++ t)) 0 some, m, ne_eqb n 0 none, le-ltb 64 n w.most, le-leb (u + n) (length (s ++ t)) there)

-- and a length that is refused stays so

sized_refused : (have more used v k : ℕ) → sized have used v ≡ Err k → sized more used v ≡ Err k
sized_refused have more used v k e = tested (eqb v 0) (ltb 64 v) (leb (used + v) have) e
  where
    tested : (a b d : Bool)
        → cond {A = Result Framed ℕ} a (Err 32) (cond {A = Result Framed ℕ} b (Err 32) (cond {A = Result Framed ℕ} d (Ok (Framed.Frame used v)) (Ok Framed.Cut))) ≡ Err k
        → cond {A = Result Framed ℕ} a (Err 32) (cond {A = Result Framed ℕ} b (Err 32) (cond {A = Result Framed ℕ} (leb (used + v) more) (Ok (Framed.Frame used v)) (Ok Framed.Cut))) ≡ Err k
    tested true b d q = q
    tested false true d q = q
    tested false false true q = absurd (cc)
    tested false false false q = absurd (cc)

refused_at_lem : (s t : List ℕ) (r : Result (ℕ × ℕ) ℕ) (k : ℕ) → read_number 4294967295 s ≡ r → framed_at (length s) r ≡ Err k
    → framed_at (length (s ++ t)) (read_number 4294967295 (s ++ t)) ≡ Err k
refused_at_lem s t (Ok (v, used)) k p e =
    let m = number_more 4294967295 s t (λ q. cc) ∙ p in
    rw m (sized_refused (length s) (length (s ++ t)) used v k e)
refused_at_lem s t (Err n) k p e = tested (eqb n 30) refl e
  where
    tested : (a : Bool) → eqb n 30 ≡ a → cond {A = Result Framed ℕ} a (Ok Framed.Cut) (Err n) ≡ Err k
        → framed_at (length (s ++ t)) (read_number 4294967295 (s ++ t)) ≡ Err k
    tested true g q = absurd (cc)
    tested false g q =
        let d = eqb-false n 30 g in
        let m = number_more 4294967295 s t (λ q. d (let z : n ≡ 30 = cc in z)) ∙ p in
        rw (m, g) q

pub refused_more : (s t : List ℕ) (k : ℕ) → framed s ≡ Err k → framed (s ++ t) ≡ Err k
unfolding framed
refused_more s t k e = tested (eqb (length s) 0) refl e
  where
    tested : (a : Bool) → eqb (length s) 0 ≡ a → cond {A = Result Framed ℕ} a (Ok Framed.Empty) (framed_at (length s) (read_number 4294967295 s)) ≡ Err k
        → cond (eqb (length (s ++ t)) 0) (Ok Framed.Empty) (framed_at (length (s ++ t)) (read_number 4294967295 (s ++ t))) ≡ Err k
    tested true p q = absurd (cc)
    tested false p q =
        let d = eqb-false (length s) 0 p in
        let some : length (s ++ t) ≡ 0 → ⊥ = omega (arith, length-append s t) in
        rw (ne_eqb (length (s ++ t)) 0 some) (refused_at_lem s t (read_number 4294967295 s) k refl q)

-- bytes without a whole frame are fewer than a length and a packet: at most 5 and 64

-- a number that was cut short, and what one takes
abbrev Short : ℕ → List ℕ → Result (ℕ × ℕ) ℕ → Type 0
Short k s (Err n) = n ≡ 30 → length s ≤ k
Short k s (Ok (v, used)) = used ≤ suc k

digits_short : (k : ℕ) (s : List ℕ) → Short k s (digits_read k s)
digits_short k [] = λ e. omega arith
digits_short zero (b ∷ s) = tested (ltb b 128)
  where
    tested : (t : Bool) → Short 0 (b ∷ s) (cond {A = Result (ℕ × ℕ) ℕ} t (Ok (b, 1)) (Err 31))
    tested true = omega arith
    tested false = λ e. absurd (omega arith)
digits_short (suc k) (b ∷ s) = tested (ltb b 128) (digits_read k s) (digits_short k s)
  where
    long : (v u : ℕ) (t : Bool) → u ≤ suc k → Short (suc k) (b ∷ s) (cond {A = Result (ℕ × ℕ) ℕ} t (Err 31) (Ok (b - 128 + v * 128, suc u)))
    long v u true h = λ e. absurd (omega arith)
    long v u false h = omega arith

    tested : (t : Bool) (r : Result (ℕ × ℕ) ℕ) → Short k s r → Short (suc k) (b ∷ s) (cond {A = Result (ℕ × ℕ) ℕ} t (Ok (b, 1)) (digit_before (b - 128) r))
    tested true r h = omega arith
    tested false (Err n) h = λ e. let g = h e in omega arith
    tested false (Ok (v, u)) h = long v u (eqb v 0) h

number_short : (l : ℕ) (s : List ℕ) → Short 4 s (read_number l s)
unfolding read_number
number_short l s = tested (digits_read 4 s) (digits_short 4 s)
  where
    fits : (v u : ℕ) (t : Bool) → u ≤ 5 → Short 4 s (cond {A = Result (ℕ × ℕ) ℕ} t (Ok (v, u)) (Err 31))
    fits v u true h = h
    fits v u false h = λ e. absurd (omega arith)

    tested : (r : Result (ℕ × ℕ) ℕ) → Short 4 s r → Short 4 s (within l r)
    tested (Err n) h = h
    tested (Ok (v, u)) h = fits v u (leb v l) h

abbrev pub Unframed : List ℕ → Result Framed ℕ → Type 0
Unframed s (Ok Framed.Empty) = length s ≤ 68
Unframed s (Ok Framed.Cut) = length s ≤ 68
Unframed s (Err n) = Unit {0}
Unframed s (Ok (Framed.Frame u n)) = Unit {0}

at_short : (s : List ℕ) (r : Result (ℕ × ℕ) ℕ) → Short 4 s r → Unframed s (framed_at (length s) r)
at_short s (Err n) h = tested (eqb n 30) refl
  where
    tested : (t : Bool) → eqb n 30 ≡ t → Unframed s (cond {A = Result Framed ℕ} t (Ok Framed.Cut) (Err n))
    tested true p = let g = h (eqb-true n 30 p) in omega arith
    tested false p = tt
at_short s (Ok (v, u)) h = tested (eqb v 0) (ltb 64 v) (leb (u + v) (length s)) refl refl
  where
    tested : (a b d : Bool) → ltb 64 v ≡ b → leb (u + v) (length s) ≡ d
        → Unframed s (cond {A = Result Framed ℕ} a (Err 32) (cond {A = Result Framed ℕ} b (Err 32) (cond {A = Result Framed ℕ} d (Ok (Framed.Frame u v)) (Ok Framed.Cut))))
    tested true b d p q = tt
    tested false true d p q = tt
    tested false false true p q = tt
    tested false false false p q = omega (arith, ltb-false 64 v p, leb-false (u + v) (length s) q)

pub unframed_short : (s : List ℕ) → Unframed s (framed s)
unfolding framed
unframed_short s = tested (eqb (length s) 0) refl
  where
    tested : (t : Bool) → eqb (length s) 0 ≡ t → Unframed s (cond {A = Result Framed ℕ} t (Ok Framed.Empty) (framed_at (length s) (read_number 4294967295 s)))
    tested true p = omega (arith, eqb-true (length s) 0 p)
    tested false p = at_short s (read_number 4294967295 s) (number_short 4294967295 s)
