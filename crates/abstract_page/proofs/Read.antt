-- A page is read as what it says: blanks are trimmed off, a text that begins with a digit is no hyphen and no word, and the digits of a number are
-- read as the number.
-- Assumes nothing.
use Rattle.std.specs.Prelude.{None, Option, Some}
use mathlib.Core.Path.{◌≡◌, refl, ap, sym, ◌∙◌}
use mathlib.Core.Bool.{Bool, true, false, cond, ◌&&◌}
use mathlib.Core.List.{List, [], ◌∷◌, ◌++◌, append-nil, append_assoc}
use Prim.Native.Nat.{ℕ, zero, suc, ◌+◌, ◌*◌, ◌-◌, ◌/◌, ◌%◌, ◌^◌, ◌≤◌, ◌<◌}
use native.Mathlib.Omega.{arith}
use lib.Dec.{eqb, leb, ltb}
use lib.ListN.{length, take, drop, length-append}
use lib.Seq.{take_at, drop_at}
use borrow.Author.Tests.{leb-true, ne_eqb}
use Rattle.power_policy_interface.specs.Limits.{largest, max_ports, page_length}
use Rattle.std.proofs.lemmas.Bool.{and_parts}
use Rattle.interface_display.specs.Providers.{len, max_connected_providers}
use Rattle.interface_display.specs.declared.AvailableConsumer.{AvailableConsumer}
use Rattle.interface_display.specs.declared.Display.{Display}
use Rattle.interface_display.specs.declared.State.{State}
use Rattle.interface_display.specs.declared.providers.Providers.{Providers}
use Rattle.wire.specs.Bytes.{ports_from, ports_bytes}
use Rattle.wire.specs.WellFormed.{picture_fits, consumer_fits}
use Rattle.wire.proofs.Tracked.{count_ports}
use Rattle.abstract_desk.specs.Follower as desk
use Rattle.abstract_page.specs.Text.{blank, comma, hyphen, newline, decimal, left, right}
use Rattle.abstract_page.specs.Page.{Figure, absent, numbers, state, Entry, commas, text, line, lines, one, millivolts, milliamps, of_consumer, ports, entries, lost_entries, shown_entries, entries_of, page_of, Fits}
use Rattle.abstract_page.specs.ReadPage.{trim_front, trim_end, same, read_numbers, read_figure, read_line, read_lines, read_page}
use Rattle.abstract_page.proofs.Columns.{left_length, right_length, right_short, trim_blanks}
use Rattle.abstract_page.proofs.Decimal.{Begins, begins_more, decimal_begins, decimal_read, length_short}

-- numbers

abbrev EachBelow : ℕ → List ℕ → Type 0
EachBelow b [] = Unit {0}
EachBelow b (n ∷ l) = (n < b) × EachBelow b l

each_below : (a b : ℕ) (l : List ℕ) → a ≤ b → EachBelow a l → EachBelow b l
each_below a b [] h e = tt
each_below a b (n ∷ l) h e = (omega (arith, e.0), each_below a b l h e.1)

commas_read : (n : ℕ) (l : List ℕ) → EachBelow (10 ^ 20) (n ∷ l) → read_numbers 0 (commas (n ∷ l)) ≡ n ∷ l
commas_read n [] e = ap (read_numbers 0) (sym (append-nil (decimal n))) ∙ decimal_read n [] e.0
commas_read n (m ∷ l) e = decimal_read n (comma ∷ commas (m ∷ l)) e.0 ∙ ap (λ (t : List ℕ). n ∷ t) (commas_read m l e.1)

commas_begin : (n : ℕ) (l : List ℕ) → Begins (commas (n ∷ l))
commas_begin n [] = decimal_begins n
commas_begin n (m ∷ l) = begins_more (decimal n) (comma ∷ commas (m ∷ l)) (decimal_begins n)

pub commas_some : (n : ℕ) (l : List ℕ) → 1 ≤ length (commas (n ∷ l))
commas_some n l = let b = commas_begin n l in rw b.is (omega arith)

-- two digits and a comma each
commas_length : (l : List ℕ) → EachBelow 100 l → length (commas l) ≤ 3 * length l
commas_length [] e = omega arith
commas_length (n ∷ []) e = omega (arith, length_short 1 n e.0)
commas_length (n ∷ m ∷ l) e =
    omega (arith, length-append (decimal n) (comma ∷ commas (m ∷ l)), length_short 1 n e.0, commas_length (m ∷ l) e.1)

-- a figure

abbrev FigureFits : Figure → Type 0
FigureFits absent = Unit {0}
FigureFits (numbers []) = ⊥
FigureFits (numbers (n ∷ l)) = EachBelow (10 ^ 20) (n ∷ l) × (length (commas (n ∷ l)) ≤ 20)
FigureFits (state s) = Unit {0}

trim_digit : (s : List ℕ) → Begins s → trim_front s ≡ s
trim_digit s b =
    let h : b.first ≡ blank → ⊥ = λ e. omega (arith, b.least) in
    rw (b.is, ne_eqb b.first blank h)

other : (d b : ℕ) (r t : List ℕ) → (d ≡ b → ⊥) → same (d ∷ r) (b ∷ t) ≡ false
other d b r t h = rw (ne_eqb d b h)

figure_digit : (s : List ℕ) → Begins s → read_figure s ≡ numbers (read_numbers 0 s)
figure_digit s b =
    let d = b.first in
    let r = b.rest in
    let h : d ≡ hyphen → ⊥ = λ e. omega (arith, b.least) in
    let l : d ≡ 108 → ⊥ = λ e. omega (arith, b.most) in
    let w : d ≡ 119 → ⊥ = λ e. omega (arith, b.most) in
    rw (b.is, ne_eqb d hyphen h, ne_eqb d 108 l, ne_eqb d 119 w)

figure_read : (f : Figure) → FigureFits f → read_figure (trim_front (right 20 (text f))) ≡ f
unfolding right
figure_read absent h = refl
figure_read (numbers []) h = absurd h
figure_read (numbers (n ∷ l)) h =
    let s = commas (n ∷ l) in
    let m = 20 - length s in
    let b = commas_begin n l in
    ap (λ (t : List ℕ). read_figure (trim_front t)) (right_short m 20 s (omega (arith, h.1)))
    ∙ (ap read_figure (trim_blanks m s ∙ trim_digit s b) ∙ (figure_digit s b ∙ ap numbers (commas_read n l h.0)))
figure_read (state State.Lost) h = refl
figure_read (state State.Level) h = refl
figure_read (state State.Waiting) h = refl

-- a line, and all of them

pub line_length : (e : Entry) → length (line e) ≡ 41
unfolding line
line_length e =
    let l = left 20 e.name in
    let r = right 20 (text e.figure) in
    omega (arith, length-append l (r ++ (newline ∷ [])), length-append r (newline ∷ []), left_length 20 e.name, right_length 20 (text e.figure))

pub line_ends : (e : Entry) → drop 40 (line e) ≡ newline ∷ []
unfolding line
line_ends e =
    let l = left 20 e.name in
    let r = right 20 (text e.figure) in
    let k : length (l ++ r) ≡ 40 = omega (arith, length-append l r, left_length 20 e.name, right_length 20 (text e.figure)) in
    ap (drop 40) (sym (append_assoc l r (newline ∷ []))) ∙ drop_at (l ++ r) (newline ∷ []) 40 k

record EntryFits (e : Entry) : Type 0 where
  pub name : trim_end (left 20 e.name) ≡ e.name
  pub figure : FigureFits e.figure

line_read_lem : (e : Entry) (rest : List ℕ) → EntryFits e → read_line (line e ++ rest) ≡ e
unfolding line
line_read_lem e rest h =
    let l = left 20 e.name in
    let r = right 20 (text e.figure) in
    let s = (l ++ (r ++ (newline ∷ []))) ++ rest in
    let p : s ≡ l ++ (r ++ (newline ∷ rest)) = simp append_assoc in
    let n : take 20 s ≡ l = ap (take 20) p ∙ take_at l (r ++ (newline ∷ rest)) 20 (left_length 20 e.name) in
    let d : drop 20 s ≡ r ++ (newline ∷ rest) = ap (drop 20) p ∙ drop_at l (r ++ (newline ∷ rest)) 20 (left_length 20 e.name) in
    let f : take 20 (drop 20 s) ≡ r = ap (take 20) d ∙ take_at r (newline ∷ rest) 20 (right_length 20 (text e.figure)) in
    let a = ap trim_end n ∙ h.name in
    let b = ap (λ (t : List ℕ). read_figure (trim_front t)) f ∙ figure_read e.figure h.figure in
    λ i. record { name = a i; figure = b i }

abbrev AllFit : List Entry → Type 0
AllFit [] = Unit {0}
AllFit (e ∷ l) = EntryFits e × AllFit l

lines_read : (l : List Entry) → AllFit l → read_lines (length l) (lines l) ≡ l
lines_read [] h = refl
lines_read (e ∷ l) h =
    let d : drop 41 (line e ++ lines l) ≡ lines l = drop_at (line e) (lines l) 41 (line_length e) in
    let r = ap (read_lines (length l)) d ∙ lines_read l h.1 in
    λ i. line_read_lem e (lines l) h.0 i ∷ r i

lines_length : (l : List Entry) → length (lines l) ≡ 41 * length l
lines_length [] = refl
lines_length (e ∷ l) = omega (arith, length-append (line e) (lines l), line_length e, lines_length l)

-- the figures of a follower that fits

one_fits : (n : ℕ) → n < 10 ^ 10 → FigureFits (one n)
one_fits n h = ((omega arith, tt), omega (arith, length_short 9 n h))

consumer_fits_lem : (f : AvailableConsumer → ℕ) (c : Option AvailableConsumer) → ((a : AvailableConsumer) → consumer_fits (Some a) ≡ true → f a < 10 ^ 10)
    → consumer_fits c ≡ true → FigureFits (of_consumer f c)
consumer_fits_lem f None h e = tt
consumer_fits_lem f (Some a) h e = one_fits (f a) (h a e)

ports_below : (n p m : ℕ) → EachBelow (p + n) (ports_from n p m)
ports_below zero p m = tt
ports_below (suc n) p m = tested (eqb (m % 2) 1) (ports_below n (suc p) (m / 2))
  where
    tested : (t : Bool) → EachBelow (suc p + n) (ports_from n (suc p) (m / 2))
        → EachBelow (p + suc n) (cond t (p ∷ ports_from n (suc p) (m / 2)) (ports_from n (suc p) (m / 2)))
    tested true h = (omega arith, each_below (suc p + n) (p + suc n) (ports_from n (suc p) (m / 2)) (omega arith) h)
    tested false h = each_below (suc p + n) (p + suc n) (ports_from n (suc p) (m / 2)) (omega arith) h

ports_fit : (l : List ℕ) → EachBelow 16 l → length l ≤ 4 → FigureFits (ports l)
ports_fit [] e h = tt
ports_fit (p ∷ l) e h =
    (each_below 16 (10 ^ 20) (p ∷ l) (omega arith) e, omega (arith, commas_length (p ∷ l) (each_below 16 100 (p ∷ l) (omega arith) e)))

set_fits : (t : Providers) → leb (len t) max_connected_providers ≡ true → FigureFits (ports (ports_bytes t.mask))
unfolding ports_bytes
set_fits t h =
    let e : length (ports_from 16 0 t.mask) ≤ 4 = rw (count_ports 16 0 t.mask) (leb-true (len t) max_connected_providers h) in
    ports_fit (ports_from 16 0 t.mask) (ports_below 16 0 t.mask) e

-- all six

six_fit : (a b c d e f : Figure) → FigureFits a → FigureFits b → FigureFits c → FigureFits d → FigureFits e → FigureFits f → AllFit (entries a b c d e f)
unfolding left
six_fit a b c d e f ha hb hc hd he hf =
    (record { name = refl; figure = ha }, (record { name = refl; figure = hb }, (record { name = refl; figure = hc }, (record { name = refl; figure = hd }, (record { name = refl; figure = he }, (record { name = refl; figure = hf }, tt))))))

module _ (s : State) (n : ℕ) (d : Display) (h : picture_fits (record { number = n; display = d }) ≡ true) where
  number_below : n < 10 ^ 10
  unfolding picture_fits
  number_below = omega (arith, leb-true n largest (and_parts (leb n largest) _ h).0)

  display_fits : consumer_fits d.consumer && (leb d.unconstrained.available max_ports && (ltb d.providers.mask 65536 && leb (len d.providers) max_connected_providers)) ≡ true
  unfolding picture_fits
  display_fits = (and_parts (leb n largest) _ h).1

  few : leb (len d.providers) max_connected_providers ≡ true
  few = (and_parts (ltb d.providers.mask 65536) _ (and_parts (leb d.unconstrained.available max_ports) _ (and_parts (consumer_fits d.consumer) _ display_fits).1).1).1

  of_consumer_lem : (f : AvailableConsumer → ℕ) → ((a : AvailableConsumer) → consumer_fits (Some a) ≡ true → f a < 10 ^ 10)
      → FigureFits (of_consumer f d.consumer)
  of_consumer_lem f h = consumer_fits_lem f d.consumer h (and_parts (consumer_fits d.consumer) _ display_fits).0

  tracked_fit : FigureFits (ports (ports_bytes d.providers.mask))
  tracked_fit = set_fits d.providers few

  shown_fit : AllFit (shown_entries s n d)
  shown_fit =
      six_fit (one n) (state s)
      (of_consumer (λ c. c.psu) d.consumer)
      (of_consumer millivolts d.consumer)
      (of_consumer milliamps d.consumer)
      (ports (ports_bytes d.providers.mask))
      (one_fits n number_below) tt
      (of_consumer_lem (λ c. c.psu) (λ a e. omega (arith, leb-true a.psu 15 (and_parts (leb a.psu 15) _ e).0)))
      (of_consumer_lem millivolts (λ a e. omega (arith, leb-true (millivolts a) 65535 (and_parts (leb (millivolts a) 65535) (leb (milliamps a) 65535) (and_parts (leb a.psu 15) _ e).1).0)))
      (of_consumer_lem milliamps (λ a e. omega (arith, leb-true (milliamps a) 65535 (and_parts (leb (millivolts a) 65535) (leb (milliamps a) 65535) (and_parts (leb a.psu 15) _ e).1).1)))
      tracked_fit

-- a page has its length, and is read as what it says

pub lost_length : length (lines lost_entries) ≡ page_length
lost_length = lines_length lost_entries

pub shown_length : (s : State) (n : ℕ) (d : Display) → length (lines (shown_entries s n d)) ≡ page_length
shown_length s n d = lines_length (shown_entries s n d)

pub lost_read : read_page (lines lost_entries) ≡ lost_entries
unfolding read_page
lost_read = lines_read lost_entries (six_fit absent (state State.Lost) absent absent absent absent tt tt tt tt tt tt)

pub shown_read_lem : (s : State) (n : ℕ) (d : Display) → picture_fits (record { number = n; display = d }) ≡ true → read_page (lines (shown_entries s n d)) ≡ shown_entries s n d
unfolding read_page
shown_read_lem s n d h = lines_read (shown_entries s n d) (shown_fit s n d h)

pub page_length_lem : (p : desk.Follower) → length (page_of p) ≡ page_length
page_length_lem (desk.lost floor) = lost_length
page_length_lem (desk.showing n d held) = shown_length (desk.state (desk.showing n d held)) n d

pub page_read : (p : desk.Follower) → Fits p → read_page (page_of p) ≡ entries_of p
page_read (desk.lost floor) h = lost_read
page_read (desk.showing n d held) h = shown_read_lem (desk.state (desk.showing n d held)) n d h
