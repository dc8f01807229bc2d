-- Four places: at most four notices are meant, whatever the count; a notice pushed comes last; and well-formed notices are those of their list.
-- Assumes nothing.
use Rattle.std.specs.Prelude.{None, Some}
use mathlib.Core.Path.{◌≡◌, refl, ap, sym, ◌∙◌}
use mathlib.Core.Bool.{true}
use Prim.Native.Nat.{ℕ, zero, suc, ◌+◌, ◌≤◌, ◌<◌}
use native.Mathlib.Numerals.{add-one}
use native.Mathlib.Omega.{arith}
use mathlib.Core.List.{List, [], ◌∷◌, ◌++◌}
use lib.Dec.{eqb, leb}
use lib.ListN.{take, drop, set, get_or, length, length-take}
use Rattle.std.proofs.lemmas.List.{take_more}
use borrow.Author.Tests.{eqb-true, leb-true, lt-ltb}
use Rattle.power_policy_interface.proofs.OneByte.{reason_read_write}
use Rattle.std.proofs.lemmas.Bool.{and_parts}
use Rattle.power_policy_interface.specs.Capability.{disconnect_byte, disconnect_from}
use Rattle.power_policy_interface.specs.declared.capability.DisconnectFlags.{DisconnectFlags}
use Rattle.power_policy_interface.specs.declared.service.event.Event.{Event}
use Rattle.interface_display.specs.declared.Display.{Display}
use Rattle.interface_display.specs.declared.notices.Notices.{Notices}
use Rattle.interface_display.specs.Display.{applied_to}
use Rattle.interface_display.specs.Notices.{listed, filler, empty, pushed, applied_all, is_filler, all_filler, padded}

-- of any count

pub counted : (n : Notices) → padded n ≡ true → (n.count ≤ 4) × ((length n.events ≡ 4) × (all_filler (drop n.count n.events) ≡ true))
counted n h =
    let a = and_parts (leb n.count 4) _ h in
    let b = and_parts (eqb (length n.events) 4) _ a.1 in
    (leb-true n.count 4 a.0, (eqb-true (length n.events) 4 b.0, b.1))

pub at_most_four : (n : Notices) → length n.events ≡ 4 → length (listed n) ≤ 4
at_most_four n h = omega (arith, h, length-take n.count n.events)

-- one notice more

pub applied_last : (l : List Event) (e : Event) (d : Display) → applied_all (l ++ (e ∷ [])) d ≡ applied_to (applied_all l d) e
applied_last [] e d = refl
applied_last (a ∷ l) e d = applied_last l e (applied_to d a)

pub applied_next : (l : List Event) (i : ℕ) (z : Event) (d : Display) → i < length l
    → applied_all (take (i + 1) l) d ≡ applied_to (applied_all (take i l) d) (get_or l i z)
applied_next l i z d h = ap (λ (k : List Event). applied_all k d) (take_more l i z h) ∙ applied_last (take i l) (get_or l i z) d

pub set_next : (l : List Event) (k : ℕ) (e : Event) → k < length l → set l k e ≡ take k l ++ (e ∷ drop (k + 1) l)
set_next [] k e h = absurd (omega (arith, h))
set_next (a ∷ l) zero e h = refl
set_next (a ∷ l) (suc k) e h = rw add-one (ap (λ (m : List Event). a ∷ m) (rw add-one at (set_next l k e (omega (arith, h)))))

last_at : (k : ℕ) (l : List Event) (e : Event) → take (suc k) (take k l ++ (e ∷ drop (suc k) l)) ≡ take k l ++ (e ∷ [])
last_at zero l e = refl
last_at (suc k) [] e = refl
last_at (suc k) (a ∷ l) e = ap (λ (m : List Event). a ∷ m) (last_at k l e)

pub pushed_last : (n : Notices) (e : Event) → n.count < 4 → listed (pushed n e) ≡ listed n ++ (e ∷ [])
pushed_last n e h = rw (lt-ltb n.count 4 h, add-one) (last_at n.count n.events e)

-- the well-formed notices of a list

no_reason_lem : (f : DisconnectFlags) → disconnect_byte f ≡ 0 → f ≡ record { reason = None }
no_reason_lem f h =
    let e : disconnect_from 0 ≡ Some f = ap disconnect_from (sym h) ∙ reason_read_write f in
    cc

is_filler_lem : (e : Event) → is_filler e ≡ true → e ≡ filler
is_filler_lem (Event.ConsumerDisconnected p f) h =
    let a = and_parts (eqb p 0) (eqb (disconnect_byte f) 0) h in
    let x : p ≡ 0 = eqb-true p 0 a.0 in
    let y = no_reason_lem f (eqb-true (disconnect_byte f) 0 a.1) in
    λ i. Event.ConsumerDisconnected (x i) (y i)
is_filler_lem (Event.ConsumerConnected p c) h = absurd (cc)
is_filler_lem (Event.ProviderDisconnected p) h = absurd (cc)
is_filler_lem (Event.ProviderConnected p c) h = absurd (cc)
is_filler_lem (Event.Unconstrained u) h = absurd (cc)

head_filler : (e : Event) (l : List Event) → all_filler (e ∷ l) ≡ true → filler ≡ e
head_filler e l h = sym (is_filler_lem e (and_parts (is_filler e) (all_filler l) h).0)

tail_filler : (e : Event) (l : List Event) → all_filler (e ∷ l) ≡ true → all_filler l ≡ true
tail_filler e l h = (and_parts (is_filler e) (all_filler l) h).1

abbrev pub rebuilt : List Event → Notices
rebuilt [] = empty
rebuilt (a ∷ []) = record { count = 1; events = a ∷ filler ∷ filler ∷ filler ∷ [] }
rebuilt (a ∷ b ∷ []) = record { count = 2; events = a ∷ b ∷ filler ∷ filler ∷ [] }
rebuilt (a ∷ b ∷ c ∷ []) = record { count = 3; events = a ∷ b ∷ c ∷ filler ∷ [] }
rebuilt (a ∷ b ∷ c ∷ d ∷ l) = record { count = 4; events = a ∷ b ∷ c ∷ d ∷ [] }

rebuilt_at : (k : ℕ) (a b c d : Event) → padded (record { count = k; events = a ∷ b ∷ c ∷ d ∷ [] }) ≡ true
    → rebuilt (take k (a ∷ b ∷ c ∷ d ∷ [])) ≡ record { count = k; events = a ∷ b ∷ c ∷ d ∷ [] }
rebuilt_at zero a b c d h =
    let p = (counted (record { count = 0; events = a ∷ b ∷ c ∷ d ∷ [] }) h).1.1 in
    let q = tail_filler a (b ∷ c ∷ d ∷ []) p in
    let r = tail_filler b (c ∷ d ∷ []) q in
    let s = tail_filler c (d ∷ []) r in
    let x = head_filler a (b ∷ c ∷ d ∷ []) p in
    let y = head_filler b (c ∷ d ∷ []) q in
    let z = head_filler c (d ∷ []) r in
    let w = head_filler d [] s in
    λ i. record { count = 0; events = x i ∷ y i ∷ z i ∷ w i ∷ [] }
rebuilt_at (suc zero) a b c d h =
    let q = (counted (record { count = 1; events = a ∷ b ∷ c ∷ d ∷ [] }) h).1.1 in
    let r = tail_filler b (c ∷ d ∷ []) q in
    let s = tail_filler c (d ∷ []) r in
    let y = head_filler b (c ∷ d ∷ []) q in
    let z = head_filler c (d ∷ []) r in
    let w = head_filler d [] s in
    λ i. record { count = 1; events = a ∷ y i ∷ z i ∷ w i ∷ [] }
rebuilt_at (suc (suc zero)) a b c d h =
    let r = (counted (record { count = 2; events = a ∷ b ∷ c ∷ d ∷ [] }) h).1.1 in
    let s = tail_filler c (d ∷ []) r in
    let z = head_filler c (d ∷ []) r in
    let w = head_filler d [] s in
    λ i. record { count = 2; events = a ∷ b ∷ z i ∷ w i ∷ [] }
rebuilt_at (suc (suc (suc zero))) a b c d h =
    let s = (counted (record { count = 3; events = a ∷ b ∷ c ∷ d ∷ [] }) h).1.1 in
    let w = head_filler d [] s in
    λ i. record { count = 3; events = a ∷ b ∷ c ∷ w i ∷ [] }
rebuilt_at (suc (suc (suc (suc zero)))) a b c d h = refl
rebuilt_at (suc (suc (suc (suc (suc k))))) a b c d h =
    absurd (omega (arith, (counted (record { count = suc (suc (suc (suc (suc k)))); events = a ∷ b ∷ c ∷ d ∷ [] }) h).0))

long : (k : ℕ) (l : List Event) → padded (record { count = k; events = l }) ≡ true → length l ≡ 4
long k l h = (counted (record { count = k; events = l }) h).1.0

rebuilt_of : (k : ℕ) (l : List Event) → padded (record { count = k; events = l }) ≡ true → rebuilt (take k l) ≡ record { count = k; events = l }
rebuilt_of k [] h = absurd (omega (arith, long k [] h))
rebuilt_of k (a ∷ []) h = absurd (omega (arith, long k (a ∷ []) h))
rebuilt_of k (a ∷ b ∷ []) h = absurd (omega (arith, long k (a ∷ b ∷ []) h))
rebuilt_of k (a ∷ b ∷ c ∷ []) h = absurd (omega (arith, long k (a ∷ b ∷ c ∷ []) h))
rebuilt_of k (a ∷ b ∷ c ∷ d ∷ []) h = rebuilt_at k a b c d h
rebuilt_of k (a ∷ b ∷ c ∷ d ∷ e ∷ l) h = absurd (omega (arith, long k (a ∷ b ∷ c ∷ d ∷ e ∷ l) h))

pub padded_rebuilt : (n : Notices) → padded n ≡ true → rebuilt (listed n) ≡ n
padded_rebuilt n h = rebuilt_of n.count n.events h

pub rebuilt_padded : (l : List Event) → padded (rebuilt l) ≡ true
rebuilt_padded [] = refl
rebuilt_padded (a ∷ []) = refl
rebuilt_padded (a ∷ b ∷ []) = refl
rebuilt_padded (a ∷ b ∷ c ∷ []) = refl
rebuilt_padded (a ∷ b ∷ c ∷ d ∷ l) = refl

pub rebuilt_listed : (l : List Event) → length l ≤ 4 → listed (rebuilt l) ≡ l
rebuilt_listed [] h = refl
rebuilt_listed (a ∷ []) h = refl
rebuilt_listed (a ∷ b ∷ []) h = refl
rebuilt_listed (a ∷ b ∷ c ∷ []) h = refl
rebuilt_listed (a ∷ b ∷ c ∷ d ∷ []) h = refl
rebuilt_listed (a ∷ b ∷ c ∷ d ∷ e ∷ l) h = absurd (omega arith)

-- one value for each list
pub one_value : (n m : Notices) → padded n ≡ true → padded m ≡ true → listed n ≡ listed m → n ≡ m
one_value n m p q e = sym (padded_rebuilt n p) ∙ (ap rebuilt e ∙ padded_rebuilt m q)
