-- A slot has one encoding: zeros for none, else the packet's fields and its four notices in order.
-- Assumes nothing.
use Rattle.std.specs.Prelude.{None, Option, Some}
use mathlib.Core.Path.{◌≡◌, refl, ap, sym, subst, ◌∙◌}
use mathlib.Core.Bool.{Bool, true, false, cond, ◌&&◌}
use mathlib.Core.List.{List, [], ◌∷◌, ◌++◌}
use mathlib.Core.Logic.{◌⊎◌, inl, inr}
use Prim.Native.Nat.{ℕ, zero, suc, ◌≤◌, ◌<◌}
use native.Mathlib.Omega.{arith}
use lib.Dec.{eqb, leb, ltb}
use lib.ListN.{length, get_or, replicate}
use borrow.Author.Tests.{eqb-true, leb-true, ltb-true, lt-ltb, ne_eqb}
use Rattle.power_policy_interface.specs.Limits.{largest}
use Rattle.power_policy_interface.specs.declared.service.event.Event.{Event}
use Rattle.interface_records.specs.Group.{empty_group}
use Rattle.interface_records.specs.Row.{AllBytes}
use Rattle.interface_display.specs.Notices.{filler, listed, padded}
use Rattle.interface_display.specs.declared.notices.Notices.{Notices}
use Rattle.interface_display.specs.declared.packet.EventPacket.{EventPacket}
use Rattle.interface_display.proofs.Four.{padded_rebuilt, rebuilt, counted, at_most_four}
use Rattle.wire.specs.WellFormed.{notice_fits, notices_fit, event_fits}
use Rattle.desk_follower.specs.Held.{none}
use Rattle.bytes_groups.specs.Tagged.{tagged_at, tagged_bytes}
use Rattle.bytes_groups.specs.declared.tagged.Tagged.{Tagged}
use Rattle.bytes_groups.proofs.Places as places
use Rattle.bytes_groups.proofs.Places.{Below}
use Rattle.interface_records.proofs.OneRecord.{gets, gets_all}
use Rattle.bytes_groups.proofs.Consumers.{TaggedBytes, tagged_at_lem, tagged_bytes_lem, empty_bytes}
use Rattle.bytes_follower_image.specs.Notice.{place_tagged, place_from}
use Rattle.bytes_follower_image.specs.Slot.{notices_bytes, packet_bytes, slot_bytes, notices_of, notices_from, packet_of, head_fits, packet_from, zeros, slot_cases, slot_from}
use Rattle.bytes_follower_image.proofs.Notices.{read_back, notices_back, place_read, Formed, formed, notice_bytes_lem}
use Rattle.std.proofs.lemmas.Bool.{and_parts}

-- the parts of a packet that fits
pub record Parts (p : EventPacket) : Type 0 where
  pub positive : 0 < p.number
  pub number : leb p.number largest ≡ true
  pub answer : leb p.answer 10 ≡ true
  pub orders : leb p.orders 35 ≡ true
  pub form : padded p.notices ≡ true
  pub fits : notices_fit (listed p.notices) ≡ true

pub parts : (p : EventPacket) → event_fits p ≡ true → Parts p
unfolding event_fits
parts p h =
    let f4 = padded p.notices && notices_fit (listed p.notices) in
    let f3 = leb p.orders 35 && f4 in
    let f2 = leb p.answer 10 && f3 in
    let f1 = leb p.number largest && f2 in
    let h1 = (and_parts (ltb 0 p.number) f1 h).1 in
    let h2 = (and_parts (leb p.number largest) f2 h1).1 in
    let h3 = (and_parts (leb p.answer 10) f3 h2).1 in
    let h4 = (and_parts (leb p.orders 35) f4 h3).1 in
    record {
      positive = ltb-true 0 p.number (and_parts (ltb 0 p.number) f1 h).0;
      number = (and_parts (leb p.number largest) f2 h1).0;
      answer = (and_parts (leb p.answer 10) f3 h2).0;
      orders = (and_parts (leb p.orders 35) f4 h3).0;
      form = (and_parts (padded p.notices) (notices_fit (listed p.notices)) h4).0;
      fits = (and_parts (padded p.notices) (notices_fit (listed p.notices)) h4).1;
    }

pub whole : (p : EventPacket) → Parts p → event_fits p ≡ true
unfolding event_fits
whole p h = rw (lt-ltb 0 p.number h.positive, h.number, h.answer, h.orders, h.form, h.fits)

-- none, or the packet of event m within what a packet has
pub record Told (m : ℕ) (p : EventPacket) : Type 0 where
  pub told : (p ≡ none) ⊎ ((p.number ≡ m) × (event_fits p ≡ true))

-- every slot has 32 bytes

length_tested : (p : EventPacket) (b : Bool) → length (cond b (replicate 32 0) (packet_bytes p)) ≡ 32
length_tested p true = refl
length_tested p false = refl

pub slot_length : (p : EventPacket) → length (slot_bytes p) ≡ 32
slot_length p = length_tested p (eqb p.number 0)

-- the bytes of j places from place k on
abbrev pub places_left : Notices → ℕ → ℕ → List ℕ
places_left n k zero = []
places_left n k (suc j) = tagged_bytes (place_tagged n.count k (get_or n.events k filler)) ++ places_left n (suc k) j

-- reading what was written

packet_back : (m : ℕ) (p : EventPacket) → p.number ≡ m → event_fits p ≡ true → packet_from m (packet_bytes p) ≡ Some p
packet_back m p e h =
    let k = parts p h in
    let c = (and_parts (leb p.notices.count 4) _ k.form).0 in
    let n : leb m largest ≡ true = ap (λ (x : ℕ). leb x largest) (sym e) ∙ k.number in
    let r : read_back p.notices ≡ Some p.notices = notices_back p.notices k.form k.fits in
    let f : head_fits m p.answer p.orders p.notices.count ≡ true = rw (n, k.answer, k.orders, c) in
    let q : packet_of m p.answer p.orders (read_back p.notices) ≡ Some p =
    ap (packet_of m p.answer p.orders) r
    ∙ ap (λ (x : ℕ). Some (record { number = x; answer = p.answer; orders = p.orders; notices = p.notices })) (sym e) in
    ap (λ (b : Bool). cond b (packet_of m p.answer p.orders (read_back p.notices)) None) f ∙ q

pub slot_back : (m : ℕ) (p : EventPacket) → Told m p → slot_from m (slot_bytes p) ≡ Some p
unfolding zeros
slot_back m p t = by t.told
  where
    by : (p ≡ none) ⊎ ((p.number ≡ m) × (event_fits p ≡ true)) → slot_from m (slot_bytes p) ≡ Some p
    by (inl e) = subst (λ (x : EventPacket). slot_from m (slot_bytes x) ≡ Some x) (sym e) refl
    by (inr q) =
        let k = parts p q.1 in
        let l : p.number ≡ 0 → ⊥ = λ z. omega (arith, z, k.positive) in
        rw (ne_eqb p.number 0 l) (packet_back m p q.0 q.1)

-- what was read was written so

pub zeros_written : (s : List ℕ) → zeros s ≡ true → s ≡ replicate (length s) 0
unfolding zeros
zeros_written [] e = refl
zeros_written (b ∷ s) e =
    let x = eqb-true b 0 (and_parts (eqb b 0) (zeros s) e).0 in
    let y = zeros_written s (and_parts (eqb b 0) (zeros s) e).1 in
    λ i. x i ∷ y i

-- four tagged groups, read as notices
record Read (count : ℕ) (a b c d : Tagged) (n : Notices) : Type 0 where
  meant : n.count ≡ count
  bytes : tagged_bytes a ++ (tagged_bytes b ++ (tagged_bytes c ++ tagged_bytes d)) ≡ notices_bytes n
  formed : Formed n

notices_read_lem : (count : ℕ) (a b c d : Tagged) (n : Notices) (x y z w : Option Event) → count ≤ 4 → TaggedBytes a → TaggedBytes b → TaggedBytes c
    → TaggedBytes d → place_from count 0 a ≡ x → place_from count 1 b ≡ y → place_from count 2 c ≡ z → place_from count 3 d ≡ w
    → notices_of count x y z w ≡ Some n → Read count a b c d n
notices_read_lem count a b c d n None y z w l ha hb hc hd p q r s e = absurd (cc)
notices_read_lem count a b c d n (Some u) None z w l ha hb hc hd p q r s e =
    absurd (cc)
notices_read_lem count a b c d n (Some u) (Some v) None w l ha hb hc hd p q r s e =
    absurd (cc)
notices_read_lem count a b c d n (Some u) (Some v) (Some x) None l ha hb hc hd p q r s e =
    absurd (cc)
notices_read_lem count a b c d n (Some u) (Some v) (Some x) (Some y) l ha hb hc hd p q r s e =
    let k : record { count = count; events = u ∷ v ∷ x ∷ y ∷ [] } ≡ n = cc in
    let pa = place_read count 0 a u ha p in
    let pb = place_read count 1 b v hb q in
    let pc = place_read count 2 c x hc r in
    let pd = place_read count 3 d y hd s in
    let ea = pa.written in
    let eb = pb.written in
    let ec = pc.written in
    let ed = pd.written in
    subst (λ (m : Notices). Read count a b c d m) k
    (record {
      meant = refl;
      bytes = λ i. tagged_bytes (ea i) ++ (tagged_bytes (eb i) ++ (tagged_bytes (ec i) ++ tagged_bytes (ed i)));
      formed = formed count a b c d u v x y l pa pb pc pd;
    })

-- the slot's bytes, and what they tell
pub record Slotted (m : ℕ) (s : List ℕ) (p : EventPacket) : Type 0 where
  pub bytes : s ≡ slot_bytes p
  pub told : Told m p

packet_made : (m : ℕ) (s : List ℕ) (p : EventPacket) (n : Notices) → 0 < m → length s ≡ 32 → get_or s 0 0 ≡ 1
    → head_fits m (get_or s 1 0) (get_or s 2 0) (get_or s 3 0) ≡ true
    → Read (get_or s 3 0) (tagged_at s 4) (tagged_at s 11) (tagged_at s 18) (tagged_at s 25) n
    → record { number = m; answer = get_or s 1 0; orders = get_or s 2 0; notices = n } ≡ p → Slotted m s p
packet_made m s p n l e one f r k =
    let f1 = (and_parts (leb m largest) (leb (get_or s 1 0) 10 && (leb (get_or s 2 0) 35 && leb (get_or s 3 0) 4)) f).1 in
    let f2 = (and_parts (leb (get_or s 1 0) 10) (leb (get_or s 2 0) 35 && leb (get_or s 3 0) 4) f1).1 in
    let x : EventPacket = record { number = m; answer = get_or s 1 0; orders = get_or s 2 0; notices = n } in
    let w : event_fits x ≡ true =
    whole x
    (record {
      positive = l;
      number = (and_parts (leb m largest) _ f).0;
      answer = (and_parts (leb (get_or s 1 0) 10) _ f1).0;
      orders = (and_parts (leb (get_or s 2 0) 35) _ f2).0;
      form = r.formed.form;
      fits = r.formed.fits;
    }) in
    let c = sym r.meant in
    let b = r.bytes in
    let g : gets s 0 32 ≡ packet_bytes x = λ i. one i ∷ get_or s 1 0 ∷ get_or s 2 0 ∷ c i ∷ b i in
    let z : m ≡ 0 → ⊥ = λ y. omega (arith, y, l) in
    let v : packet_bytes x ≡ slot_bytes x = rw (ne_eqb m 0 z) in
    subst (λ (y : EventPacket). Slotted m s y) k
    (record { bytes = sym (gets_all s 32 e) ∙ (g ∙ v); told = record { told = inr (refl, w) } })

packet_told : (m : ℕ) (s : List ℕ) (p : EventPacket) (r : Option Notices) → notices_from (get_or s 3 0) s ≡ r → 0 < m → AllBytes s → length s ≡ 32
    → get_or s 0 0 ≡ 1 → head_fits m (get_or s 1 0) (get_or s 2 0) (get_or s 3 0) ≡ true
    → packet_of m (get_or s 1 0) (get_or s 2 0) r ≡ Some p → Slotted m s p
packet_told m s p None q l h e one f k = absurd (cc)
packet_told m s p (Some n) q l h e one f k =
    let f1 = (and_parts (leb m largest) (leb (get_or s 1 0) 10 && (leb (get_or s 2 0) 35 && leb (get_or s 3 0) 4)) f).1 in
    let f2 = (and_parts (leb (get_or s 1 0) 10) (leb (get_or s 2 0) 35 && leb (get_or s 3 0) 4) f1).1 in
    let c = leb-true (get_or s 3 0) 4 (and_parts (leb (get_or s 2 0) 35) (leb (get_or s 3 0) 4) f2).1 in
    let j : record { number = m; answer = get_or s 1 0; orders = get_or s 2 0; notices = n } ≡ p = cc in
    packet_made m s p n l e one f
    (notices_read_lem (get_or s 3 0) (tagged_at s 4) (tagged_at s 11) (tagged_at s 18) (tagged_at s 25) n (place_from (get_or s 3 0) 0 (tagged_at s 4))
    (place_from (get_or s 3 0) 1 (tagged_at s 11)) (place_from (get_or s 3 0) 2 (tagged_at s 18)) (place_from (get_or s 3 0) 3 (tagged_at s 25)) c
    (tagged_at_lem s 4 h) (tagged_at_lem s 11 h) (tagged_at_lem s 18 h) (tagged_at_lem s 25 h) refl refl refl refl q)
    j

packet_tested : (m : ℕ) (s : List ℕ) (p : EventPacket) (b : Bool) → head_fits m (get_or s 1 0) (get_or s 2 0) (get_or s 3 0) ≡ b → 0 < m → AllBytes s
    → length s ≡ 32 → get_or s 0 0 ≡ 1
    → cond b (packet_of m (get_or s 1 0) (get_or s 2 0) (notices_from (get_or s 3 0) s)) None ≡ Some p → Slotted m s p
packet_tested m s p true f l h e one k = packet_told m s p (notices_from (get_or s 3 0) s) refl l h e one f k
packet_tested m s p false f l h e one k = absurd (cc)

none_tested : (m : ℕ) (s : List ℕ) (p : EventPacket) (b : Bool) → zeros s ≡ b → length s ≡ 32
    → cond b (Some none) None ≡ Some p → Slotted m s p
none_tested m s p true z e k =
    let j : none ≡ p = cc in
    let w : s ≡ slot_bytes none = zeros_written s z ∙ ap (λ (n : ℕ). replicate n 0) e in
    subst (λ (x : EventPacket). Slotted m s x) j (record { bytes = w; told = record { told = inl refl } })
none_tested m s p false z e k = absurd (cc)

slot_at : (n m : ℕ) (s : List ℕ) (p : EventPacket) → get_or s 0 0 ≡ n → 0 < m → AllBytes s → length s ≡ 32
    → get_or (slot_cases m s) n None ≡ Some p → Slotted m s p
slot_at zero m s p i l h e k = none_tested m s p (zeros s) refl e k
slot_at (suc zero) m s p i l h e k =
    packet_tested m s p (head_fits m (get_or s 1 0) (get_or s 2 0) (get_or s 3 0)) refl l h e i k
slot_at (suc (suc n)) m s p i l h e k = absurd (cc)

pub slot_read : (m : ℕ) (s : List ℕ) (p : EventPacket) → 0 < m → AllBytes s → length s ≡ 32 → slot_from m s ≡ Some p → Slotted m s p
slot_read m s p l h e k = slot_at (get_or s 0 0) m s p refl l h e k

-- the bytes of a slot are bytes

pub zero_bytes : (n : ℕ) → Below (replicate n 0)
zero_bytes zero = places.none
zero_bytes (suc n) = places.one (omega arith) (zero_bytes n)

blank : TaggedBytes (record { tag = 0; group = empty_group 0 })
blank = record { tag = omega arith; group = empty_bytes 0 (omega arith) }

four_bytes_lem : (a b c d : Tagged) → TaggedBytes a → TaggedBytes b → TaggedBytes c → TaggedBytes d
    → Below (tagged_bytes a ++ (tagged_bytes b ++ (tagged_bytes c ++ tagged_bytes d)))
four_bytes_lem a b c d ha hb hc hd =
    places.both (tagged_bytes_lem a ha) (places.both (tagged_bytes_lem b hb) (places.both (tagged_bytes_lem c hc) (tagged_bytes_lem d hd)))

list_bytes : (l : List Event) → length l ≤ 4 → notices_fit l ≡ true → Below (notices_bytes (rebuilt l))
list_bytes [] k h = four_bytes_lem _ _ _ _ blank blank blank blank
list_bytes (a ∷ []) k h =
    let x = notice_bytes_lem a (and_parts (notice_fits a) _ h).0 in
    four_bytes_lem _ _ _ _ x blank blank blank
list_bytes (a ∷ b ∷ []) k h =
    let h1 = (and_parts (notice_fits a) (notices_fit (b ∷ [])) h).1 in
    let x = notice_bytes_lem a (and_parts (notice_fits a) _ h).0 in
    let y = notice_bytes_lem b (and_parts (notice_fits b) _ h1).0 in
    four_bytes_lem _ _ _ _ x y blank blank
list_bytes (a ∷ b ∷ c ∷ []) k h =
    let h1 = (and_parts (notice_fits a) (notices_fit (b ∷ c ∷ [])) h).1 in
    let h2 = (and_parts (notice_fits b) (notices_fit (c ∷ [])) h1).1 in
    let x = notice_bytes_lem a (and_parts (notice_fits a) _ h).0 in
    let y = notice_bytes_lem b (and_parts (notice_fits b) _ h1).0 in
    let z = notice_bytes_lem c (and_parts (notice_fits c) _ h2).0 in
    four_bytes_lem _ _ _ _ x y z blank
list_bytes (a ∷ b ∷ c ∷ d ∷ []) k h =
    let h1 = (and_parts (notice_fits a) (notices_fit (b ∷ c ∷ d ∷ [])) h).1 in
    let h2 = (and_parts (notice_fits b) (notices_fit (c ∷ d ∷ [])) h1).1 in
    let h3 = (and_parts (notice_fits c) (notices_fit (d ∷ [])) h2).1 in
    let x = notice_bytes_lem a (and_parts (notice_fits a) _ h).0 in
    let y = notice_bytes_lem b (and_parts (notice_fits b) _ h1).0 in
    let z = notice_bytes_lem c (and_parts (notice_fits c) _ h2).0 in
    let w = notice_bytes_lem d (and_parts (notice_fits d) _ h3).0 in
    four_bytes_lem _ _ _ _ x y z w
list_bytes (a ∷ b ∷ c ∷ d ∷ e ∷ l) k h = absurd (omega arith)

packet_below : (p : EventPacket) → Parts p → Below (packet_bytes p)
packet_below p k =
    let b : Below (notices_bytes p.notices) =
    subst (λ (n : Notices). Below (notices_bytes n)) (padded_rebuilt p.notices k.form) (list_bytes (listed p.notices) (at_most_four p.notices (counted p.notices k.form).1.0) k.fits) in
    let c = leb-true p.notices.count 4 (and_parts (leb p.notices.count 4) _ k.form).0 in
    places.one (omega arith)
    (places.one (omega (arith, leb-true p.answer 10 k.answer))
    (places.one (omega (arith, leb-true p.orders 35 k.orders)) (places.one (omega (arith, c)) b)))

pub slot_below : (m : ℕ) (p : EventPacket) → Told m p → Below (slot_bytes p)
slot_below m p t = by t.told
  where
    by : (p ≡ none) ⊎ ((p.number ≡ m) × (event_fits p ≡ true)) → Below (slot_bytes p)
    by (inl e) = subst (λ (x : EventPacket). Below (slot_bytes x)) (sym e) (zero_bytes 32)
    by (inr q) =
        let k = parts p q.1 in
        let l : p.number ≡ 0 → ⊥ = λ z. omega (arith, z, k.positive) in
        rw (ne_eqb p.number 0 l) (packet_below p k)
