-- A packet has one encoding: a well-formed packet is read back from its bytes, nothing left over; and bytes that are read are those of a
-- well-formed packet, the one that was read.
-- Assumes nothing.
use Rattle.std.specs.Prelude.{None, Ok, Option, Some}
use mathlib.Core.Path.{◌≡◌, refl, ap, sym, ◌∙◌}
use mathlib.Core.Bool.{Bool, true, false, ◌&&◌}
use mathlib.Core.List.{List, [], ◌∷◌, ◌++◌, append_assoc, append-nil}
use Prim.Native.Nat.{ℕ, zero, suc, ◌+◌, ◌*◌, ◌/◌, ◌%◌, ◌^◌, ◌≤◌, ◌<◌}
use native.Mathlib.Nat.{add-zero, mul-zero, two-pow-succ}
use native.Mathlib.Omega.{arith}
use lib.Dec.{eqb, leb, ltb}
use lib.ListN.{length}
use borrow.Author.Tests.{le-leb, leb-true, lt-ltb, eq-eqb, ne_eqb, eqb-true, eqb-false}
use Rattle.power_policy_interface.specs.declared.service.UnconstrainedState.{UnconstrainedState}
use Rattle.power_policy_interface.specs.declared.service.event.Event.{Event}
use Rattle.std.proofs.lemmas.Bool.{and_parts}
use Rattle.interface_display.proofs.Four.{rebuilt, rebuilt_padded, rebuilt_listed}
use Rattle.interface_display.specs.Notices.{empty, pushed, listed, length_of, padded}
use Rattle.interface_display.specs.Providers.{ones, len}
use Rattle.interface_display.specs.declared.AvailableConsumer.{AvailableConsumer}
use Rattle.interface_display.specs.declared.notices.Notices.{Notices}
use Rattle.interface_display.specs.declared.packet.Packet.{Packet}
use Rattle.interface_display.specs.declared.providers.Providers.{Providers}
use Rattle.wire.specs.Number.{leb128}
use Rattle.wire.specs.Parser.{Parsed, refused, parsed, byte, end, field, number}
use Rattle.wire.specs.Packet.{notice, notices, ports, consumer, consumer_given, unconstrained, event_notices, event_after, event, picture_after, picture, packet_of, packet}
use Rattle.wire.specs.Bytes.{notice_bytes, all_bytes, unconstrained_bytes, ports_from, ports_bytes, consumer_bytes, event_bytes, picture_bytes, packet_bytes}
use Rattle.wire.specs.Read.{packet_read, read_packet}
use Rattle.wire.specs.WellFormed.{notices_fit, consumer_fits, event_fits, picture_fits, well_formed}
use Rattle.wire.proofs.OneNumber.{AllBytes}
use Rattle.wire.proofs.ReadWrite.{appended, appended_rebuilt, event_read_write}
use Rattle.wire.proofs.Tracked.{add_all, odd, even, count_ports, picture_read_write}
use Rattle.wire.proofs.WriteRead.{then_told, rest_bytes, byte_told, holds_told, field_told, number_told, consumer_told, unconstrained_told, notice_told}

-- so many notices

record Notes (k : ℕ) (n : Notices) (s : List ℕ) (l : Notices) (r : List ℕ) : Type 0 where
  events : List Event
  count : length events ≡ k
  made : l ≡ appended n events
  front : s ≡ all_bytes events ++ r
  fit : notices_fit events ≡ true

notices_told : (k : ℕ) (n : Notices) (s : List ℕ) (l : Notices) (r : List ℕ) → AllBytes s → notices k n s ≡ parsed l r → Notes k n s l r
unfolding appended
notices_told zero n s l r h p =
    record { events = []; count = refl; made = (let k : l ≡ n = cc in k); front = (let k : s ≡ r = cc in k); fit = refl }
notices_told (suc k) n s l r h p =
    let t = then_told (notice s) _ l r p in
    let a = notice_told s t.value t.rest h t.first in
    let b = notices_told k (pushed n t.value) t.rest l r (rest_bytes s (notice_bytes t.value) t.rest a.front h) t.second in
    record {
      events = t.value ∷ b.events;
      count = ap suc b.count;
      made = b.made;
      front = a.front ∙ (ap (λ (x : List ℕ). notice_bytes t.value ++ x) b.front ∙ sym (append_assoc (notice_bytes t.value) (all_bytes b.events) r));
      fit = rw (a.fit, b.fit);
    }

end_told : {A : Type 0} (a b : A) (s r : List ℕ) → end a s ≡ parsed b r → (a ≡ b) × (s ≡ []) × (r ≡ [])
end_told a b [] r e = ((let k : a ≡ b = cc in k), refl, (let k : r ≡ [] = cc in k))
end_told a b (x ∷ s) r e = absurd (cc)

-- all the bytes are those of a packet that is well-formed
pub record Whole (s : List ℕ) (p : Packet) : Type 0 where
  pub bytes : s ≡ packet_bytes p
  pub fits : well_formed p ≡ true

-- an event packet

event_made : (n answer orders count : ℕ) (l : Notices) (p : Packet) (q q1 q2 q3 q4 : List ℕ)
    → q ≡ leb128 n ++ q1 → q1 ≡ answer ∷ q2 → q2 ≡ leb128 orders ++ q3 → q3 ≡ count ∷ q4
    → ltb 0 n ≡ true → n ≤ 4294967295 → leb answer 10 ≡ true → leb orders 35 ≡ true → leb count 4 ≡ true
    → Notes count empty q4 l []
    → Packet.Event (record { number = n; answer = answer; orders = orders; notices = l }) ≡ p
    → Whole (1 ∷ q) p
unfolding event_bytes event_fits
event_made n answer orders count l p q q1 q2 q3 q4 e0 e1 e2 e3 h0 h1 h2 h3 h4 t f =
    let small : length t.events ≤ 4 = omega (arith, t.count, leb-true count 4 h4) in
    let form : l ≡ rebuilt t.events = t.made ∙ appended_rebuilt t.events small in
    let list : listed l ≡ t.events = ap listed form ∙ rebuilt_listed t.events small in
    let c : length_of l ≡ count = ap length list ∙ t.count in
    let g : q4 ≡ all_bytes (listed l) = t.front ∙ (append-nil (all_bytes t.events) ∙ ap all_bytes (sym list)) in
    let b : 1 ∷ q ≡ 1 ∷ (leb128 n ++ (answer ∷ (leb128 orders ++ (length_of l ∷ all_bytes (listed l))))) =
    ap (λ (x : List ℕ). 1 ∷ x)
    (e0
    ∙ ap (λ (x : List ℕ). leb128 n ++ x)
    (e1 ∙ ap (λ (x : List ℕ). answer ∷ x) (e2 ∙ ap (λ (x : List ℕ). leb128 orders ++ x) (e3 ∙ (λ i. sym c i ∷ g i))))) in
    let v : padded l ≡ true = ap padded form ∙ rebuilt_padded t.events in
    let w : notices_fit (listed l) ≡ true = ap notices_fit list ∙ t.fit in
    record { bytes = b ∙ ap packet_bytes f; fits = ap well_formed (sym f) ∙ rw (h0, le-leb n 4294967295 h1, h2, h3, v, w) }

event_told : (q : List ℕ) (p : Packet) (r : List ℕ) → AllBytes q → event q ≡ parsed p r → Whole (1 ∷ q) p
unfolding event event_after event_notices
event_told q p r h e =
    let a = then_told (number 4294967295 q) _ p r e in
    let a1 = number_told 4294967295 q a.value a.rest h a.first in
    let ha = rest_bytes q (leb128 a.value) a.rest a1.0 h in
    let b = holds_told (ltb 0 a.value) a.rest _ p r a.second in
    let c = then_told (field 10 a.rest) _ p r b.1 in
    let c1 = field_told 10 a.rest c.value c.rest c.first in
    let hc = rest_bytes a.rest (c.value ∷ []) c.rest c1.0 ha in
    let d = then_told (number 4294967295 c.rest) _ p r c.second in
    let d1 = number_told 4294967295 c.rest d.value d.rest hc d.first in
    let hd = rest_bytes c.rest (leb128 d.value) d.rest d1.0 hc in
    let o = holds_told (leb d.value 35) d.rest _ p r d.second in
    let f = then_told (field 4 d.rest) _ p r o.1 in
    let f1 = field_told 4 d.rest f.value f.rest f.first in
    let hf = rest_bytes d.rest (f.value ∷ []) f.rest f1.0 hd in
    let g = then_told (notices f.value empty f.rest) _ p r f.second in
    let z = end_told _ p g.rest r g.second in
    let t = notices_told f.value empty f.rest g.value [] hf (g.first ∙ ap (λ (x : List ℕ). parsed g.value x) z.1) in
    event_made a.value c.value d.value f.value g.value p q a.rest c.rest d.rest f.rest a1.0 c1.0 d1.0 f1.0 b.0 a1.1 c1.1 o.0 f1.1 t z.0

-- tracked ports: rising, so the sum of their bits has just these bits

abbrev Rising : ℕ → List ℕ → Type 0
Rising low [] = Unit {0}
Rising low (q ∷ l) = (low ≤ q) × (q ≤ 15) × Rising (suc q) l

record Decoded (n p : ℕ) (l : List ℕ) : Type 0 where
  value : ℕ
  sum : (a : ℕ) → add_all l a ≡ a + 2 ^ p * value
  small : value < 2 ^ n
  same : ports_from n p value ≡ l

double : (n p x : ℕ) (l : List ℕ) → x < 2 ^ n → ports_from n (suc p) x ≡ l → (x + x < 2 ^ suc n) × (ports_from (suc n) p (x + x) ≡ l)
double n p x l h e =
    let a : (x + x) % 2 ≡ 1 → ⊥ = omega arith in
    let b : (x + x) / 2 ≡ x = omega arith in
    (rw two-pow-succ (omega arith), rw (ne_eqb ((x + x) % 2) 1 a, b) e)

double_one : (n p x : ℕ) (l : List ℕ) → x < 2 ^ n → ports_from n (suc p) x ≡ l → (1 + (x + x) < 2 ^ suc n) × (ports_from (suc n) p (1 + (x + x)) ≡ p ∷ l)
double_one n p x l h e =
    let a : (1 + (x + x)) % 2 ≡ 1 = omega arith in
    let b : (1 + (x + x)) / 2 ≡ x = omega arith in
    (rw two-pow-succ (omega arith), rw (eq-eqb ((1 + (x + x)) % 2) 1 a, b) (ap (λ (k : List ℕ). p ∷ k) e))

skip : (n p : ℕ) (l : List ℕ) → Decoded n (suc p) l → Decoded (suc n) p l
skip n p l d =
    let x = d.value in
    let y = double n p x l d.small d.same in
    record {
      value = x + x;
      sum = λ a. d.sum a ∙ (ap (λ (k : ℕ). a + k * x) (two-pow-succ p) ∙ even (2 ^ p) x a (x + x) refl);
      small = y.0;
      same = y.1;
    }

keep : (n p : ℕ) (l : List ℕ) → Decoded n (suc p) l → Decoded (suc n) p (p ∷ l)
unfolding add_all
keep n p l d =
    let x = d.value in
    let y = double_one n p x l d.small d.same in
    record {
      value = 1 + (x + x);
      sum = λ a. d.sum (2 ^ p + a) ∙ (ap (λ (k : ℕ). 2 ^ p + a + k * x) (two-pow-succ p) ∙ odd (2 ^ p) x a (1 + (x + x)) refl);
      small = y.0;
      same = y.1;
    }

decode : (n p : ℕ) (l : List ℕ) → p + n ≡ 16 → Rising p l → Decoded n p l
unfolding add_all
decode zero p [] e h =
    record { value = 0; sum = λ a. sym (ap (λ (k : ℕ). a + k) (mul-zero (2 ^ p)) ∙ add-zero a); small = omega arith; same = refl }
decode zero p (q ∷ l) e h = absurd (omega arith)
decode (suc n) p [] e h = skip n p [] (decode n (suc p) [] (omega arith) tt)
decode (suc n) p (q ∷ l) e h = tested (eqb q p) refl (decode n (suc p) l (omega arith)) (decode n (suc p) (q ∷ l) (omega arith))
  where
    tested : (t : Bool) → eqb q p ≡ t → (Rising (suc p) l → Decoded n (suc p) l) → (Rising (suc p) (q ∷ l) → Decoded n (suc p) (q ∷ l))
        → Decoded (suc n) p (q ∷ l)
    tested true f a b =
        let g : q ≡ p = eqb-true q p f in
        rw g (keep n p l (a (rw g at h.2)))
    tested false f a b =
        let g : q ≡ p → ⊥ = eqb-false q p f in
        let k : suc p ≤ q = omega (arith, h.0, g) in
        skip n p (q ∷ l) (b (k, h.1, h.2))

-- so many ports

record Ports (k low a : ℕ) (s : List ℕ) (q : Providers) (r : List ℕ) : Type 0 where
  list : List ℕ
  count : length list ≡ k
  rising : Rising low list
  made : q ≡ record { mask = add_all list a }
  front : s ≡ list ++ r

ports_told : (k low a : ℕ) (s : List ℕ) (q : Providers) (r : List ℕ) → ports k low a s ≡ parsed q r → Ports k low a s q r
unfolding add_all
ports_told zero low a s q r p =
    record { list = []; count = refl; rising = tt; made = (let k : q ≡ record { mask = a } = cc in k); front = (let k : s ≡ r = cc in k) }
ports_told (suc k) low a s q r p =
    let t = then_told (byte s) _ q r p in
    let f = byte_told s t.value t.rest t.first in
    let u = holds_told (leb low t.value && leb t.value 15) t.rest _ q r t.second in
    let v = and_parts (leb low t.value) (leb t.value 15) u.0 in
    let b = ports_told k (suc t.value) (2 ^ t.value + a) t.rest q r u.1 in
    record {
      list = t.value ∷ b.list;
      count = ap suc b.count;
      rising = (leb-true low t.value v.0, leb-true t.value 15 v.1, b.rising);
      made = b.made;
      front = f ∙ ap (λ (l : List ℕ). t.value ∷ l) b.front;
    }

-- the ports that were read are those of their mask

record Tracked (k : ℕ) (s : List ℕ) (q : Providers) : Type 0 where
  ports : s ≡ ports_bytes q.mask
  count : len q ≡ k
  small : q.mask < 65536

tracked_told : (n k : ℕ) (s : List ℕ) (q : Providers) → n ≡ 16 → Ports k 0 0 s q []
    → (s ≡ ports_from n 0 q.mask) × (ones q.mask n ≡ k) × (q.mask < 2 ^ n)
tracked_told n k s q e t =
    let d = decode n 0 t.list (omega arith) t.rising in
    let m : q.mask ≡ d.value = ap (λ (x : Providers). x.mask) t.made ∙ (d.sum 0 ∙ omega arith) in
    let p : ports_from n 0 q.mask ≡ t.list = ap (ports_from n 0) m ∙ d.same in
    (t.front ∙ (append-nil t.list ∙ sym p), sym (count_ports n 0 q.mask) ∙ (ap length p ∙ t.count), rw m d.small)

tracked_whole : (k : ℕ) (s : List ℕ) (q : Providers) → Ports k 0 0 s q [] → Tracked k s q
unfolding ports_bytes
tracked_whole k s q t =
    let w = tracked_told 16 k s q refl t in
    record { ports = w.0; count = w.1; small = w.2 }

-- a full picture

record Given (s : List ℕ) (c : Option AvailableConsumer) (r : List ℕ) : Type 0 where
  front : s ≡ consumer_bytes c ++ r
  fit : consumer_fits c ≡ true

option_told : (b : ℕ) (q : List ℕ) (c : Option AvailableConsumer) (r : List ℕ) → AllBytes q → leb b 1 ≡ true → consumer_given b q ≡ parsed c r
    → Given (b ∷ q) c r
unfolding consumer_bytes
option_told zero q c r h l p = none
  where
    none : Given (zero ∷ q) c r
    none =
        let f : None ≡ c = cc in
        let g : q ≡ r = cc in
        record { front = λ i. consumer_bytes (f i) ++ g i; fit = ap consumer_fits (sym f) }
option_told (suc zero) q c r h l p =
    let t = then_told (consumer q) _ c r p in
    let g = consumer_told q t.value t.rest h t.first in
    let f : Some t.value ≡ c = (let z = t.second in cc) in
    let y : t.rest ≡ r = (let z = t.second in cc) in
    record { front = ap (λ (x : List ℕ). 1 ∷ x) g.front ∙ (λ i. consumer_bytes (f i) ++ y i); fit = ap consumer_fits (sym f) ∙ g.fit }
option_told (suc (suc b)) q c r h l p = absurd (omega (arith, leb-true (suc (suc b)) 1 l))

picture_made : (n b count : ℕ) (c : Option AvailableConsumer) (u : UnconstrainedState) (k : Providers) (p : Packet) (q q1 q2 q3 q4 : List ℕ)
    → q ≡ leb128 n ++ q1 → Given q1 c q2 → q2 ≡ unconstrained_bytes u ++ q3 → q3 ≡ count ∷ q4
    → n ≤ 4294967295 → leb u.available 16 ≡ true → leb count 4 ≡ true → Tracked count q4 k
    → Packet.Picture (record { number = n; display = record { consumer = c; unconstrained = u; providers = k } }) ≡ p
    → Whole (2 ∷ q) p
unfolding picture_bytes picture_fits
picture_made n b count c u k p q q1 q2 q3 q4 e0 o e2 e3 h0 h1 h2 t f =
    let w : 2 ∷ q ≡ 2 ∷ (leb128 n ++ (consumer_bytes c ++ (unconstrained_bytes u ++ (len k ∷ ports_bytes k.mask)))) =
    ap (λ (x : List ℕ). 2 ∷ x)
    (e0
    ∙ ap (λ (x : List ℕ). leb128 n ++ x)
    (o.front ∙ ap (λ (x : List ℕ). consumer_bytes c ++ x) (e2 ∙ ap (λ (x : List ℕ). unconstrained_bytes u ++ x) (e3 ∙ (λ i. sym t.count i ∷ t.ports i))))) in
    let l : leb (len k) 4 ≡ true = ap (λ (x : ℕ). leb x 4) t.count ∙ h2 in
    record { bytes = w ∙ ap packet_bytes f; fits = ap well_formed (sym f) ∙ rw (le-leb n 4294967295 h0, o.fit, h1, lt-ltb k.mask 65536 t.small, l) }

picture_told : (q : List ℕ) (p : Packet) (r : List ℕ) → AllBytes q → picture q ≡ parsed p r → Whole (2 ∷ q) p
unfolding picture picture_after
picture_told q p r h e =
    let a = then_told (number 4294967295 q) _ p r e in
    let a1 = number_told 4294967295 q a.value a.rest h a.first in
    let ha = rest_bytes q (leb128 a.value) a.rest a1.0 h in
    let b = then_told (field 1 a.rest) _ p r a.second in
    let b1 = field_told 1 a.rest b.value b.rest b.first in
    let hb = rest_bytes a.rest (b.value ∷ []) b.rest b1.0 ha in
    let c = then_told (consumer_given b.value b.rest) _ p r b.second in
    let c1 = option_told b.value b.rest c.value c.rest hb b1.1 c.first in
    let d = then_told (unconstrained c.rest) _ p r c.second in
    let d1 = unconstrained_told c.rest d.value d.rest d.first in
    let f = then_told (field 4 d.rest) _ p r d.second in
    let f1 = field_told 4 d.rest f.value f.rest f.first in
    let g = then_told (ports f.value 0 0 f.rest) _ p r f.second in
    let z = end_told _ p g.rest r g.second in
    let t = ports_told f.value 0 0 f.rest g.value [] (g.first ∙ ap (λ (x : List ℕ). parsed g.value x) z.1) in
    picture_made a.value b.value f.value c.value d.value g.value p q a.rest c.rest d.rest f.rest a1.0 (record { front = b1.0 ∙ c1.front; fit = c1.fit }) d1.front f1.0 a1.1 d1.fit f1.1 (tracked_whole f.value f.rest g.value t) z.0

-- a packet

kind_whole : (kind : ℕ) (q : List ℕ) (p : Packet) (r : List ℕ) → AllBytes q → packet_of kind q ≡ parsed p r → Whole (kind ∷ q) p
unfolding packet_of
kind_whole zero q p r h e = absurd (cc)
kind_whole (suc zero) q p r h e = event_told q p r h e
kind_whole (suc (suc zero)) q p r h e = picture_told q p r h e
kind_whole (suc (suc (suc k))) q p r h e = absurd (cc)

whole : (s : List ℕ) (p : Packet) (r : List ℕ) → AllBytes s → packet s ≡ parsed p r → Whole s p
unfolding packet
whole s p r h e =
    let t = then_told (byte s) _ p r e in
    let f = byte_told s t.value t.rest t.first in
    let w = kind_whole t.value t.rest p r (rest_bytes s (t.value ∷ []) t.rest f h) t.second in
    record { bytes = f ∙ w.bytes; fits = w.fits }

read_told : (s : List ℕ) (p : Packet) (x : Parsed Packet) → packet s ≡ x → AllBytes s → packet_read x ≡ Ok p → Whole s p
read_told s p (refused n) e h q = absurd (cc)
read_told s p (parsed a r) e h q =
    let f : a ≡ p = cc in
    whole s p r h (e ∙ ap (λ (y : Packet). parsed y r) f)

-- the two laws

pub read_write : (p : Packet) → well_formed p ≡ true → read_packet (packet_bytes p) ≡ Ok p
read_write (Packet.Event p) h = ap packet_read (event_read_write p h)
read_write (Packet.Picture p) h = ap packet_read (picture_read_write p h)

pub write_read : (s : List ℕ) (p : Packet) → AllBytes s → read_packet s ≡ Ok p → Whole s p
write_read s p h e = read_told s p (packet s) refl h e
