-- A notice has one encoding: its kind and port, and what follows them by the laws of records. Four notices are those of their list.
-- Assumes nothing.
use Rattle.std.specs.Prelude.{None, Option, Some}
use mathlib.Core.Path.{◌≡◌, refl, ap, sym, subst, ◌∙◌}
use mathlib.Core.Bool.{Bool, true, false, cond, ◌&&◌}
use mathlib.Core.List.{List, [], ◌∷◌}
use Prim.Native.Nat.{ℕ, zero, suc, ◌+◌, ◌≤◌, ◌<◌}
use native.Mathlib.Omega.{arith}
use lib.Dec.{eqb, leb, ltb}
use lib.ListN.{length, get_or}
use borrow.Author.Tests.{eqb-true, leb-true, le-leb}
use Rattle.power_policy_interface.specs.Capability.{bit, disconnect_byte, disconnect_from, reason_byte, capability_fits}
use Rattle.power_policy_interface.specs.declared.capability.DisconnectReason.{DisconnectReason}
use Rattle.power_policy_interface.specs.declared.capability.ConsumerPowerCapability.{ConsumerPowerCapability}
use Rattle.power_policy_interface.specs.declared.capability.DisconnectFlags.{DisconnectFlags}
use Rattle.power_policy_interface.specs.declared.capability.ProviderPowerCapability.{ProviderPowerCapability}
use Rattle.power_policy_interface.specs.declared.capability.PowerCapability.{PowerCapability}
use Rattle.power_policy_interface.specs.declared.service.event.Event.{Event}
use Rattle.power_policy_interface.proofs.OneByte.{reason_read_write, reason_write_read}
use Rattle.interface_records.specs.Group.{empty_group, all_zero, consumer_from, provider_from}
use Rattle.interface_records.specs.declared.group.Group.{Group}
use Rattle.interface_records.proofs.Groups.{zeros, consumer_back, provider_back, consumer_written, provider_written}
use Rattle.interface_display.specs.Notices.{filler, listed, padded}
use Rattle.interface_display.specs.declared.notices.Notices.{Notices}
use Rattle.interface_display.proofs.Four.{rebuilt, padded_rebuilt, counted, at_most_four}
use Rattle.wire.specs.WellFormed.{notice_fits, notices_fit}
use Rattle.bytes_groups.specs.Tagged.{no_group}
use Rattle.bytes_groups.specs.declared.tagged.Tagged.{Tagged}
use Rattle.bytes_groups.proofs.Quads.{Within}
use Rattle.bytes_groups.proofs.Consumers.{GroupBytes, TaggedBytes, empty_bytes, consumer_bytes_lem, provider_bytes, consumer_within, provider_within, no_group_lem}
use Rattle.bytes_follower_image.specs.Notice.{pair_group, notice_tagged, place_tagged, rest_zero, reason_read, consumer_read, provider_read, figures_fit, notice_cases, notice_from, is_zero, place_from}
use Rattle.bytes_follower_image.specs.Slot.{notices_of}
use Rattle.power_policy_interface.proofs.Bits.{bit_lt, bit_written}
use Rattle.std.proofs.lemmas.Bool.{and_parts, both_ways}

-- reading what was written

figures_back : (u : Bool) (a : ℕ) → leb a 16 ≡ true
    → notice_from (notice_tagged (Event.Unconstrained (record { unconstrained = u; available = a })))
    ≡ Some (Event.Unconstrained (record { unconstrained = u; available = a }))
figures_back true a h = rw h
figures_back false a h = rw h

pub notice_back : (e : Event) → notice_fits e ≡ true → notice_from (notice_tagged e) ≡ Some e
notice_back (Event.ConsumerDisconnected port f) h = rw h (ap (reason_read port) (reason_read_write f))
notice_back (Event.ConsumerConnected port c) h =
    let l = (and_parts (leb port 15) (capability_fits c.capability) h).0 in
    rw l (ap (consumer_read port) (consumer_back port c))
notice_back (Event.ProviderDisconnected port) h = rw h
notice_back (Event.ProviderConnected port c) h =
    let l = (and_parts (leb port 15) (capability_fits c.capability) h).0 in
    rw l (ap (provider_read port) (provider_back port c))
notice_back (Event.Unconstrained u) h = figures_back u.unconstrained u.available h

-- four notices, each read back

abbrev pub read_back : Notices → Option Notices
read_back n =
    notices_of n.count (place_from n.count 0 (place_tagged n.count 0 (get_or n.events 0 filler)))
    (place_from n.count 1 (place_tagged n.count 1 (get_or n.events 1 filler)))
    (place_from n.count 2 (place_tagged n.count 2 (get_or n.events 2 filler)))
    (place_from n.count 3 (place_tagged n.count 3 (get_or n.events 3 filler)))

list_back : (l : List Event) → length l ≤ 4 → notices_fit l ≡ true → read_back (rebuilt l) ≡ Some (rebuilt l)
list_back [] k h = refl
list_back (a ∷ []) k h =
    let x = notice_back a (and_parts (notice_fits a) _ h).0 in
    rw x
list_back (a ∷ b ∷ []) k h =
    let h1 = (and_parts (notice_fits a) (notices_fit (b ∷ [])) h).1 in
    let x = notice_back a (and_parts (notice_fits a) _ h).0 in
    let y = notice_back b (and_parts (notice_fits b) _ h1).0 in
    rw (x, y)
list_back (a ∷ b ∷ c ∷ []) k h =
    let h1 = (and_parts (notice_fits a) (notices_fit (b ∷ c ∷ [])) h).1 in
    let h2 = (and_parts (notice_fits b) (notices_fit (c ∷ [])) h1).1 in
    let x = notice_back a (and_parts (notice_fits a) _ h).0 in
    let y = notice_back b (and_parts (notice_fits b) _ h1).0 in
    let z = notice_back c (and_parts (notice_fits c) _ h2).0 in
    rw (x, y, z)
list_back (a ∷ b ∷ c ∷ d ∷ []) k h =
    let h1 = (and_parts (notice_fits a) (notices_fit (b ∷ c ∷ d ∷ [])) h).1 in
    let h2 = (and_parts (notice_fits b) (notices_fit (c ∷ d ∷ [])) h1).1 in
    let h3 = (and_parts (notice_fits c) (notices_fit (d ∷ [])) h2).1 in
    let x = notice_back a (and_parts (notice_fits a) _ h).0 in
    let y = notice_back b (and_parts (notice_fits b) _ h1).0 in
    let z = notice_back c (and_parts (notice_fits c) _ h2).0 in
    let w = notice_back d (and_parts (notice_fits d) _ h3).0 in
    rw (x, y, z, w)
list_back (a ∷ b ∷ c ∷ d ∷ e ∷ l) k h = absurd (omega arith)

pub notices_back : (n : Notices) → padded n ≡ true → notices_fit (listed n) ≡ true → read_back n ≡ Some n
notices_back n p h =
    subst (λ (m : Notices). read_back m ≡ Some m) (padded_rebuilt n p) (list_back (listed n) (at_most_four n (counted n p).1.0) h)

-- what was read was written so, and is within what a packet has

pub record Noticed (t : Tagged) (e : Event) : Type 0 where
  pub written : t ≡ notice_tagged e
  pub fits : notice_fits e ≡ true

told : (t : Tagged) (d e : Event) → Noticed t d → Some d ≡ Some e → Noticed t e
told t d e n q =
    let k : d ≡ e = cc in
    subst (λ (x : Event). Noticed t x) k n

pair_zero : (g : Group) → rest_zero g ≡ true → g ≡ pair_group g.number g.v0
pair_zero g e =
    let z = eqb-true (g.v1 + g.c0 + g.c1 + g.flags) 0 e in
    let b : g.v1 ≡ 0 = omega arith in
    let c : g.c0 ≡ 0 = omega arith in
    let d : g.c1 ≡ 0 = omega arith in
    let f : g.flags ≡ 0 = omega arith in
    λ i. record { number = g.number; v0 = g.v0; v1 = b i; c0 = c i; c1 = d i; flags = f i }

reason_told : (g : Group) (e : Event) (o : Option DisconnectFlags) → disconnect_from g.v0 ≡ o → rest_zero g ≡ true → leb g.number 15 ≡ true
    → reason_read g.number o ≡ Some e → Noticed (record { tag = 1; group = g }) e
reason_told g e None p r l q = absurd (cc)
reason_told g e (Some f) p r l q =
    told (record { tag = 1; group = g }) (Event.ConsumerDisconnected g.number f) e
    (record {
      written = ap (λ (k : Group). record { tag = 1; group = k })
          (pair_zero g r ∙ ap (pair_group g.number) (reason_write_read g.v0 f p));
      fits = l;
    })
    q

gone_told : (g : Group) (e : Event) (b : Bool) → rest_zero g ≡ b → leb g.number 15 ≡ true
    → cond b (reason_read g.number (disconnect_from g.v0)) None ≡ Some e
    → Noticed (record { tag = 1; group = g }) e
gone_told g e true p l q = reason_told g e (disconnect_from g.v0) refl p l q
gone_told g e false p l q = absurd (cc)

contract_fits_lem : (port : ℕ) (c : PowerCapability) → leb port 15 ≡ true → Within c → leb port 15 && capability_fits c ≡ true
contract_fits_lem port c l w =
    rw (l, le-leb c.voltage_mv 65535 (omega (arith, w.mv)), le-leb c.current_ma 65535 (omega (arith, w.ma)))

consumer_told : (g : Group) (e : Event) (o : Option ConsumerPowerCapability) → consumer_from g ≡ o → GroupBytes g → leb g.number 15 ≡ true
    → consumer_read g.number o ≡ Some e → Noticed (record { tag = 2; group = g }) e
consumer_told g e None p h l q = absurd (cc)
consumer_told g e (Some c) p h l q =
    told (record { tag = 2; group = g }) (Event.ConsumerConnected g.number c) e
    (record {
      written = ap (λ (k : Group). record { tag = 2; group = k }) (consumer_written g c h.digit p);
      fits = contract_fits_lem g.number c.capability l (consumer_within g c h.digit p);
    })
    q

left_told : (g : Group) (e : Event) (b : Bool) → all_zero g ≡ b → leb g.number 15 ≡ true
    → cond b (Some (Event.ProviderDisconnected g.number)) None ≡ Some e
    → Noticed (record { tag = 3; group = g }) e
left_told g e true p l q =
    told (record { tag = 3; group = g }) (Event.ProviderDisconnected g.number) e
    (record { written = ap (λ (k : Group). record { tag = 3; group = k }) (zeros g p); fits = l })
    q
left_told g e false p l q = absurd (cc)

provider_told : (g : Group) (e : Event) (o : Option ProviderPowerCapability) → provider_from g ≡ o → GroupBytes g → leb g.number 15 ≡ true
    → provider_read g.number o ≡ Some e → Noticed (record { tag = 4; group = g }) e
provider_told g e None p h l q = absurd (cc)
provider_told g e (Some c) p h l q =
    told (record { tag = 4; group = g }) (Event.ProviderConnected g.number c) e
    (record {
      written = ap (λ (k : Group). record { tag = 4; group = k }) (provider_written g c h.digit p);
      fits = contract_fits_lem g.number c.capability l (provider_within g c h.digit p);
    })
    q

figures_told : (g : Group) (e : Event) (b : Bool) → figures_fit g ≡ b
    → cond b (Some (Event.Unconstrained (record { unconstrained = eqb g.number 1; available = g.v0 }))) None
    ≡ Some e
    → Noticed (record { tag = 5; group = g }) e
figures_told g e true p q =
    let a = (and_parts (leb g.number 1) (leb g.v0 16 && rest_zero g) p).0 in
    let r = (and_parts (leb g.number 1) (leb g.v0 16 && rest_zero g) p).1 in
    let x = bit_written g.number (leb-true g.number 1 a) in
    told (record { tag = 5; group = g }) (Event.Unconstrained (record { unconstrained = eqb g.number 1; available = g.v0 })) e
    (record {
      written = ap (λ (k : Group). record { tag = 5; group = k })
          (pair_zero g (and_parts (leb g.v0 16) (rest_zero g) r).1 ∙ ap (λ (n : ℕ). pair_group n g.v0) x);
      fits = (and_parts (leb g.v0 16) (rest_zero g) r).0;
    })
    q
figures_told g e false p q = absurd (cc)

notice_at : (n : ℕ) (g : Group) (e : Event) → GroupBytes g → leb g.number 15 ≡ true
    → get_or (notice_cases g) n None ≡ Some e → Noticed (record { tag = n; group = g }) e
notice_at zero g e h l q = absurd (cc)
notice_at (suc zero) g e h l q = gone_told g e (rest_zero g) refl l q
notice_at (suc (suc zero)) g e h l q = consumer_told g e (consumer_from g) refl h l q
notice_at (suc (suc (suc zero))) g e h l q = left_told g e (all_zero g) refl l q
notice_at (suc (suc (suc (suc zero)))) g e h l q = provider_told g e (provider_from g) refl h l q
notice_at (suc (suc (suc (suc (suc zero))))) g e h l q = figures_told g e (figures_fit g) refl q
notice_at (suc (suc (suc (suc (suc (suc n)))))) g e h l q = absurd (cc)

notice_tested : (t : Tagged) (e : Event) (b : Bool) → leb t.group.number 15 ≡ b → TaggedBytes t
    → cond b (get_or (notice_cases t.group) t.tag None) None ≡ Some e → Noticed t e
notice_tested t e true l h q = notice_at t.tag t.group e h.group l q
notice_tested t e false l h q = absurd (cc)

pub notice_read : (t : Tagged) (e : Event) → TaggedBytes t → notice_from t ≡ Some e → Noticed t e
notice_read t e h q = notice_tested t e (leb t.group.number 15) refl h q

-- place k of a count: a notice before it, the filler from it on

pub record Placed (count k : ℕ) (t : Tagged) (e : Event) : Type 0 where
  pub written : t ≡ place_tagged count k e
  pub meant : ltb k count ≡ true → notice_fits e ≡ true
  pub past : ltb k count ≡ false → e ≡ filler

zero_tagged_lem : (t : Tagged) → is_zero t ≡ true → t ≡ record { tag = 0; group = empty_group 0 }
zero_tagged_lem t e =
    let a = eqb-true t.tag 0 (and_parts (eqb t.tag 0) (no_group t.group) e).0 in
    let b = no_group_lem t.group (and_parts (eqb t.tag 0) (no_group t.group) e).1 in
    λ i. record { tag = a i; group = b i }

past_tested : (count k : ℕ) (t : Tagged) (e : Event) (b : Bool) → is_zero t ≡ b → ltb k count ≡ false
    → cond b (Some filler) None ≡ Some e → Placed count k t e
past_tested count k t e true p l q =
    let f : filler ≡ e = cc in
    record { written = rw l (zero_tagged_lem t p); meant = λ m. absurd (both_ways (ltb k count) l m); past = λ m. sym f }
past_tested count k t e false p l q = absurd (cc)

place_tested : (count k : ℕ) (t : Tagged) (e : Event) (b : Bool) → ltb k count ≡ b → TaggedBytes t
    → cond b (notice_from t) (cond (is_zero t) (Some filler) None) ≡ Some e → Placed count k t e
place_tested count k t e true l h q =
    let n = notice_read t e h q in
    record { written = rw l n.written; meant = λ m. n.fits; past = λ m. absurd (both_ways (ltb k count) m l) }
place_tested count k t e false l h q = past_tested count k t e (is_zero t) refl l q

pub place_read : (count k : ℕ) (t : Tagged) (e : Event) → TaggedBytes t → place_from count k t ≡ Some e → Placed count k t e
place_read count k t e h q = place_tested count k t e (ltb k count) refl h q

-- four places make notices in their one form

pub record Formed (n : Notices) : Type 0 where
  pub form : padded n ≡ true
  pub fits : notices_fit (listed n) ≡ true

pub formed : (count : ℕ) (ta tb tc td : Tagged) (a b c d : Event) → count ≤ 4 → Placed count 0 ta a → Placed count 1 tb b → Placed count 2 tc c
    → Placed count 3 td d → Formed (record { count = count; events = a ∷ b ∷ c ∷ d ∷ [] })
formed zero ta tb tc td a b c d k pa pb pc pd =
    record { form = rw (pa.past refl, pb.past refl, pc.past refl, pd.past refl); fits = refl }
formed (suc zero) ta tb tc td a b c d k pa pb pc pd =
    record { form = rw (pb.past refl, pc.past refl, pd.past refl); fits = rw (pa.meant refl) }
formed (suc (suc zero)) ta tb tc td a b c d k pa pb pc pd =
    record { form = rw (pc.past refl, pd.past refl); fits = rw (pa.meant refl, pb.meant refl) }
formed (suc (suc (suc zero))) ta tb tc td a b c d k pa pb pc pd =
    record { form = rw (pd.past refl); fits = rw (pa.meant refl, pb.meant refl, pc.meant refl) }
formed (suc (suc (suc (suc zero)))) ta tb tc td a b c d k pa pb pc pd =
    record { form = refl; fits = rw (pa.meant refl, pb.meant refl, pc.meant refl, pd.meant refl) }
formed (suc (suc (suc (suc (suc n))))) ta tb tc td a b c d k pa pb pc pd = absurd (omega arith)

-- the bytes of a notice are bytes

pair_bytes : (a b : ℕ) → a < 256 → b < 256 → GroupBytes (pair_group a b)
pair_bytes a b x y = record {
  number = x;
  digit = record { v0 = y; v1 = omega arith; c0 = omega arith; c1 = omega arith };
  flags = omega arith;
}

within : (port : ℕ) (c : PowerCapability) → leb port 15 && capability_fits c ≡ true → (port < 256) × Within c
within port c h =
    let l = leb-true port 15 (and_parts (leb port 15) (capability_fits c) h).0 in
    let r = (and_parts (leb port 15) (capability_fits c) h).1 in
    let v = leb-true c.voltage_mv 65535 (and_parts (leb c.voltage_mv 65535) (leb c.current_ma 65535) r).0 in
    let a = leb-true c.current_ma 65535 (and_parts (leb c.voltage_mv 65535) (leb c.current_ma 65535) r).1 in
    (omega arith, record { mv = omega arith; ma = omega arith })

reason_small : (r : Option DisconnectReason) → reason_byte r < 256
reason_small None = omega arith
reason_small (Some DisconnectReason.Detached) = omega arith
reason_small (Some DisconnectReason.Switching) = omega arith
reason_small (Some DisconnectReason.AutoRenegotiation) = omega arith
reason_small (Some DisconnectReason.ManualRenegotiation) = omega arith
reason_small (Some DisconnectReason.RoleSwap) = omega arith
reason_small (Some DisconnectReason.Reset) = omega arith

pub notice_bytes_lem : (e : Event) → notice_fits e ≡ true → TaggedBytes (notice_tagged e)
notice_bytes_lem (Event.ConsumerDisconnected port f) h =
    record { tag = omega arith; group = pair_bytes port (disconnect_byte f) (omega (arith, leb-true port 15 h)) (reason_small f.reason) }
notice_bytes_lem (Event.ConsumerConnected port c) h =
    let w = within port c.capability h in
    record { tag = omega arith; group = consumer_bytes_lem port c w.0 w.1 }
notice_bytes_lem (Event.ProviderDisconnected port) h =
    record { tag = omega arith; group = empty_bytes port (omega (arith, leb-true port 15 h)) }
notice_bytes_lem (Event.ProviderConnected port c) h =
    let w = within port c.capability h in
    record { tag = omega arith; group = provider_bytes port c w.0 w.1 }
notice_bytes_lem (Event.Unconstrained u) h =
    record { tag = omega arith; group = pair_bytes (bit u.unconstrained) u.available (bit_lt u.unconstrained) (omega (arith, leb-true u.available 16 h)) }
