-- A take is refused by the one of 30 to 33 that its reader has met: every reading from the left ends with one of them or goes on.
use Rattle.std.specs.Prelude.{Err, None, Ok, Option, Result, Some}
use mathlib.Core.Bool.{Bool, true, false, cond, ◌&&◌}
use mathlib.Core.List.{List, [], ◌∷◌}
use mathlib.Core.Path.{◌≡◌, refl, sym, ap, ◌∙◌, subst}
use Prim.Native.Nat.{ℕ, zero, suc, ◌+◌, ◌*◌, ◌^◌, ◌≤◌, ◌-◌}
use lib.Dec.{eqb, leb, ltb, lit≤}
use native.Mathlib.Omega.{arith}
use borrow.Author.Tests.{eqb-true, eqb-false}
use Rattle.power_policy_interface.specs.Capability.{consumer_flags_from, provider_flags_from, disconnect_from}
use Rattle.interface_display.specs.declared.AvailableConsumer.{AvailableConsumer}
use Rattle.power_policy_interface.specs.declared.capability.ConsumerFlags.{ConsumerFlags}
use Rattle.power_policy_interface.specs.declared.capability.DisconnectFlags.{DisconnectFlags}
use Rattle.power_policy_interface.specs.declared.capability.ProviderFlags.{ProviderFlags}
use Rattle.interface_display.specs.Notices.{empty, pushed}
use Rattle.interface_display.specs.declared.notices.Notices.{Notices}
use Rattle.interface_display.specs.declared.packet.Packet.{Packet}
use Rattle.abstract_policy.specs.Refusals.{first_refused}
use Rattle.abstract_policy.proofs.First.{first}
use Rattle.wire.specs.Number.{digit_before, digits_read, within, read_number}
use Rattle.wire.specs.Packet.{consumer_flags_given, provider_flags_given, reason_given, capability, contract, consumer, unconstrained, consumer_disconnected, consumer_connected, provider_disconnected, provider_connected, unconstrained_changed, notice_of, notice, notices, ports, event_notices, event_after, event, consumer_given, picture_after, picture, packet_of, packet}
use Rattle.wire.specs.Parser.{Parsed, refused, parsed, Parser, then, holds, byte, end, field, number_rest, number}
use Rattle.wire.specs.Read.{packet_read, read_packet}
use Rattle.abstract_calls.specs.Definition.{Refuses}
use Rattle.abstract_calls.specs.DeskCall.{read_conditions}
use Rattle.abstract_calls.specs.Lent.{take_to}
use Rattle.abstract_calls.specs.Numbers.{refused_number}
use Rattle.abstract_calls.proofs.Results.{done_low}

abbrev OfPacket : ℕ → Type 0
OfPacket n = (30 ≤ n) × (n ≤ 33)

abbrev Met : {A : Type 0} → Parsed A → Type 0
Met (refused n) = OfPacket n
Met (parsed a s) = Unit {0}

then_met : {A B : Type 0} (x : Parsed A) (f : A → Parser B) → Met x → ((a : A) (s : List ℕ) → Met (f a s)) → Met (then x f)
then_met (refused n) f h k = h
then_met (parsed a s) f h k = k a s

cut : OfPacket 30
cut = (lit≤ tt, lit≤ tt)

ill : OfPacket 31
ill = (lit≤ tt, lit≤ tt)

odd : OfPacket 32
odd = (lit≤ tt, lit≤ tt)

over : OfPacket 33
over = (lit≤ tt, lit≤ tt)

holds_met : (t : Bool) (s : List ℕ) → Met (holds t s)
holds_met true s = tt
holds_met false s = odd

byte_met : (s : List ℕ) → Met (byte s)
byte_met [] = cut
byte_met (b ∷ s) = tt

end_met : {A : Type 0} (a : A) (s : List ℕ) → Met (end a s)
end_met a [] = tt
end_met a (b ∷ s) = over

field_met : (most : ℕ) (s : List ℕ) → Met (field most s)
unfolding field
field_met most s = then_met (byte s) _ (byte_met s) (λ b r. then_met (holds (leb b most) r) _ (holds_met (leb b most) r) (λ u q. tt))

-- numbers

abbrev NumberMet : Result (ℕ × ℕ) ℕ → Type 0
NumberMet (Err n) = OfPacket n
NumberMet (Ok (v, used)) = Unit {0}

before_met : (d : ℕ) (r : Result (ℕ × ℕ) ℕ) → NumberMet r → NumberMet (digit_before d r)
before_met d (Err n) h = h
before_met d (Ok (v, used)) h = go (eqb v 0)
  where
    go : (t : Bool) → NumberMet (cond {A = Result (ℕ × ℕ) ℕ} t (Err 31) (Ok (d + v * 128, suc used)))
    go true = ill
    go false = tt

digits_met : (k : ℕ) (s : List ℕ) → NumberMet (digits_read k s)
digits_met k [] = cut
digits_met zero (b ∷ s) = go (ltb b 128)
  where
    go : (t : Bool) → NumberMet (cond {A = Result (ℕ × ℕ) ℕ} t (Ok (b, 1)) (Err 31))
    go true = tt
    go false = ill
digits_met (suc k) (b ∷ s) = go (ltb b 128) (before_met (b - 128) (digits_read k s) (digits_met k s))
  where
    go : (t : Bool) → NumberMet (digit_before (b - 128) (digits_read k s)) → NumberMet (cond {A = Result (ℕ × ℕ) ℕ} t (Ok (b, 1)) (digit_before (b - 128) (digits_read k s)))
    go true h = tt
    go false h = h

within_met : (limit : ℕ) (r : Result (ℕ × ℕ) ℕ) → NumberMet r → NumberMet (within limit r)
within_met limit (Err n) h = h
within_met limit (Ok (v, used)) h = go (leb v limit)
  where
    go : (t : Bool) → NumberMet (cond {A = Result (ℕ × ℕ) ℕ} t (Ok (v, used)) (Err 31))
    go true = tt
    go false = ill

rest_met : (s : List ℕ) (r : Result (ℕ × ℕ) ℕ) → NumberMet r → Met (number_rest s r)
rest_met s (Err n) h = h
rest_met s (Ok (v, used)) h = tt

number_met : (limit : ℕ) (s : List ℕ) → Met (number limit s)
unfolding number read_number
number_met limit s = rest_met s (within limit (digits_read 4 s)) (within_met limit (digits_read 4 s) (digits_met 4 s))

-- the parts of a packet

consumer_flags_met : (f : Option ConsumerFlags) (s : List ℕ) → Met (consumer_flags_given f s)
consumer_flags_met None s = odd
consumer_flags_met (Some f) s = tt

provider_flags_met : (f : Option ProviderFlags) (s : List ℕ) → Met (provider_flags_given f s)
provider_flags_met None s = odd
provider_flags_met (Some f) s = tt

reason_met : (f : Option DisconnectFlags) (s : List ℕ) → Met (reason_given f s)
reason_met None s = odd
reason_met (Some f) s = tt

capability_met : (s : List ℕ) → Met (capability s)
unfolding capability
capability_met s = then_met (number 65535 s) _ (number_met 65535 s) (λ v r. then_met (number 65535 r) _ (number_met 65535 r) (λ a q. tt))

contract_met : (s : List ℕ) → Met (contract s)
unfolding contract
contract_met s =
    then_met (field 15 s) _ (field_met 15 s)
    (λ p s1. then_met (capability s1) _ (capability_met s1) (λ c s2. then_met (byte s2) _ (byte_met s2) (λ b s3. tt)))

consumer_met : (s : List ℕ) → Met (consumer s)
unfolding consumer
consumer_met s =
    then_met (contract s) _ (contract_met s)
    (λ c r. then_met (consumer_flags_given (consumer_flags_from c.flags) r) _ (consumer_flags_met (consumer_flags_from c.flags) r) (λ f q. tt))

unconstrained_met : (s : List ℕ) → Met (unconstrained s)
unfolding unconstrained
unconstrained_met s = then_met (field 1 s) _ (field_met 1 s) (λ u r. then_met (field 16 r) _ (field_met 16 r) (λ n q. tt))

consumer_disconnected_met : (s : List ℕ) → Met (consumer_disconnected s)
unfolding consumer_disconnected
consumer_disconnected_met s =
    then_met (field 15 s) _ (field_met 15 s)
    (λ p s1. then_met (byte s1) _ (byte_met s1) (λ b s2. then_met (reason_given (disconnect_from b) s2) _ (reason_met (disconnect_from b) s2) (λ f s3. tt)))

consumer_connected_met : (s : List ℕ) → Met (consumer_connected s)
unfolding consumer_connected
consumer_connected_met s = then_met (consumer s) _ (consumer_met s) (λ c r. tt)

provider_disconnected_met : (s : List ℕ) → Met (provider_disconnected s)
unfolding provider_disconnected
provider_disconnected_met s = then_met (field 15 s) _ (field_met 15 s) (λ p r. tt)

provider_connected_met : (s : List ℕ) → Met (provider_connected s)
unfolding provider_connected
provider_connected_met s =
    then_met (contract s) _ (contract_met s)
    (λ c r. then_met (provider_flags_given (provider_flags_from c.flags) r) _ (provider_flags_met (provider_flags_from c.flags) r) (λ f q. tt))

unconstrained_changed_met : (s : List ℕ) → Met (unconstrained_changed s)
unfolding unconstrained_changed
unconstrained_changed_met s = then_met (unconstrained s) _ (unconstrained_met s) (λ u r. tt)

notice_of_met : (kind : ℕ) (s : List ℕ) → Met (notice_of kind s)
unfolding notice_of
notice_of_met zero s = odd
notice_of_met (suc zero) s = consumer_disconnected_met s
notice_of_met (suc (suc zero)) s = consumer_connected_met s
notice_of_met (suc (suc (suc zero))) s = provider_disconnected_met s
notice_of_met (suc (suc (suc (suc zero)))) s = provider_connected_met s
notice_of_met (suc (suc (suc (suc (suc zero))))) s = unconstrained_changed_met s
notice_of_met (suc (suc (suc (suc (suc (suc k)))))) s = odd

notice_met : (s : List ℕ) → Met (notice s)
unfolding notice
notice_met s = then_met (byte s) _ (byte_met s) (λ k r. notice_of_met k r)

notices_met : (k : ℕ) (l : Notices) (s : List ℕ) → Met (notices k l s)
notices_met zero l s = tt
notices_met (suc k) l s = then_met (notice s) _ (notice_met s) (λ e r. notices_met k (pushed l e) r)

ports_met : (k low mask : ℕ) (s : List ℕ) → Met (ports k low mask s)
ports_met zero low mask s = tt
ports_met (suc k) low mask s =
    then_met (byte s) _ (byte_met s)
    (λ p r. then_met (holds (leb low p && leb p 15) r) _ (holds_met (leb low p && leb p 15) r) (λ u q. ports_met k (suc p) (2 ^ p + mask) q))

-- both kinds

event_notices_met : (n answer orders : ℕ) (s : List ℕ) → Met (event_notices n answer orders s)
unfolding event_notices
event_notices_met n answer orders s =
    then_met (field 4 s) _ (field_met 4 s)
    (λ count r. then_met (notices count empty r) _ (notices_met count empty r)
    (λ l q. end_met (Packet.Event (record { number = n; answer = answer; orders = orders; notices = l })) q))

event_after_met : (n : ℕ) (s : List ℕ) → Met (event_after n s)
unfolding event_after
event_after_met n s =
    then_met (field 10 s) _ (field_met 10 s)
    (λ a s1. then_met (number 4294967295 s1) _ (number_met 4294967295 s1)
    (λ o s2. then_met (holds (leb o 35) s2) _ (holds_met (leb o 35) s2) (λ u s3. event_notices_met n a o s3)))

event_met : (s : List ℕ) → Met (event s)
unfolding event
event_met s =
    then_met (number 4294967295 s) _ (number_met 4294967295 s)
    (λ n r. then_met (holds (ltb 0 n) r) _ (holds_met (ltb 0 n) r) (λ u q. event_after_met n q))

consumer_given_met : (n : ℕ) (s : List ℕ) → Met (consumer_given n s)
consumer_given_met zero s = tt
consumer_given_met (suc n) s = then_met (consumer s) _ (consumer_met s) (λ c r. tt)

picture_after_met : (n : ℕ) (c : Option AvailableConsumer) (s : List ℕ) → Met (picture_after n c s)
unfolding picture_after
picture_after_met n c s =
    then_met (unconstrained s) _ (unconstrained_met s)
    (λ u s1. then_met (field 4 s1) _ (field_met 4 s1)
    (λ count s2. then_met (ports count 0 0 s2) _ (ports_met count 0 0 s2)
    (λ p s3. end_met (Packet.Picture (record { number = n; display = record { consumer = c; unconstrained = u; providers = p } })) s3)))

picture_met : (s : List ℕ) → Met (picture s)
unfolding picture
picture_met s =
    then_met (number 4294967295 s) _ (number_met 4294967295 s)
    (λ n s1. then_met (field 1 s1) _ (field_met 1 s1)
    (λ p s2. then_met (consumer_given p s2) _ (consumer_given_met p s2) (λ c s3. picture_after_met n c s3)))

packet_of_met : (kind : ℕ) (s : List ℕ) → Met (packet_of kind s)
unfolding packet_of
packet_of_met zero s = odd
packet_of_met (suc zero) s = event_met s
packet_of_met (suc (suc zero)) s = picture_met s
packet_of_met (suc (suc (suc k))) s = odd

packet_met : (s : List ℕ) → Met (packet s)
unfolding packet
packet_met s = then_met (byte s) _ (byte_met s) (λ k r. packet_of_met k r)

abbrev ReadMet : Result Packet ℕ → Type 0
ReadMet (Err n) = OfPacket n
ReadMet (Ok p) = Unit {0}

read_met : (x : Parsed Packet) → Met x → ReadMet (packet_read x)
read_met (refused n) h = h
read_met (parsed p s) h = tt

pub packet_refused : (y : List ℕ) (n : ℕ) → read_packet y ≡ Err n → (30 ≤ n) × (n ≤ 33)
packet_refused y n e = subst ReadMet e (read_met (packet y) (packet_met y))

-- what turns a take back: of 30 to 33 the one that the reader has met

first_read : (n : ℕ) → (30 ≤ n) × (n ≤ 33) → first_refused (read_conditions (Err n)) ≡ n
first_read n h = go (eqb n 30) refl (eqb n 31) refl (eqb n 32) refl (eqb n 33) refl
  where
    go : (a : Bool) → eqb n 30 ≡ a → (b : Bool) → eqb n 31 ≡ b → (c : Bool) → eqb n 32 ≡ c → (d : Bool) → eqb n 33 ≡ d →
        cond {A = ℕ} a 30 (cond b 31 (cond c 32 (cond d 33 0))) ≡ n
    go true e b f c k d m = sym (eqb-true n 30 e)
    go false e true f c k d m = sym (eqb-true n 31 f)
    go false e false f true k d m = sym (eqb-true n 32 k)
    go false e false f false k true m = sym (eqb-true n 33 m)
    go false e false f false k false m = absurd (omega (arith, h.0, h.1, eqb-false n 30 e, eqb-false n 31 f, eqb-false n 32 k, eqb-false n 33 m))

pub read_refuses : (y : List ℕ) (r : Result Packet ℕ) → read_packet y ≡ r → Refuses (read_conditions r) (take_to r)
read_refuses y (Err n) e =
    let q : first_refused (read_conditions (Err n)) ≡ n = first_read n (packet_refused y n e) in
    record {
      first = first (read_conditions (Err n)) refl;
      turned_back = λ z. ap refused_number (sym q);
      accepted = λ z. absurd (omega (arith, z, q, (packet_refused y n e).0));
    }
read_refuses y (Ok p) e = record {
  first = first (read_conditions (Ok p)) refl;
  turned_back = λ z. absurd (z refl);
  accepted = λ z k. let q : ◌≡◌ {A = ℕ} 4 0 = sym done_low ∙ k in omega (arith, q);
}
