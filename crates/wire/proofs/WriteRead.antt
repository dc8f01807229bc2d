-- What was read was written so: each field that is read stands at the front of its bytes as it is written, within its range, and the
-- next is read from what follows.
-- Assumes nothing.
use Rattle.std.specs.Prelude.{None, Option, Some, Result, Ok, Err}
use mathlib.Core.Path.{◌≡◌, refl, ap, sym, ◌∙◌}
use mathlib.Core.Bool.{Bool, true, false}
use mathlib.Core.List.{List, [], ◌∷◌, ◌++◌, append_assoc}
use Prim.Native.Nat.{ℕ, zero, suc, ◌+◌, ◌≤◌}
use lib.Dec.{eqb, leb}
use lib.ListN.{length, get_or, drop}
use lib.Seq.{get_or-append-add}
use borrow.Author.Tests.{le-leb, leb-true}
use Rattle.power_policy_interface.specs.Capability.{consumer_flags_byte, provider_flags_byte, consumer_flags_from, provider_flags_from, disconnect_from, disconnect_byte, capability_fits}
use Rattle.power_policy_interface.specs.declared.capability.PowerCapability.{PowerCapability}
use Rattle.power_policy_interface.specs.declared.capability.ConsumerFlags.{ConsumerFlags}
use Rattle.power_policy_interface.specs.declared.capability.ProviderFlags.{ProviderFlags}
use Rattle.power_policy_interface.specs.declared.capability.DisconnectFlags.{DisconnectFlags}
use Rattle.power_policy_interface.specs.declared.service.UnconstrainedState.{UnconstrainedState}
use Rattle.power_policy_interface.specs.declared.service.event.Event.{Event}
use Rattle.power_policy_interface.proofs.OneByte.{consumer_write_read, provider_write_read, reason_write_read}
use Rattle.interface_display.specs.declared.AvailableConsumer.{AvailableConsumer}
use Rattle.wire.specs.Number.{leb128, read_number}
use Rattle.wire.specs.Parser.{Parsed, refused, parsed, Parser, then, byte, holds, field, number, number_rest}
use Rattle.wire.specs.declared.packet.Contract.{Contract}
use Rattle.wire.specs.Packet.{consumer_flags_given, provider_flags_given, reason_given, capability, contract, consumer, unconstrained, consumer_disconnected, consumer_connected, provider_disconnected, provider_connected, unconstrained_changed, notice_of, notice}
use Rattle.wire.specs.Bytes.{capability_bytes, contract_bytes, unconstrained_bytes, notice_bytes}
use Rattle.wire.specs.WellFormed.{contract_fits, notice_fits}
use Rattle.wire.proofs.Reading.{number_bounds}
use Rattle.wire.proofs.OneNumber.{AllBytes, write_read}
use Rattle.power_policy_interface.proofs.Bits.{bit_written}

-- two readings one after the other, taken apart
pub record Then {A B : Type 0} (x : Parsed A) (f : A → Parser B) (b : B) (r : List ℕ) : Type 0 where
  pub value : A
  pub rest : List ℕ
  pub first : x ≡ parsed value rest
  pub second : f value rest ≡ parsed b r

pub then_told : {A B : Type 0} (x : Parsed A) (f : A → Parser B) (b : B) (r : List ℕ) → then x f ≡ parsed b r → Then x f b r
then_told (refused n) f b r e = absurd (cc)
then_told (parsed a s) f b r e = record { value = a; rest = s; first = refl; second = e }

-- `s` is so many bytes, and then the rest
pub rest_bytes : (s xs r : List ℕ) → s ≡ xs ++ r → AllBytes s → AllBytes r
rest_bytes s xs r e h k =
    let g : get_or s (length xs + k) 0 ≡ get_or r k 0 = ap (λ (l : List ℕ). get_or l (length xs + k) 0) e ∙ get_or-append-add xs r k 0 in
    rw g at (h (length xs + k))

pub byte_told : (s : List ℕ) (b : ℕ) (r : List ℕ) → byte s ≡ parsed b r → s ≡ b ∷ r
byte_told [] b r e = absurd (cc)
byte_told (x ∷ s) b r e =
    let f : x ≡ b = cc in
    let g : s ≡ r = cc in
    λ i. f i ∷ g i

pub holds_told : {B : Type 0} (t : Bool) (s : List ℕ) (q : Parser B) (b : B) (r : List ℕ) → then (holds t s) (λ a. q) ≡ parsed b r
    → (t ≡ true) × (q s ≡ parsed b r)
holds_told true s q b r e = (refl, e)
holds_told false s q b r e = absurd (cc)

pub field_told : (most : ℕ) (s : List ℕ) (b : ℕ) (r : List ℕ) → field most s ≡ parsed b r → (s ≡ b ∷ r) × (leb b most ≡ true)
unfolding field
field_told most s b r e =
    let t = then_told (byte s) _ b r e in
    let u = holds_told (leb t.value most) t.rest _ b r t.second in
    let f : t.value ≡ b = (let q = u.1 in cc) in
    let g : t.rest ≡ r = (let q = u.1 in cc) in
    (byte_told s t.value t.rest t.first ∙ (λ i. f i ∷ g i), ap (λ (x : ℕ). leb x most) (sym f) ∙ u.0)

pub number_told : (limit : ℕ) (s : List ℕ) (v : ℕ) (r : List ℕ) → AllBytes s → number limit s ≡ parsed v r → (s ≡ leb128 v ++ r) × (v ≤ limit)
unfolding number
number_told limit s v r h e = cases (read_number limit s) refl e
  where
    cases : (x : Result (ℕ × ℕ) ℕ) → read_number limit s ≡ x → number_rest s x ≡ parsed v r → (s ≡ leb128 v ++ r) × (v ≤ limit)
    cases (Err n) p q = absurd (cc)
    cases (Ok (w, u)) p q =
        let f : w ≡ v = cc in
        let g : drop u s ≡ r = cc in
        (write_read limit s w u h p ∙ (λ i. leb128 (f i) ++ g i), rw f at (number_bounds limit s w u p).0)

-- a value is read from its own bytes and is within its range
pub record Read {A : Type 0} (bytes : A → List ℕ) (fits : A → Bool) (s : List ℕ) (a : A) (r : List ℕ) : Type 0 where
  pub front : s ≡ bytes a ++ r
  pub fit : fits a ≡ true

capability_told : (s : List ℕ) (c : PowerCapability) (r : List ℕ) → AllBytes s → capability s ≡ parsed c r
    → Read capability_bytes capability_fits s c r
unfolding capability capability_bytes
capability_told s c r h e =
    let t = then_told (number 65535 s) _ c r e in
    let a = number_told 65535 s t.value t.rest h t.first in
    let u = then_told (number 65535 t.rest) _ c r t.second in
    let b = number_told 65535 t.rest u.value u.rest (rest_bytes s (leb128 t.value) t.rest a.0 h) u.first in
    made t.value u.value t.rest u.rest a.0 b.0 a.1 b.1 u.second
  where
    made : (v m : ℕ) (q w : List ℕ) → s ≡ leb128 v ++ q → q ≡ leb128 m ++ w → v ≤ 65535 → m ≤ 65535
        → ◌≡◌ {A = Parsed PowerCapability} (parsed (record { voltage_mv = v; current_ma = m }) w) (parsed c r)
        → Read capability_bytes capability_fits s c r
    made v m q w p g hv hm k =
        let f : record { voltage_mv = v; current_ma = m } ≡ c = cc in
        let z : w ≡ r = cc in
        record {
          front = p ∙ (ap (λ (l : List ℕ). leb128 v ++ l) g ∙ (sym (append_assoc (leb128 v) (leb128 m) w) ∙ (λ i. capability_bytes (f i) ++ z i)));
          fit = ap capability_fits (sym f) ∙ rw (le-leb v 65535 hv, le-leb m 65535 hm);
        }

-- port, mV, mA, and the flags as a byte

contract_front : (port b : ℕ) (c : PowerCapability) (s q w r : List ℕ) → s ≡ port ∷ q → q ≡ capability_bytes c ++ w → w ≡ b ∷ r
    → s ≡ contract_bytes port c b ++ r
unfolding contract_bytes
contract_front port b c s q w r e f g =
    e ∙ ap (λ (l : List ℕ). port ∷ l) (f ∙ (ap (λ (l : List ℕ). capability_bytes c ++ l) g ∙ sym (append_assoc (capability_bytes c) (b ∷ []) r)))

abbrev contract_bytes_of : Contract → List ℕ
contract_bytes_of k = contract_bytes k.port k.power k.flags

abbrev contract_fits_of : Contract → Bool
contract_fits_of k = contract_fits k.port k.power

contract_told : (s : List ℕ) (k : Contract) (r : List ℕ) → AllBytes s → contract s ≡ parsed k r → Read contract_bytes_of contract_fits_of s k r
unfolding contract
contract_told s k r h e =
    let t = then_told (field 15 s) _ k r e in
    let f = field_told 15 s t.value t.rest t.first in
    let u = then_told (capability t.rest) _ k r t.second in
    let g = capability_told t.rest u.value u.rest (rest_bytes s (t.value ∷ []) t.rest f.0 h) u.first in
    let v = then_told (byte u.rest) _ k r u.second in
    let b = byte_told u.rest v.value v.rest v.first in
    made t.value u.value v.value v.rest
    (contract_front t.value v.value u.value s t.rest u.rest v.rest f.0 g.front b)
    f.1
    g.fit
    v.second
  where
    made : (port : ℕ) (c : PowerCapability) (b : ℕ) (w : List ℕ) → s ≡ contract_bytes port c b ++ w
        → leb port 15 ≡ true → capability_fits c ≡ true
        → ◌≡◌ {A = Parsed Contract} (parsed (record { port = port; power = c; flags = b }) w) (parsed k r)
        → Read contract_bytes_of contract_fits_of s k r
    made port c b w p hp hc q =
        let d : record { port = port; power = c; flags = b } ≡ k = cc in
        let z : w ≡ r = cc in
        record { front = p ∙ (λ i. contract_bytes_of (d i) ++ z i); fit = ap contract_fits_of (sym d) ∙ rw (hp, hc) }

consumer_flags_told : (o : Option ConsumerFlags) (s : List ℕ) (f : ConsumerFlags) (r : List ℕ) → consumer_flags_given o s ≡ parsed f r
    → (o ≡ Some f) × (s ≡ r)
consumer_flags_told None s f r e = absurd (cc)
consumer_flags_told (Some g) s f r e =
    (ap Some (let k : g ≡ f = cc in k), (let k : s ≡ r = cc in k))

provider_flags_told : (o : Option ProviderFlags) (s : List ℕ) (f : ProviderFlags) (r : List ℕ) → provider_flags_given o s ≡ parsed f r
    → (o ≡ Some f) × (s ≡ r)
provider_flags_told None s f r e = absurd (cc)
provider_flags_told (Some g) s f r e =
    (ap Some (let k : g ≡ f = cc in k), (let k : s ≡ r = cc in k))

reason_told : (o : Option DisconnectFlags) (s : List ℕ) (f : DisconnectFlags) (r : List ℕ) → reason_given o s ≡ parsed f r
    → (o ≡ Some f) × (s ≡ r)
reason_told None s f r e = absurd (cc)
reason_told (Some g) s f r e =
    (ap Some (let k : g ≡ f = cc in k), (let k : s ≡ r = cc in k))

abbrev pub consumer_bytes_of : AvailableConsumer → List ℕ
consumer_bytes_of a =
    contract_bytes a.psu a.consumer_power_capability.capability (consumer_flags_byte a.consumer_power_capability.flags)

abbrev pub consumer_fits_of : AvailableConsumer → Bool
consumer_fits_of a = contract_fits a.psu a.consumer_power_capability.capability

pub consumer_told : (s : List ℕ) (a : AvailableConsumer) (r : List ℕ) → AllBytes s → consumer s ≡ parsed a r
    → Read consumer_bytes_of consumer_fits_of s a r
unfolding consumer
consumer_told s a r h e =
    let t = then_told (contract s) _ a r e in
    let g = contract_told s t.value t.rest h t.first in
    let w = then_told (consumer_flags_given (consumer_flags_from t.value.flags) t.rest) _ a r t.second in
    let x = consumer_flags_told (consumer_flags_from t.value.flags) t.rest w.value w.rest w.first in
    let b = consumer_write_read t.value.flags w.value x.0 in
    made t.value w.value w.rest
    (g.front ∙ (λ i. contract_bytes t.value.port t.value.power (b i) ++ x.1 i))
    g.fit
    w.second
  where
    made : (c : Contract) (f : ConsumerFlags) (w : List ℕ) → s ≡ contract_bytes c.port c.power (consumer_flags_byte f) ++ w
        → contract_fits_of c ≡ true
        → ◌≡◌ {A = Parsed AvailableConsumer} (parsed (record { psu = c.port; consumer_power_capability = record { capability = c.power; flags = f } }) w) (parsed a r)
        → Read consumer_bytes_of consumer_fits_of s a r
    made c f w p hf k =
        let d : record { psu = c.port; consumer_power_capability = record { capability = c.power; flags = f } } ≡ a = cc in
        let z : w ≡ r = cc in
        record { front = p ∙ (λ i. consumer_bytes_of (d i) ++ z i); fit = ap consumer_fits_of (sym d) ∙ hf }

-- both unconstrained figures

abbrev pub figures_fit : UnconstrainedState → Bool
figures_fit u = leb u.available 16

pub unconstrained_told : (s : List ℕ) (a : UnconstrainedState) (r : List ℕ) → unconstrained s ≡ parsed a r
    → Read unconstrained_bytes figures_fit s a r
unfolding unconstrained
unconstrained_told s a r e =
    let t = then_told (field 1 s) _ a r e in
    let f = field_told 1 s t.value t.rest t.first in
    let u = then_told (field 16 t.rest) _ a r t.second in
    let g = field_told 16 t.rest u.value u.rest u.first in
    made t.value u.value u.rest (f.0 ∙ ap (λ (l : List ℕ). t.value ∷ l) g.0) f.1 g.1 u.second
  where
    made : (b n : ℕ) (w : List ℕ) → s ≡ b ∷ n ∷ w → leb b 1 ≡ true → leb n 16 ≡ true
        → ◌≡◌ {A = Parsed UnconstrainedState} (parsed (record { unconstrained = eqb b 1; available = n }) w) (parsed a r)
        → Read unconstrained_bytes figures_fit s a r
    made b n w p hb hn k =
        let d : record { unconstrained = eqb b 1; available = n } ≡ a = cc in
        let z : w ≡ r = cc in
        record {
          front = p ∙ ((λ i. bit_written b (leb-true b 1 hb) i ∷ n ∷ w) ∙ (λ i. unconstrained_bytes (d i) ++ z i));
          fit = ap figures_fit (sym d) ∙ hn;
        }

-- a notice, by its kind

module _ (q : List ℕ) (e : Event) (r : List ℕ) where
  one_told : consumer_disconnected q ≡ parsed e r → Read notice_bytes notice_fits (1 ∷ q) e r
  unfolding consumer_disconnected notice_bytes
  one_told p =
      let t = then_told (field 15 q) _ e r p in
      let f = field_told 15 q t.value t.rest t.first in
      let u = then_told (byte t.rest) _ e r t.second in
      let g = byte_told t.rest u.value u.rest u.first in
      let v = then_told (reason_given (disconnect_from u.value) u.rest) _ e r u.second in
      let x = reason_told (disconnect_from u.value) u.rest v.value v.rest v.first in
      let b = reason_write_read u.value v.value x.0 in
      made t.value v.value v.rest (f.0 ∙ ap (λ (l : List ℕ). t.value ∷ l) (g ∙ (λ i. b i ∷ x.1 i))) f.1 v.second
    where
      made : (port : ℕ) (d : DisconnectFlags) (w : List ℕ) → q ≡ port ∷ disconnect_byte d ∷ w → leb port 15 ≡ true
          → ◌≡◌ {A = Parsed Event} (parsed (Event.ConsumerDisconnected port d) w) (parsed e r) → Read notice_bytes notice_fits (1 ∷ q) e r
      made port d w z hp k =
          let n : Event.ConsumerDisconnected port d ≡ e = cc in
          let y : w ≡ r = cc in
          record { front = ap (λ (l : List ℕ). 1 ∷ l) z ∙ (λ i. notice_bytes (n i) ++ y i); fit = ap notice_fits (sym n) ∙ hp }

  two_told : AllBytes q → consumer_connected q ≡ parsed e r → Read notice_bytes notice_fits (2 ∷ q) e r
  unfolding consumer_connected notice_bytes
  two_told h p =
      let t = then_told (consumer q) _ e r p in
      let g = consumer_told q t.value t.rest h t.first in
      made t.value t.rest g.front g.fit t.second
    where
      made : (a : AvailableConsumer) (w : List ℕ) → q ≡ consumer_bytes_of a ++ w → consumer_fits_of a ≡ true
          → ◌≡◌ {A = Parsed Event} (parsed (Event.ConsumerConnected a.psu a.consumer_power_capability) w) (parsed e r)
          → Read notice_bytes notice_fits (2 ∷ q) e r
      made a w z hf k =
          let n : Event.ConsumerConnected a.psu a.consumer_power_capability ≡ e = cc in
          let y : w ≡ r = cc in
          record { front = ap (λ (l : List ℕ). 2 ∷ l) z ∙ (λ i. notice_bytes (n i) ++ y i); fit = ap notice_fits (sym n) ∙ hf }

  three_told : provider_disconnected q ≡ parsed e r → Read notice_bytes notice_fits (3 ∷ q) e r
  unfolding provider_disconnected notice_bytes
  three_told p =
      let t = then_told (field 15 q) _ e r p in
      let f = field_told 15 q t.value t.rest t.first in
      made t.value t.rest f.0 f.1 t.second
    where
      made : (port : ℕ) (w : List ℕ) → q ≡ port ∷ w → leb port 15 ≡ true
          → ◌≡◌ {A = Parsed Event} (parsed (Event.ProviderDisconnected port) w) (parsed e r) → Read notice_bytes notice_fits (3 ∷ q) e r
      made port w z hp k =
          let n : Event.ProviderDisconnected port ≡ e = cc in
          let y : w ≡ r = cc in
          record { front = ap (λ (l : List ℕ). 3 ∷ l) z ∙ (λ i. notice_bytes (n i) ++ y i); fit = ap notice_fits (sym n) ∙ hp }

  four_told : AllBytes q → provider_connected q ≡ parsed e r → Read notice_bytes notice_fits (4 ∷ q) e r
  unfolding provider_connected notice_bytes
  four_told h p =
      let t = then_told (contract q) _ e r p in
      let g = contract_told q t.value t.rest h t.first in
      let w = then_told (provider_flags_given (provider_flags_from t.value.flags) t.rest) _ e r t.second in
      let x = provider_flags_told (provider_flags_from t.value.flags) t.rest w.value w.rest w.first in
      let b = provider_write_read t.value.flags w.value x.0 in
      made t.value w.value w.rest
      (g.front ∙ (λ i. contract_bytes t.value.port t.value.power (b i) ++ x.1 i))
      g.fit
      w.second
    where
      made : (c : Contract) (f : ProviderFlags) (w : List ℕ) → q ≡ contract_bytes c.port c.power (provider_flags_byte f) ++ w
          → contract_fits_of c ≡ true
          → ◌≡◌ {A = Parsed Event} (parsed (Event.ProviderConnected c.port (record { capability = c.power; flags = f })) w) (parsed e r)
          → Read notice_bytes notice_fits (4 ∷ q) e r
      made c f w z hf k =
          let n : Event.ProviderConnected c.port (record { capability = c.power; flags = f }) ≡ e = cc in
          let y : w ≡ r = cc in
          record { front = ap (λ (l : List ℕ). 4 ∷ l) z ∙ (λ i. notice_bytes (n i) ++ y i); fit = ap notice_fits (sym n) ∙ hf }

  five_told : unconstrained_changed q ≡ parsed e r → Read notice_bytes notice_fits (5 ∷ q) e r
  unfolding unconstrained_changed notice_bytes
  five_told p =
      let t = then_told (unconstrained q) _ e r p in
      let g = unconstrained_told q t.value t.rest t.first in
      made t.value t.rest g.front g.fit t.second
    where
      made : (u : UnconstrainedState) (w : List ℕ) → q ≡ unconstrained_bytes u ++ w → figures_fit u ≡ true
          → ◌≡◌ {A = Parsed Event} (parsed (Event.Unconstrained u) w) (parsed e r) → Read notice_bytes notice_fits (5 ∷ q) e r
      made u w z hf k =
          let n : Event.Unconstrained u ≡ e = cc in
          let y : w ≡ r = cc in
          record { front = ap (λ (l : List ℕ). 5 ∷ l) z ∙ (λ i. notice_bytes (n i) ++ y i); fit = ap notice_fits (sym n) ∙ hf }

  kind_told : (kind : ℕ) → AllBytes q → notice_of kind q ≡ parsed e r → Read notice_bytes notice_fits (kind ∷ q) e r
  unfolding notice_of
  kind_told zero h p = absurd (cc)
  kind_told (suc zero) h p = one_told p
  kind_told (suc (suc zero)) h p = two_told h p
  kind_told (suc (suc (suc zero))) h p = three_told p
  kind_told (suc (suc (suc (suc zero)))) h p = four_told h p
  kind_told (suc (suc (suc (suc (suc zero))))) h p = five_told p
  kind_told (suc (suc (suc (suc (suc (suc k)))))) h p = absurd (cc)

pub notice_told : (s : List ℕ) (e : Event) (r : List ℕ) → AllBytes s → notice s ≡ parsed e r → Read notice_bytes notice_fits s e r
unfolding notice
notice_told s e r h p =
    let t = then_told (byte s) _ e r p in
    let f = byte_told s t.value t.rest t.first in
    let g = kind_told t.rest e r t.value (rest_bytes s (t.value ∷ []) t.rest f h) t.second in
    record { front = f ∙ g.front; fit = g.fit }
