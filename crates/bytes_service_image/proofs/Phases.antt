-- A phase has one encoding: the kind decides, and each kind's bytes are those of its parts.
-- Assumes nothing.
use Rattle.std.specs.Prelude.{Err, None, Ok, Option, Result, Some}
use mathlib.Core.Path.{◌≡◌, refl, ap, sym, subst, ◌∙◌}
use mathlib.Core.Bool.{Bool, true, false, cond, ◌&&◌}
use mathlib.Core.List.{List}
use Prim.Native.Nat.{ℕ, zero, suc, ◌+◌, ◌-◌, ◌≤◌, ◌<◌}
use native.Mathlib.Omega.{arith}
use lib.Dec.{eqb, leb, ltb}
use lib.ListN.{get_or}
use borrow.Author.Tests.{eqb-true, ne_eqb, leb-true, ltb-true, lt-ltb}
use Rattle.power_policy_interface.specs.Capability.{disconnect_byte, disconnect_from, reason_byte, capability_fits}
use Rattle.power_policy_interface.specs.Psu.{kind_number, kind_from, answer_byte, answer_from, error_byte, mismatch_of, expected_byte, actual_byte}
use Rattle.power_policy_interface.specs.declared.capability.DisconnectFlags.{DisconnectFlags}
use Rattle.power_policy_interface.specs.declared.capability.DisconnectReason.{DisconnectReason}
use Rattle.power_policy_interface.specs.declared.capability.ConsumerPowerCapability.{ConsumerPowerCapability}
use Rattle.power_policy_interface.specs.declared.capability.ProviderPowerCapability.{ProviderPowerCapability}
use Rattle.power_policy_interface.specs.declared.psu.Mismatch.{Mismatch}
use Rattle.power_policy_interface.specs.declared.psu.Error.{Error}
use Rattle.power_policy_interface.specs.declared.psu.StateKind.{StateKind}
use Rattle.power_policy_interface.proofs.OneByte.{reason_read_write, reason_write_read, answer_write_read}
use Rattle.interface_records.specs.Group.{empty_group, consumer_from, provider_from}
use Rattle.interface_records.specs.Row.{AllBytes}
use Rattle.interface_records.specs.declared.group.Group.{Group}
use Rattle.interface_records.proofs.Groups.{consumer_back, consumer_written, provider_back, provider_written}
use Rattle.interface_display.specs.declared.AvailableConsumer.{AvailableConsumer}
use Rattle.machine_state.specs.declared.phase.Leaver.{Leaver}
use Rattle.machine_state.specs.declared.phase.Phase.{Phase}
use Rattle.machine_state.specs.declared.phase.Stage.{Stage}
use Rattle.std.proofs.lemmas.Bool.{and_parts}
use Rattle.bytes_groups.specs.Tagged.{no_group, available_with, available_from}
use Rattle.bytes_groups.proofs.Places.{Below, one}
use Rattle.bytes_groups.proofs.Consumers.{GroupBytes, group_bytes_lem, empty_bytes, consumer_bytes_lem, provider_bytes, consumer_within, provider_within, no_group_lem}
use Rattle.bytes_service_groups.specs.Phase.{standing_at, standing_bytes, mismatch_in, leaver_byte, stage_byte, stage_charger, contract_of, standing, mismatch_with, invalid_from, result_from, closed_with, leaving_with, leaver_from, switching_with, stage_from, connecting_with, providing_with, phases, phase_from}
use Rattle.bytes_service_groups.specs.declared.phase.Standing.{Standing}
use Rattle.bytes_service_image.specs.Typed.{PhaseTyped}
use Rattle.bytes_service_image.specs.WellFormed.{mismatch_fits, error_fits, result_fits, leaver_fits, stage_fits, phase_fits}
use Rattle.bytes_service_image.proofs.Fits.{fits, within}
use Rattle.power_policy_interface.proofs.KindBits.{actual_lt}

pub record StandingBytes (g : Standing) : Type 0 where
  pub kind : g.kind < 256
  pub a : g.a < 256
  pub b : g.b < 256
  pub c : g.c < 256
  pub contract : GroupBytes g.contract

pub standing_at_lem : (s : List ℕ) (at : ℕ) → AllBytes s → StandingBytes (standing_at s at)
standing_at_lem s at h = record {
  kind = h (at + 0);
  a = h (at + 1);
  b = h (at + 2);
  c = h (at + 3);
  contract = record {
    number = h (at + 4);
    digit = record { v0 = h (at + 5); v1 = h (at + 6); c0 = h (at + 7); c1 = h (at + 8) };
    flags = h (at + 9);
  };
}

pub standing_bytes_lem : (g : Standing) → StandingBytes g → Below (standing_bytes g)
standing_bytes_lem g h = one h.kind (one h.a (one h.b (one h.c (group_bytes_lem g.contract h.contract))))

-- small numbers

reason_cases : (r : Option DisconnectReason) → reason_byte r ≤ 6
reason_cases None = omega arith
reason_cases (Some DisconnectReason.Detached) = omega arith
reason_cases (Some DisconnectReason.Switching) = omega arith
reason_cases (Some DisconnectReason.AutoRenegotiation) = omega arith
reason_cases (Some DisconnectReason.ManualRenegotiation) = omega arith
reason_cases (Some DisconnectReason.RoleSwap) = omega arith
reason_cases (Some DisconnectReason.Reset) = omega arith

pub reason_lt : (f : DisconnectFlags) → disconnect_byte f < 256
reason_lt f = omega (arith, reason_cases f.reason)

kind_back : (k : StateKind) → kind_from (kind_number k) ≡ Some k
kind_back StateKind.Detached = refl
kind_back StateKind.Idle = refl
kind_back StateKind.ConnectedProvider = refl
kind_back StateKind.ConnectedConsumer = refl

-- the number of a kind that was read, whatever for a refusal
kind_byte : Option StateKind → ℕ
kind_byte None = 4
kind_byte (Some k) = kind_number k

kind_written : (b : ℕ) (k : StateKind) → kind_from b ≡ Some k → b ≡ kind_number k
unfolding kind_byte
kind_written zero k e = ap kind_byte e
kind_written (suc zero) k e = ap kind_byte e
kind_written (suc (suc zero)) k e = ap kind_byte e
kind_written (suc (suc (suc zero))) k e = ap kind_byte e
kind_written (suc (suc (suc (suc b)))) k e = absurd (cc)

-- answers

mismatch_back : (m : Option Mismatch) → mismatch_fits m ≡ true
    → invalid_from (expected_byte m) (actual_byte m) ≡ Some (Err (Error.InvalidState m))
mismatch_back None h = refl
mismatch_back (Some m) h =
    let k = ltb-true 0 m.expected (and_parts (ltb 0 m.expected) (leb m.expected 15) h).0 in
    let n : eqb m.expected 0 ≡ false = ne_eqb m.expected 0 (λ e. omega arith) in
    rw (n, kind_back m.actual)

error_back : (e : Error) → error_fits e ≡ true
    → result_from (error_byte e) (expected_byte (mismatch_of e)) (actual_byte (mismatch_of e)) ≡ Some (Err e)
error_back Error.InvalidDevice h = refl
error_back Error.CannotProvide h = refl
error_back Error.CannotConsume h = refl
error_back (Error.InvalidState m) h = mismatch_back m h
error_back Error.InvalidResponse h = refl
error_back Error.Busy h = refl
error_back Error.Timeout h = refl
error_back Error.Bus h = refl
error_back Error.Charger h = refl
error_back Error.Failed h = refl

result_back : (r : Result (Unit {0}) Error) → result_fits r ≡ true
    → result_from (answer_byte r) (expected_byte (mismatch_in r)) (actual_byte (mismatch_in r)) ≡ Some r
result_back (Ok tt) h = refl
result_back (Err e) h = error_back e h

error_lt : (e : Error) → error_byte e ≤ 10
error_lt Error.InvalidDevice = omega arith
error_lt Error.CannotProvide = omega arith
error_lt Error.CannotConsume = omega arith
error_lt (Error.InvalidState m) = omega arith
error_lt Error.InvalidResponse = omega arith
error_lt Error.Busy = omega arith
error_lt Error.Timeout = omega arith
error_lt Error.Bus = omega arith
error_lt Error.Charger = omega arith
error_lt Error.Failed = omega arith

answer_lt : (r : Result (Unit {0}) Error) → answer_byte r ≤ 10
answer_lt (Ok tt) = omega arith
answer_lt (Err e) = error_lt e

mismatch_of_fits : (e : Error) → error_fits e ≡ true → mismatch_fits (mismatch_of e) ≡ true
mismatch_of_fits Error.InvalidDevice h = refl
mismatch_of_fits Error.CannotProvide h = refl
mismatch_of_fits Error.CannotConsume h = refl
mismatch_of_fits (Error.InvalidState m) h = h
mismatch_of_fits Error.InvalidResponse h = refl
mismatch_of_fits Error.Busy h = refl
mismatch_of_fits Error.Timeout h = refl
mismatch_of_fits Error.Bus h = refl
mismatch_of_fits Error.Charger h = refl
mismatch_of_fits Error.Failed h = refl

mismatch_in_fits : (r : Result (Unit {0}) Error) → result_fits r ≡ true → mismatch_fits (mismatch_in r) ≡ true
mismatch_in_fits (Ok tt) h = refl
mismatch_in_fits (Err e) h = mismatch_of_fits e h

expected_lt : (m : Option Mismatch) → mismatch_fits m ≡ true → expected_byte m < 256
expected_lt None h = omega arith
expected_lt (Some m) h =
    let k = leb-true m.expected 15 (and_parts (ltb 0 m.expected) (leb m.expected 15) h).1 in
    omega arith

-- the three bytes that an answer is read from
pub record Answered (a b c : ℕ) (r : Result (Unit {0}) Error) : Type 0 where
  pub answer : a ≡ answer_byte r
  pub expected : b ≡ expected_byte (mismatch_in r)
  pub actual : c ≡ actual_byte (mismatch_in r)

carries : (b c : ℕ) (r : Result (Unit {0}) Error) (k : Option StateKind) → kind_from c ≡ k → mismatch_with b k ≡ Some r → Answered 4 b c r
carries b c r None e q = absurd (cc)
carries b c r (Some k) e q =
    let m : Err (Error.InvalidState (Some (record { expected = b; actual = k }))) ≡ r = cc in
    subst (λ (x : Result (Unit {0}) Error). Answered 4 b c x) m (record { answer = refl; expected = refl; actual = kind_written c k e })

carries_none : (c : ℕ) (r : Result (Unit {0}) Error) (t : Bool) → eqb c 0 ≡ t
    → cond t (Some (Err (Error.InvalidState None))) None ≡ Some r
    → Answered 4 0 c r
carries_none c r true e q =
    let m : Err (Error.InvalidState None) ≡ r = cc in
    subst (λ (x : Result (Unit {0}) Error). Answered 4 0 c x) m (record { answer = refl; expected = refl; actual = eqb-true c 0 e })
carries_none c r false e q = absurd (cc)

invalid_tested : (b c : ℕ) (r : Result (Unit {0}) Error) (t : Bool) → eqb b 0 ≡ t
    → cond t (cond (eqb c 0) (Some (Err (Error.InvalidState None))) None) (mismatch_with b (kind_from c))
    ≡ Some r
    → Answered 4 b c r
invalid_tested b c r true e q = subst (λ (x : ℕ). Answered 4 x c r) (sym (eqb-true b 0 e)) (carries_none c r (eqb c 0) refl q)
invalid_tested b c r false e q = carries b c r (kind_from c) refl q

invalid_read : (b c : ℕ) (r : Result (Unit {0}) Error) → invalid_from b c ≡ Some r → Answered 4 b c r
invalid_read b c r q = invalid_tested b c r (eqb b 0) refl q

-- what an answer that was read carries, nothing for a refusal
carried : Option (Result (Unit {0}) Error) → Option Mismatch
carried None = None
carried (Some r) = mismatch_in r

-- an answer that is read from its byte alone carries nothing
carried_none : (a : ℕ) → carried (answer_from a) ≡ None
unfolding carried
carried_none zero = refl
carried_none (suc zero) = refl
carried_none (suc (suc zero)) = refl
carried_none (suc (suc (suc zero))) = refl
carried_none (suc (suc (suc (suc zero)))) = refl
carried_none (suc (suc (suc (suc (suc zero))))) = refl
carried_none (suc (suc (suc (suc (suc (suc zero)))))) = refl
carried_none (suc (suc (suc (suc (suc (suc (suc zero))))))) = refl
carried_none (suc (suc (suc (suc (suc (suc (suc (suc zero)))))))) = refl
carried_none (suc (suc (suc (suc (suc (suc (suc (suc (suc zero))))))))) = refl
carried_none (suc (suc (suc (suc (suc (suc (suc (suc (suc (suc zero)))))))))) = refl
carried_none (suc (suc (suc (suc (suc (suc (suc (suc (suc (suc (suc a))))))))))) = refl

bare_answer : (a : ℕ) (r : Result (Unit {0}) Error) → answer_from a ≡ Some r → mismatch_in r ≡ None
unfolding carried
bare_answer a r e = sym (ap carried e) ∙ carried_none a

bare_read : (a b c : ℕ) (r : Result (Unit {0}) Error) (t : Bool) → eqb (b + c) 0 ≡ t → cond t (answer_from a) None ≡ Some r
    → Answered a b c r
bare_read a b c r true e q =
    let m = bare_answer a r q in
    let z = eqb-true (b + c) 0 e in
    let x : b ≡ 0 = omega arith in
    let y : c ≡ 0 = omega arith in
    record {
      answer = answer_write_read a r q;
      expected = x ∙ sym (ap expected_byte m);
      actual = y ∙ sym (ap actual_byte m);
    }
bare_read a b c r false e q = absurd (cc)

result_tested : (a b c : ℕ) (r : Result (Unit {0}) Error) (t : Bool) → eqb a 4 ≡ t
    → cond t (invalid_from b c) (cond (eqb (b + c) 0) (answer_from a) None) ≡ Some r → Answered a b c r
result_tested a b c r true e q = subst (λ (x : ℕ). Answered x b c r) (sym (eqb-true a 4 e)) (invalid_read b c r q)
result_tested a b c r false e q = bare_read a b c r (eqb (b + c) 0) refl q

result_read : (a b c : ℕ) (r : Result (Unit {0}) Error) → result_from a b c ≡ Some r → Answered a b c r
result_read a b c r q = result_tested a b c r (eqb a 4) refl q

-- who leaves

charger_byte : (i : ℕ) → i < 255 → leaver_byte (Leaver.Charger i) ≡ suc i
charger_byte i h = rw (lt-ltb i 255 h)

charger_from_lem : (i : ℕ) → leaver_from (suc i) ≡ Leaver.Charger i
charger_from_lem i =
    let z : eqb (suc i) 0 ≡ false = ne_eqb (suc i) 0 (λ e. omega arith) in
    let m : suc i - 1 ≡ i = omega arith in
    rw (z, m)

leaver_back : (n : ℕ) (l : Leaver) → n ≤ 8 → leaver_fits n l ≡ true → leaver_from (leaver_byte l) ≡ l
leaver_back n Leaver.Psu h e = refl
leaver_back n (Leaver.Charger i) h e =
    let k = ltb-true i n e in
    ap leaver_from (charger_byte i (omega arith)) ∙ charger_from_lem i

leaver_lt : (n : ℕ) (l : Leaver) → n ≤ 8 → leaver_fits n l ≡ true → leaver_byte l < 256
leaver_lt n Leaver.Psu h e = omega arith
leaver_lt n (Leaver.Charger i) h e =
    let k = ltb-true i n e in
    let j : i < 255 = omega arith in
    omega (arith, charger_byte i j)

leaver_written : (a : ℕ) → a < 256 → a ≡ leaver_byte (leaver_from a)
leaver_written zero h = refl
leaver_written (suc i) h = sym (ap leaver_byte (charger_from_lem i) ∙ charger_byte i (omega arith))

-- stages

stage_back : (s : Stage) → stage_from (stage_byte s) (stage_charger s) ≡ Some s
stage_back Stage.Psu = refl
stage_back Stage.Settling = refl
stage_back (Stage.Readying i) = refl
stage_back (Stage.Initializing i) = refl
stage_back (Stage.Attaching i) = refl

stage_lt : (s : Stage) → stage_byte s < 256
stage_lt Stage.Psu = omega arith
stage_lt Stage.Settling = omega arith
stage_lt (Stage.Readying i) = omega arith
stage_lt (Stage.Initializing i) = omega arith
stage_lt (Stage.Attaching i) = omega arith

charger_lt : (n : ℕ) (s : Stage) → n ≤ 8 → stage_fits n s ≡ true → stage_charger s < 256
charger_lt n Stage.Psu h e = omega arith
charger_lt n Stage.Settling h e = omega arith
charger_lt n (Stage.Readying i) h e = omega (arith, ltb-true i n e)
charger_lt n (Stage.Initializing i) h e = omega (arith, ltb-true i n e)
charger_lt n (Stage.Attaching i) h e = omega (arith, ltb-true i n e)

pub record Staged (a b : ℕ) (s : Stage) : Type 0 where
  pub number : a ≡ stage_byte s
  pub charger : b ≡ stage_charger s

bare_stage : (a b : ℕ) (x s : Stage) (t : Bool) → eqb b 0 ≡ t → a ≡ stage_byte x → 0 ≡ stage_charger x
    → cond t (Some x) None ≡ Some s → Staged a b s
bare_stage a b x s true e n k q =
    let m : x ≡ s = cc in
    record { number = n ∙ ap stage_byte m; charger = eqb-true b 0 e ∙ (k ∙ ap stage_charger m) }
bare_stage a b x s false e n k q = absurd (cc)

a_stage : (a b : ℕ) (x s : Stage) → a ≡ stage_byte x → b ≡ stage_charger x → Some x ≡ Some s → Staged a b s
a_stage a b x s n k q =
    let m : x ≡ s = cc in
    record { number = n ∙ ap stage_byte m; charger = k ∙ ap stage_charger m }

stage_read : (a b : ℕ) (s : Stage) → stage_from a b ≡ Some s → Staged a b s
stage_read zero b s q = bare_stage 0 b Stage.Psu s (eqb b 0) refl refl refl q
stage_read (suc zero) b s q = bare_stage 1 b Stage.Settling s (eqb b 0) refl refl refl q
stage_read (suc (suc zero)) b s q = a_stage 2 b (Stage.Readying b) s refl refl q
stage_read (suc (suc (suc zero))) b s q = a_stage 3 b (Stage.Initializing b) s refl refl q
stage_read (suc (suc (suc (suc zero)))) b s q = a_stage 4 b (Stage.Attaching b) s refl refl q
stage_read (suc (suc (suc (suc (suc a))))) b s q = absurd (cc)

-- the new consumer

new_back : (new : AvailableConsumer) → available_from (contract_of new) ≡ Some new
new_back new = ap (available_with new.psu) (consumer_back new.psu new.consumer_power_capability)

pub record Contracted (g : Group) (new : AvailableConsumer) : Type 0 where
  pub written : g ≡ contract_of new
  pub typed : capability_fits new.consumer_power_capability.capability ≡ true

new_told : (g : Group) (new : AvailableConsumer) (o : Option ConsumerPowerCapability) → consumer_from g ≡ o → GroupBytes g
    → available_with g.number o ≡ Some new → Contracted g new
new_told g new None e h q = absurd (cc)
new_told g new (Some c) e h q =
    let k : record { psu = g.number; consumer_power_capability = c } ≡ new = cc in
    subst (λ (x : AvailableConsumer). Contracted g x) k
    (record { written = consumer_written g c h.digit e; typed = fits c.capability (consumer_within g c h.digit e) })

new_read : (g : Group) (new : AvailableConsumer) → GroupBytes g → available_from g ≡ Some new → Contracted g new
new_read g new h q = new_told g new (consumer_from g) refl h q

-- reading what was written

pub phase_back : (ports chargers : ℕ) (p : Phase) → chargers ≤ 8 → phase_fits ports chargers p ≡ true
    → phase_from (standing p) ≡ Some p
phase_back ports chargers (Phase.Closed r) h e = ap closed_with (result_back r e)
phase_back ports chargers (Phase.Leaving i p f) h e = ap (leaving_with i p) (reason_read_write f)
phase_back ports chargers (Phase.Switching l old f new) h e =
    rw (
      leaver_back chargers l h (and_parts (leaver_fits chargers l) (ltb old ports && ltb new.psu ports) e).0,
      reason_read_write f,
      new_back new,
    )
phase_back ports chargers (Phase.Connecting s new) h e = rw (stage_back s, new_back new)
phase_back ports chargers (Phase.Providing p c) h e = ap (providing_with p) (provider_back p c)

pub phase_bytes_lem : (ports chargers : ℕ) (p : Phase) → ports ≤ 16 → chargers ≤ 8 → phase_fits ports chargers p ≡ true → PhaseTyped p
    → StandingBytes (standing p)
phase_bytes_lem ports chargers (Phase.Closed r) m n e t = record {
  kind = omega arith;
  a = omega (arith, answer_lt r);
  b = expected_lt (mismatch_in r) (mismatch_in_fits r e);
  c = actual_lt (mismatch_in r);
  contract = empty_bytes 0 (omega arith);
}
phase_bytes_lem ports chargers (Phase.Leaving i p f) m n e t =
    let x = ltb-true i chargers (and_parts (ltb i chargers) (ltb p ports) e).0 in
    let y = ltb-true p ports (and_parts (ltb i chargers) (ltb p ports) e).1 in
    record { kind = omega arith; a = omega arith; b = omega arith; c = reason_lt f; contract = empty_bytes 0 (omega arith) }
phase_bytes_lem ports chargers (Phase.Switching l old f new) m n e t =
    let r = (and_parts (leaver_fits chargers l) (ltb old ports && ltb new.psu ports) e).1 in
    let x = ltb-true old ports (and_parts (ltb old ports) (ltb new.psu ports) r).0 in
    let y = ltb-true new.psu ports (and_parts (ltb old ports) (ltb new.psu ports) r).1 in
    record {
      kind = omega arith;
      a = leaver_lt chargers l n (and_parts (leaver_fits chargers l) (ltb old ports && ltb new.psu ports) e).0;
      b = omega arith;
      c = reason_lt f;
      contract = consumer_bytes_lem new.psu new.consumer_power_capability (omega arith) (within new.consumer_power_capability.capability t);
    }
phase_bytes_lem ports chargers (Phase.Connecting s new) m n e t =
    let y = ltb-true new.psu ports (and_parts (stage_fits chargers s) (ltb new.psu ports) e).1 in
    record {
      kind = omega arith;
      a = stage_lt s;
      b = charger_lt chargers s n (and_parts (stage_fits chargers s) (ltb new.psu ports) e).0;
      c = omega arith;
      contract = consumer_bytes_lem new.psu new.consumer_power_capability (omega arith) (within new.consumer_power_capability.capability t);
    }
phase_bytes_lem ports chargers (Phase.Providing p c) m n e t =
    let y = ltb-true p ports e in
    record {
      kind = omega arith;
      a = omega arith;
      b = omega arith;
      c = omega arith;
      contract = provider_bytes p c (omega arith) (within c.capability t);
    }

-- what was read was written so, and is within its types
pub record Read (g : Standing) (p : Phase) : Type 0 where
  pub written : g ≡ standing p
  pub typed : PhaseTyped p

abbrev of : ℕ → ℕ → ℕ → ℕ → Group → Standing
of kind a b c contract = record { kind = kind; a = a; b = b; c = c; contract = contract }

closed_with_lem : (g : Standing) (p : Phase) (o : Option (Result (Unit {0}) Error)) → result_from g.a g.b g.c ≡ o → g.contract ≡ empty_group 0
    → closed_with o ≡ Some p → Read (of 0 g.a g.b g.c g.contract) p
closed_with_lem g p None e k q = absurd (cc)
closed_with_lem g p (Some r) e k q =
    let m : Phase.Closed r ≡ p = cc in
    let w = result_read g.a g.b g.c r e in
    let x = w.answer in
    let y = w.expected in
    let z = w.actual in
    subst (λ (v : Phase). Read (of 0 g.a g.b g.c g.contract) v) m (record { written = λ i. of 0 (x i) (y i) (z i) (k i); typed = tt })

closed_read : (g : Standing) (p : Phase) (t : Bool) → no_group g.contract ≡ t
    → cond t (closed_with (result_from g.a g.b g.c)) None ≡ Some p
    → Read (of 0 g.a g.b g.c g.contract) p
closed_read g p true e q = closed_with_lem g p (result_from g.a g.b g.c) refl (no_group_lem g.contract e) q
closed_read g p false e q = absurd (cc)

leaving_with_lem : (g : Standing) (p : Phase) (o : Option DisconnectFlags) → disconnect_from g.c ≡ o → g.contract ≡ empty_group 0
    → leaving_with g.a g.b o ≡ Some p → Read (of 1 g.a g.b g.c g.contract) p
leaving_with_lem g p None e k q = absurd (cc)
leaving_with_lem g p (Some f) e k q =
    let m : Phase.Leaving g.a g.b f ≡ p = cc in
    let z = reason_write_read g.c f e in
    subst (λ (v : Phase). Read (of 1 g.a g.b g.c g.contract) v) m (record { written = λ i. of 1 g.a g.b (z i) (k i); typed = tt })

leaving_read : (g : Standing) (p : Phase) (t : Bool) → no_group g.contract ≡ t
    → cond t (leaving_with g.a g.b (disconnect_from g.c)) None ≡ Some p
    → Read (of 1 g.a g.b g.c g.contract) p
leaving_read g p true e q = leaving_with_lem g p (disconnect_from g.c) refl (no_group_lem g.contract e) q
leaving_read g p false e q = absurd (cc)

switching_with_lem : (g : Standing) (p : Phase) (o : Option DisconnectFlags) (n : Option AvailableConsumer) → disconnect_from g.c ≡ o
    → available_from g.contract ≡ n → StandingBytes g → switching_with (leaver_from g.a) g.b o n ≡ Some p
    → Read (of 2 g.a g.b g.c g.contract) p
switching_with_lem g p None n e k h q = absurd (cc)
switching_with_lem g p (Some f) None e k h q =
    absurd (cc)
switching_with_lem g p (Some f) (Some new) e k h q =
    let m : Phase.Switching (leaver_from g.a) g.b f new ≡ p = cc in
    let x = leaver_written g.a h.a in
    let z = reason_write_read g.c f e in
    let w = new_read g.contract new h.contract k in
    let v = w.written in
    subst (λ (y : Phase). Read (of 2 g.a g.b g.c g.contract) y) m
    (record { written = λ i. of 2 (x i) g.b (z i) (v i); typed = w.typed })

connecting_with_lem : (g : Standing) (p : Phase) (o : Option Stage) (n : Option AvailableConsumer) → stage_from g.a g.b ≡ o
    → available_from g.contract ≡ n → g.c ≡ 0 → StandingBytes g → connecting_with o n ≡ Some p
    → Read (of 3 g.a g.b g.c g.contract) p
connecting_with_lem g p None n e k c h q = absurd (cc)
connecting_with_lem g p (Some s) None e k c h q =
    absurd (cc)
connecting_with_lem g p (Some s) (Some new) e k c h q =
    let m : Phase.Connecting s new ≡ p = cc in
    let r = stage_read g.a g.b s e in
    let x = r.number in
    let y = r.charger in
    let w = new_read g.contract new h.contract k in
    let v = w.written in
    subst (λ (j : Phase). Read (of 3 g.a g.b g.c g.contract) j) m
    (record { written = λ i. of 3 (x i) (y i) (c i) (v i); typed = w.typed })

connecting_read : (g : Standing) (p : Phase) (t : Bool) → eqb g.c 0 ≡ t → StandingBytes g
    → cond t (connecting_with (stage_from g.a g.b) (available_from g.contract)) None ≡ Some p
    → Read (of 3 g.a g.b g.c g.contract) p
connecting_read g p true e h q = connecting_with_lem g p (stage_from g.a g.b) (available_from g.contract) refl refl (eqb-true g.c 0 e) h q
connecting_read g p false e h q = absurd (cc)

providing_with_lem : (g : Standing) (p : Phase) (o : Option ProviderPowerCapability) → provider_from g.contract ≡ o → g.a + g.b + g.c ≡ 0
    → StandingBytes g → providing_with g.contract.number o ≡ Some p → Read (of 4 g.a g.b g.c g.contract) p
providing_with_lem g p None e k h q = absurd (cc)
providing_with_lem g p (Some c) e k h q =
    let m : Phase.Providing g.contract.number c ≡ p = cc in
    let x : g.a ≡ 0 = omega arith in
    let y : g.b ≡ 0 = omega arith in
    let z : g.c ≡ 0 = omega arith in
    let v = provider_written g.contract c h.contract.digit e in
    subst (λ (j : Phase). Read (of 4 g.a g.b g.c g.contract) j) m
    (record {
      written = λ i. of 4 (x i) (y i) (z i) (v i);
      typed = fits c.capability (provider_within g.contract c h.contract.digit e);
    })

providing_read : (g : Standing) (p : Phase) (t : Bool) → eqb (g.a + g.b + g.c) 0 ≡ t → StandingBytes g
    → cond t (providing_with g.contract.number (provider_from g.contract)) None ≡ Some p
    → Read (of 4 g.a g.b g.c g.contract) p
providing_read g p true e h q = providing_with_lem g p (provider_from g.contract) refl (eqb-true (g.a + g.b + g.c) 0 e) h q
providing_read g p false e h q = absurd (cc)

kind_read : (n : ℕ) (g : Standing) (p : Phase) → StandingBytes g → get_or (phases g) n None ≡ Some p
    → Read (of n g.a g.b g.c g.contract) p
kind_read zero g p h q = closed_read g p (no_group g.contract) refl q
kind_read (suc zero) g p h q = leaving_read g p (no_group g.contract) refl q
kind_read (suc (suc zero)) g p h q = switching_with_lem g p (disconnect_from g.c) (available_from g.contract) refl refl h q
kind_read (suc (suc (suc zero))) g p h q = connecting_read g p (eqb g.c 0) refl h q
kind_read (suc (suc (suc (suc zero)))) g p h q = providing_read g p (eqb (g.a + g.b + g.c) 0) refl h q
kind_read (suc (suc (suc (suc (suc n))))) g p h q = absurd (cc)

pub phase_read : (g : Standing) (p : Phase) → StandingBytes g → phase_from g ≡ Some p → Read g p
phase_read g p h q = kind_read g.kind g p h q
