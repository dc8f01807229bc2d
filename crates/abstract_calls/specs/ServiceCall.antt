-- Each call on a service's image, as one record: what it is of any functions, and what the definition says of it. A call that is added has its record here, its
-- function in `Functions` and its case in `ByteCall` and `service_call`.
use Rattle.std.specs.Prelude.{ℕ, Bool, cond, List, [], ◌∷◌, ◌++◌, ltb, length, None, Option, Some, is_none}
use Rattle.power_policy_interface.specs.Limits.{buffer_length}
use Rattle.abstract_policy.specs.Policy as policy
use Rattle.abstract_policy.specs.Policy.{Call, Policy, Stand, between, at, order_at, is_at}
use Rattle.abstract_policy.specs.Refusals.{open_conditions, answer_conditions, packet_conditions, picture_conditions}
use Rattle.abstract_policy.specs.Returns.{open_to, answer_to, packet_to, picture_to}
use Rattle.abstract_policy.specs.declared.state.Records.{Records}
use Rattle.abstract_policy.specs.declared.state.Registration.{Registration}
use Rattle.abstract_calls.specs.Functions.{Functions}
use Rattle.abstract_calls.specs.Lent.{rows_in, packet_call, picture_call}
use Rattle.abstract_calls.specs.Numbers.{refused_number, order_number, closed_number, step_number}

pub record ServiceCall : Type 0 where
  -- of any functions: the image after it, what it returns, and the lent buffer before and after
  pub image : Functions → List ℕ → List ℕ
  pub number : Functions → List ℕ → ℕ
  pub buffer : List ℕ
  pub buffer_after : Functions → List ℕ → List ℕ
  -- the ports' records that it is lent; the theorems ask that they are bytes, and hold whatever numbers the chargers' are
  pub records : List ℕ
  -- of the definition, where that stands: what turns the call back (21 never applies to what a start has left), the calls by value that it comes to (none where 22
  -- or 29 turns it back, or where it changes and writes nothing), what it returns, and what it leaves in its buffer
  pub conditions : Policy → List (Bool × ℕ)
  pub calls : Policy → List Call
  pub returns : Policy → ℕ
  pub leaves : Policy → List ℕ

-- events and answers

-- REF-22: records of wrong length or with a field out of range
abbrev pub wrong_rows : Registration → List ℕ → List ℕ → Bool × ℕ
wrong_rows g psus chargers = (is_none (rows_in g psus chargers), 22)

abbrev pub on_rows : Option Records → (Records → Call) → List Call
on_rows None f = []
on_rows (Some r) f = f r ∷ []

abbrev pub rows_to : Option Records → (Records → ℕ) → ℕ
rows_to None f = refused_number 22
rows_to (Some r) f = f r

abbrev pub opening : List ℕ → List ℕ → ℕ → ℕ → ℕ → ServiceCall
opening psus chargers kind device detail = record {
  image = λ f b. (f.open_event b psus chargers kind device detail).bytes;
  number = λ f b. (f.open_event b psus chargers kind device detail).number;
  buffer = [];
  buffer_after = λ f b. [];
  records = psus;
  conditions = λ p.
      wrong_rows p.registration psus chargers
      ∷ open_conditions p.registration.ports p.registration.chargers (is_at p.stand) p.number kind device detail;
  calls = λ p. on_rows (rows_in p.registration psus chargers) (λ r. policy.open_event kind device detail r);
  returns = λ p. rows_to (rows_in p.registration psus chargers) (λ r. step_number (open_to p kind device detail r));
  leaves = λ p. [];
}

abbrev pub answering : List ℕ → List ℕ → ℕ → ServiceCall
answering psus chargers a = record {
  image = λ f b. (f.answer b psus chargers a).bytes;
  number = λ f b. (f.answer b psus chargers a).number;
  buffer = [];
  buffer_after = λ f b. [];
  records = psus;
  conditions = λ p. wrong_rows p.registration psus chargers ∷ answer_conditions (order_at p.stand) a;
  calls = λ p. on_rows (rows_in p.registration psus chargers) (λ r. policy.give_answer a r);
  returns = λ p. rows_to (rows_in p.registration psus chargers) (λ r. step_number (answer_to p.stand a r));
  leaves = λ p. [];
}

-- the open order, or how the last event closed

abbrev pub stand_to : Stand → Policy → ℕ
stand_to between p = closed_number p.answer p.orders
stand_to (at n o k) p = order_number o

abbrev pub order_reading : ServiceCall
order_reading = record {
  image = λ f b. b;
  number = λ f b. f.order b;
  buffer = [];
  buffer_after = λ f b. [];
  records = [];
  conditions = λ p. [];
  calls = λ p. [];
  returns = λ p. stand_to p.stand p;
  leaves = λ p. [];
}

-- packets and pictures

-- REF-29: buffer under 64 bytes
abbrev pub short : List ℕ → List (Bool × ℕ)
short buffer = (ltb (length buffer) buffer_length, 29) ∷ []

abbrev pub in_buffer : List ℕ → Call → List Call
in_buffer buffer c = cond (ltb (length buffer) buffer_length) [] (c ∷ [])

abbrev pub packet_writing : List ℕ → ServiceCall
packet_writing buffer = record {
  image = λ f b. b;
  number = λ f b. (f.write_packet b buffer).number;
  buffer = buffer;
  buffer_after = λ f b. (f.write_packet b buffer).bytes;
  records = [];
  conditions = λ p. packet_conditions (is_at p.stand) p.number ++ short buffer;
  calls = λ p. in_buffer buffer policy.write_packet;
  returns = λ p. (packet_call (packet_to p) buffer).number;
  leaves = λ p. (packet_call (packet_to p) buffer).bytes;
}

abbrev pub picture_writing : List ℕ → ServiceCall
picture_writing buffer = record {
  image = λ f b. b;
  number = λ f b. (f.write_picture b buffer).number;
  buffer = buffer;
  buffer_after = λ f b. (f.write_picture b buffer).bytes;
  records = [];
  conditions = λ p. picture_conditions (is_at p.stand) ++ short buffer;
  calls = λ p. in_buffer buffer policy.write_picture;
  returns = λ p. (picture_call (picture_to p) buffer).number;
  leaves = λ p. (picture_call (picture_to p) buffer).bytes;
}

-- a call on a service's image, with all its arguments: records as bytes, a buffer as it is lent
pub data ByteCall : Type 0 where
  open_event : List ℕ → List ℕ → ℕ → ℕ → ℕ → ByteCall
  give_answer : List ℕ → List ℕ → ℕ → ByteCall
  read_order : ByteCall
  write_packet write_picture : List ℕ → ByteCall

abbrev pub service_call : ByteCall → ServiceCall
service_call (open_event psus chargers kind device detail) = opening psus chargers kind device detail
service_call (give_answer psus chargers a) = answering psus chargers a
service_call read_order = order_reading
service_call (write_packet buffer) = packet_writing buffer
service_call (write_picture buffer) = picture_writing buffer
