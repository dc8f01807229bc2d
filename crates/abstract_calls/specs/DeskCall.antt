-- Each call on a follower's image, as one record: what it is of any functions, and what the abstract follower says of it.
use Rattle.std.specs.Prelude.{ℕ, Bool, false, List, [], ◌∷◌, eqb, ltb, length, Err, None, Ok, Result}
use Rattle.power_policy_interface.specs.Limits.{page_length}
use Rattle.interface_display.specs.Providers.{none}
use Rattle.interface_display.specs.declared.packet.Packet.{Packet}
use Rattle.wire.specs.Read.{read_packet}
use Rattle.abstract_desk.specs.Follower.{Follower, lost, showing, state}
use Rattle.abstract_calls.specs.Functions.{Functions}
use Rattle.abstract_page.specs.Page.{page_of}
use Rattle.abstract_calls.specs.Lent.{take_to, page_call}
use Rattle.abstract_calls.specs.Numbers.{lost_number, shown_number, consumer_number, tracked_number}

pub record FollowerCall : Type 0 where
  -- of any functions: the image after it, what it returns, and the lent buffer before and after
  pub image : Functions → List ℕ → List ℕ
  pub number : Functions → List ℕ → ℕ
  pub buffer : List ℕ
  pub buffer_after : Functions → List ℕ → List ℕ
  -- the packets that it hands to the follower, in their order
  pub packets : List (List ℕ)
  -- of the definition, of the follower that it finds: what turns it back (21 never applies to what a start has left), what it returns and leaves in its buffer
  pub conditions : Follower → List (Bool × ℕ)
  pub returns : Follower → ℕ
  pub leaves : Follower → List ℕ

-- a take

-- REF-3: the reader has met this first, from the left
abbrev pub met_first : ℕ → Result Packet ℕ → Bool
met_first n (Err m) = eqb m n
met_first n (Ok p) = false

abbrev pub read_conditions : Result Packet ℕ → List (Bool × ℕ)
read_conditions r = (met_first 30 r, 30) ∷ (met_first 31 r, 31) ∷ (met_first 32 r, 32) ∷ (met_first 33 r, 33) ∷ []

abbrev pub taking : List ℕ → FollowerCall
taking y = record {
  image = λ f b. (f.take b y).bytes;
  number = λ f b. (f.take b y).number;
  buffer = [];
  buffer_after = λ f b. [];
  packets = y ∷ [];
  conditions = λ p. read_conditions (read_packet y);
  returns = λ p. take_to (read_packet y);
  leaves = λ p. [];
}

-- the readers

abbrev pub shown_by : Follower → ℕ
shown_by (lost floor) = lost_number
shown_by (showing n d l) = shown_number (state (showing n d l)) n d

abbrev pub consumer_by : Follower → ℕ
consumer_by (lost floor) = consumer_number None
consumer_by (showing n d l) = consumer_number d.consumer

abbrev pub tracked_by : Follower → ℕ
tracked_by (lost floor) = tracked_number none
tracked_by (showing n d l) = tracked_number d.providers

-- it reads, and tells this
abbrev pub reading : (Functions → List ℕ → ℕ) → (Follower → ℕ) → FollowerCall
reading number returns = record {
  image = λ f b. b;
  number = number;
  buffer = [];
  buffer_after = λ f b. [];
  packets = [];
  conditions = λ p. [];
  returns = returns;
  leaves = λ p. [];
}

-- REF-34, S1-8: a page is wanted, and the buffer is under 246 bytes
abbrev pub page_conditions : List ℕ → List (Bool × ℕ)
page_conditions buffer = (ltb (length buffer) page_length, 34) ∷ []

-- it writes the page into a buffer
abbrev pub writing : List ℕ → FollowerCall
writing buffer = record {
  image = λ f b. b;
  number = λ f b. (f.write_page b buffer).number;
  buffer = buffer;
  buffer_after = λ f b. (f.write_page b buffer).bytes;
  packets = [];
  conditions = λ p. page_conditions buffer;
  returns = λ p. (page_call (page_of p) buffer).number;
  leaves = λ p. (page_call (page_of p) buffer).bytes;
}

-- a call on a follower's image, with all its arguments
pub data DeskCall : Type 0 where
  take_packet : List ℕ → DeskCall
  read_shown read_consumer read_tracked : DeskCall
  write_page : List ℕ → DeskCall

abbrev pub desk_call : DeskCall → FollowerCall
desk_call (take_packet y) = taking y
desk_call read_shown = reading (λ f b. f.shown b) shown_by
desk_call read_consumer = reading (λ f b. f.consumer b) consumer_by
desk_call read_tracked = reading (λ f b. f.tracked b) tracked_by
desk_call (write_page buffer) = writing buffer
