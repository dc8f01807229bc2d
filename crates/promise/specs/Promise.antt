-- All that is promised of the exported functions, of any such functions f: in the words of the definition, of the bytes lent and of the numbers returned. An
-- image is whatever f's start left, threaded through calls. What its bytes are is f's own, and so is what a call does with bytes of an image's length that no
-- start left; of ours that is in Layout.antt, where 21 is exact.
-- Ours keep it (proofs/Promised.antt), and only one behaviour does (Same.antt, proofs/OnlyOne.antt). The whole claim is Claim.antt: beside Promise and Meaning
-- the bytes themselves (Layout.antt), the public documents, and the programs that do not keep it (Testers.antt).
--
-- To read what is cited, in this order; 2,059 lines, none of them the machine's (tests/reach.py):
--   promise      here, then Runs.antt: what the link hands over and what is shown
--   calls        abstract_calls specs/Functions.antt, ServiceCall.antt, DeskCall.antt (each call, of any program and of the definition), Calls.antt, Definition.antt
--   run          abstract_policy specs/Policy.antt, Returns.antt, Orders.antt, Given.antt
--   event        abstract_policy specs/Action.antt, Interaction.antt, State.antt, to be laid beside the Rust
--   choice, grant, configuration
--                power_policy_service specs/Consumer.antt, Choice.antt, Provider.antt, Config.antt, Rows.antt; abstract_policy specs/Chosen.antt, Ends.antt
--   refusals     abstract_policy specs/Refusals.antt
--   numbers      abstract_calls specs/Numbers.antt, OneToOne.antt, Called.antt, Lent.antt
--   packets      wire specs/Number.antt, Parser.antt, Packet.antt, Bytes.antt, Read.antt; wire_writer specs/; interface_display specs/; interface_records specs/; power_policy_interface specs/
--   follower     abstract_desk specs/Follower.antt, Takes.antt
--   page         abstract_page specs/Page.antt, Text.antt, ReadPage.antt
--   link         `Link`, below
use Rattle.std.specs.Prelude.{ℕ, ◌+◌, ◌*◌, ◌%◌, ◌≤◌, false, cond, List, [], ◌∷◌, ◌++◌, ◌⊎◌, ◌↔◌, ◌≡◌, eqb, length, Ok, Some}
use Rattle.power_policy_interface.specs.Limits.{max_notices, window, service_length, follower_length}
use Rattle.interface_records.specs.Row.{AllBytes}
use Rattle.interface_display.specs.Notices.{listed}
use Rattle.interface_display.specs.declared.packet.EventPacket.{EventPacket}
use Rattle.interface_display.specs.declared.packet.Packet.{Packet}
use Rattle.interface_display.specs.declared.packet.Picture.{Picture}
use Rattle.power_policy_service.specs.declared.config.Config.{Config}
use Rattle.abstract_policy.specs.Refusals.{first_refused, First}
use Rattle.abstract_policy.specs.Chosen.{Choices}
use Rattle.abstract_policy.specs.Orders.{orders_of, Counted}
use Rattle.abstract_policy.specs.Policy.{between, started}
use Rattle.abstract_policy.specs.Returns.{packet_to, picture_to}
use Rattle.abstract_policy.specs.declared.state.Registration.{Registration}
use Rattle.wire.specs.Read.{read_packet}
use Rattle.abstract_page.specs.Page.{entries_of}
use Rattle.abstract_calls.specs.Numbers.{refused_number, done_number}
use Rattle.abstract_calls.specs.OneToOne.{AnswerFits, DisplayFits}
use Rattle.abstract_calls.specs.ServiceCall.{ByteCall, write_packet, write_picture}
use Rattle.abstract_calls.specs.Calls.{buffer_in, CallsBytes, image_after, returned, buffer_after, images, Writes, desk_after, desk_returned, desk_buffer_in, desk_buffer_after, desk, packets_of, DeskBytes}
use Rattle.abstract_calls.specs.DeskCall.{DeskCall, take_packet}
use Rattle.abstract_calls.specs.Functions.{Functions, Arguments, config_of}
use Rattle.abstract_calls.specs.Definition.{calls_of, defined, held, Closes, OrderFitsAt, return_to, buffer_to, conditions_to, start_conditions, Refuses, followed, desk_return_to, desk_buffer_to, desk_conditions_to}
use Rattle.promise.specs.Runs.{PictureOf, Handed, AllHanded, Comes, NothingAbove, NoEventAbove, Says, Lost, Shows}

-- 0: done; else the number that turns it back
abbrev pub done_or : ℕ → ℕ
done_or n = cond (eqb n 0) done_number (refused_number n)

-- the first condition of a start that holds, 20 or 21; 0 if none does
abbrev pub start_refused : List ℕ → Arguments → ℕ
start_refused image a = first_refused (start_conditions image (config_of a) a.ports a.chargers)

abbrev pub registers : Arguments → Config → Registration
registers a c = record { config = c; ports = a.ports; chargers = a.chargers }

-- DEM-3d, LNK-1: of the run of these calls and of the desk's calls from a fresh follower on, whose image is kept at x: in any list of them each packet handed over
-- (`packets_of`) is a copy of what the run wrote, or bytes that are turned back.
pub record Link (f : Functions) (image : List ℕ) (g : Registration) (calls : List ByteCall) (x : List ℕ) : Type 0 where
  -- DEM-3a: the follower says lost, or shows an n with exactly the consumer, both unconstrained figures and tracked ports held when event n closed (0: the start).
  pub never_wrong :
      (l : List DeskCall) → AllHanded f image g calls (packets_of l) →
      Lost f (desk f x l) ⊎ ((n : ℕ) × (n ≤ (defined g calls).number) × Shows f (desk f x l) n (held g calls n))
  -- DEM-3b: if it shows n and then each event packet n + 1 to n + k comes, in any order, k ≤ 8, all without error, and nothing above n + k anywhere among
  -- the takes, it shows n + k.
  pub follows :
      (before later : List DeskCall) (n k : ℕ) → AllHanded f image g calls (packets_of (before ++ later)) → Shows f (desk f x before) n (held g calls n) → k ≤ window →
      Comes f image g calls n k (packets_of later) → NothingAbove f image g calls (n + k) (packets_of (before ++ later)) →
      Shows f (desk f x (before ++ later)) (n + k) (held g calls (n + k))
  -- DEM-3c: lost, it shows a picture exactly when that is numbered no lower than every event packet met before.
  pub recovers :
      (before : List DeskCall) (n : ℕ) (y : List ℕ) → AllHanded f image g calls (packets_of before) → PictureOf f image g calls n y → Lost f (desk f x before) →
      Shows f (desk f x (before ++ (take_packet y ∷ []))) n (held g calls n) ↔ NoEventAbove f image g calls n (packets_of before)
  -- Whatever else is handed to it, a picture that is too low too, it stays lost.
  pub stays_lost :
      (before : List DeskCall) (y : List ℕ) → AllHanded f image g calls (packets_of before) → Handed f image g calls y → Lost f (desk f x before) →
      ((n : ℕ) → PictureOf f image g calls n y → NoEventAbove f image g calls n (packets_of before) → ⊥) →
      Lost f (desk f x (before ++ (take_packet y ∷ [])))

-- DEM-1 and DEM-2, of what a start left, g registered: every list of calls after it, refused ones included. That an event ends in time is of the
-- definition, which these calls follow (Meaning, below).
pub record Serves (f : Functions) (image : List ℕ) (g : Registration) : Type 0 where
  -- DEM-1b: a call is refused only on a condition, by the first number that applies,
  pub refuses : (l : List ByteCall) (c : ByteCall) → CallsBytes l → Refuses (conditions_to (defined g l) c) (returned f (images f image l) c)
  -- DEM-1c: and then (low byte 0) leaves state and lent buffer unchanged.
  pub turned_back :
      (l : List ByteCall) (c : ByteCall) → CallsBytes l → returned f (images f image l) c % 256 ≡ 0 →
      (image_after f (images f image l) c ≡ images f image l) × (buffer_after f (images f image l) c ≡ buffer_in c)
  -- DEM-2b: the same orders and errors for every event and every device answer: whatever call comes next returns what the definition says,
  pub returns : (l : List ByteCall) (c : ByteCall) → CallsBytes l → returned f (images f image l) c ≡ return_to (defined g l) c
  -- and writes it: the notices, and the state that is held but for the power state, which no function tells (Layout.antt has it of ours).
  pub buffers : (l : List ByteCall) (c : ByteCall) → CallsBytes l → buffer_after f (images f image l) c ≡ buffer_to (defined g l) c
  -- PKT-2: a packet written is that event's,
  pub packet_read :
      (l : List ByteCall) (buffer y : List ℕ) → CallsBytes l → Writes f (images f image l) (write_packet buffer) y →
      (e : EventPacket) × (packet_to (defined g l) ≡ Ok e) × (read_packet y ≡ Ok (Packet.Event e))
  -- a picture what is held at that number: both are read.
  pub picture_read :
      (l : List ByteCall) (buffer y : List ℕ) → CallsBytes l → Writes f (images f image l) (write_picture buffer) y →
      (v : Picture) × (picture_to (defined g l) ≡ Ok v) × (read_packet y ≡ Ok (Packet.Picture v))
  -- An image stays so many bytes, so that it can be started anew.
  pub size : (l : List ByteCall) → CallsBytes l → length (images f image l) ≡ service_length
  pub bytes : (l : List ByteCall) → CallsBytes l → AllBytes (images f image l)
  -- DEM-3: what the desk shows of these calls.
  pub link : (calls : List ByteCall) → CallsBytes calls → (x : List ℕ) → length x ≡ follower_length → Link f image g calls x

-- A start, whatever its arguments.
pub record Starts (f : Functions) (image : List ℕ) (a : Arguments) : Type 0 where
  -- It is refused only on a condition, by the first number that applies, else done;
  pub first : First (start_conditions image (config_of a) a.ports a.chargers) (start_refused image a)
  pub number : (f.start image a).number ≡ done_or (start_refused image a)
  -- refused, it leaves the bytes unchanged;
  pub turned_back : (start_refused image a ≡ 0 → ⊥) → (f.start image a).bytes ≡ image
  -- done, the demands hold of what it left, whatever the bytes were before.
  pub serves : start_refused image a ≡ 0 → (c : Config) → config_of a ≡ Some c → Serves f (f.start image a).bytes (registers a c)

-- The desk, whatever bytes have been taken and are: every list of its calls, refused ones included, is as the abstract follower has it.
pub record Follows (f : Functions) (x : List ℕ) : Type 0 where
  -- FOL-1: a fresh follower is lost.
  pub fresh_lost : Lost f (desk f x [])
  -- A call is refused only on a condition, by the first number that applies (a packet by the first of 30 to 33 from the left),
  pub refuses : (l : List DeskCall) (c : DeskCall) → DeskBytes l → Refuses (desk_conditions_to (followed l) c) (desk_returned f (desk f x l) c)
  -- and then (low byte 0) leaves follower and lent buffer unchanged.
  pub turned_back :
      (l : List DeskCall) (c : DeskCall) → DeskBytes l → desk_returned f (desk f x l) c % 256 ≡ 0 →
      (desk_after f (desk f x l) c ≡ desk f x l) × (desk_buffer_after f (desk f x l) c ≡ desk_buffer_in c)
  -- The readers tell lost, or the number, level or waiting, both figures, the consumer and the tracked ports of the follower after these calls,
  pub returns : (l : List DeskCall) (c : DeskCall) → DeskBytes l → desk_returned f (desk f x l) c ≡ desk_return_to (followed l) c
  -- and what is written is of it: S1-6, every byte of the page is fixed by the follower, and later bytes stay.
  pub buffers : (l : List DeskCall) (c : DeskCall) → DeskBytes l → desk_buffer_after f (desk f x l) c ≡ desk_buffer_to (followed l) c
  -- S1-7: figures and names can be read back from the page.
  pub page : (l : List DeskCall) → DeskBytes l → Says f (desk f x l) (entries_of (followed l))
  -- An image stays so many bytes.
  pub size : (l : List DeskCall) → DeskBytes l → length (desk f x l) ≡ follower_length
  pub bytes : (l : List DeskCall) → DeskBytes l → AllBytes (desk f x l)

-- A follower's start, whatever bytes it is lent.
pub record FollowerStarts (f : Functions) (x : List ℕ) : Type 0 where
  -- 21 for bytes of another length than an image's, which stay; else done, and then the desk.
  pub number : (f.follower_start x).number ≡ cond (eqb (length x) follower_length) done_number (refused_number 21)
  pub turned_back : eqb (length x) follower_length ≡ false → (f.follower_start x).bytes ≡ x
  pub follows : length x ≡ follower_length → Follows f x

-- Bytes of another length than an image's are refused by 21, whatever the call, and stay.
pub record OtherLength (f : Functions) : Type 0 where
  pub service :
      (b : List ℕ) (c : ByteCall) → eqb (length b) service_length ≡ false →
      (returned f b c ≡ refused_number 21) × (image_after f b c ≡ b) × (buffer_after f b c ≡ buffer_in c)
  pub desk :
      (b : List ℕ) (c : DeskCall) → eqb (length b) follower_length ≡ false →
      (desk_returned f b c ≡ refused_number 21) × (desk_after f b c ≡ b) × (desk_buffer_after f b c ≡ desk_buffer_in c)

pub record Promise (f : Functions) : Type 0 where
  pub start : (image : List ℕ) (a : Arguments) → Starts f image a
  pub follower_start : (x : List ℕ) → FollowerStarts f x
  pub other_length : OtherLength f

-- What the definition's words come to, of any g that a start accepts; no function is named here.
pub record Meaning (g : Registration) : Type 0 where
  -- DEM-1a: every accepted event closes after at most 3 + 4 × chargers device orders,
  pub bound : (l : List ByteCall) → CallsBytes l → length (orders_of (started g) [] (calls_of (started g) l)) ≤ 3 + 4 * g.chargers
  -- whatever the devices answer.
  pub closes : (l : List ByteCall) → CallsBytes l → Closes g.chargers (defined g l).stand
  -- PKT-9: the packet, and the close of a PSU event that a call returns, carry the number of orders given, equal to the length of the definition's list.
  pub counted : (l : List ByteCall) → Counted (defined g l).stand (defined g l).orders (orders_of (started g) [] (calls_of (started g) l))
  -- PKT-8: the notices of the packet are the definition's, whole, 0 to 4.
  pub notices :
      (l : List ByteCall) (e : EventPacket) → CallsBytes l → packet_to (defined g l) ≡ Ok e →
      (listed e.notices ≡ (defined g l).notices) × (length (defined g l).notices ≤ max_notices)
  -- DEM-2c: the chosen consumer is none if no port is eligible, else the earliest with most milliwatts, the current one winning ties; and it is held when the
  -- event has closed without error.
  pub choice : Choices g
  -- What is ordered, answered and held is in range.
  pub orders_fit : (l : List ByteCall) → CallsBytes l → OrderFitsAt (defined g l).stand
  pub answers_fit : (l : List ByteCall) → CallsBytes l → (defined g l).stand ≡ between → AnswerFits (defined g l).answer
  pub held_fits : (l : List ByteCall) (n : ℕ) → CallsBytes l → DisplayFits (held g l n)
