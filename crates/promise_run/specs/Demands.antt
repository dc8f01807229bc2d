-- The demands over whole runs. 1 and 2 are of wherever a list of calls leads, refused calls included; 3 is of what the calls write. They hold
-- of every list of calls after a start (`after_start` in proofs/Linked.antt).
use Rattle.std.specs.Prelude.{ℕ, suc, ◌+◌, ◌*◌, ◌≤◌, List, ◌≡◌, length, Result}
use Rattle.power_policy_interface.specs.Psu.{answer_byte}
use Rattle.power_policy_interface.specs.declared.psu.Error.{Error}
use Rattle.interface_display.specs.Notices.{listed}
use Rattle.interface_display.specs.declared.packet.Packet.{Packet}
use Rattle.abstract_policy.specs.Action.{Held, Interaction, done, ask}
use Rattle.abstract_policy.specs.Fed.{Answers, fed_by, orders_by}
use Rattle.abstract_policy.specs.Ends.{AtMost}
use Rattle.abstract_policy.specs.Policy.{Call, Stand, between, at, Policy, order_at, started, held_at, policies}
use Rattle.abstract_policy.specs.Returns.{open_to, answer_to, packet_to, picture_to}
use Rattle.abstract_policy.specs.declared.state.Records.{Records}
use Rattle.machine_state.specs.Phase.{order_of}
use Rattle.machine_service.specs.Service.{answer_in, open_of, answer_of}
use Rattle.machine_service.specs.declared.Service.{Service}
use Rattle.machine_service.specs.Send.{packet_of, send_packet, send_picture}
use Rattle.machine_follows.specs.Machine as machine
use Rattle.machine_follows.specs.Machine.{stands_at}
use Rattle.machine_follows.specs.Served.{service_after, numbered, Stands, Opens, event_at}
use Rattle.promise_link.specs.Link.{Demand3}
use Rattle.promise_link.specs.Source.{Source}
use Rattle.promise_run.specs.Run.{HasSent, services, CallsFit}

-- DEM-1a: each event closes after at most 3 + 4 × chargers orders

-- what an event that has closed leaves: its packet, with the definition's answer, notices and number of orders, and what is held
pub record Packs (s : Service) (a : Result (Unit {0}) Error) (h : Held) (n given : ℕ) : Type 0 where
  pub number : (packet_of s).number ≡ n
  pub answer : (packet_of s).answer ≡ answer_byte a
  pub orders : (packet_of s).orders ≡ given
  pub notices : listed (packet_of s).notices ≡ h.notices
  pub held : s.memory.state ≡ h.state

-- an event that is accepted here follows the interaction for every list of answers; whatever is answered the interaction closes in time, its
-- orders are counted and bounded, and closed it leaves its packet
pub record Bounded (s : Service) : Type 0 where
  pub stands :
      (kind device detail : ℕ) (r : Records) (l : Answers) → Opens s kind device detail →
      Stands (service_after (open_of s kind device detail r).service l) s.registration
      (numbered s.number (fed_by (event_at s kind device detail r) l))
      (length (orders_by (event_at s kind device detail r) l))
      (fed_by (event_at s kind device detail r) l)
  pub closes : (kind device detail : ℕ) (r : Records) → AtMost (3 + 4 * s.registration.chargers) (event_at s kind device detail r)
  pub bound :
      (kind device detail : ℕ) (r : Records) (l : Answers) → Opens s kind device detail →
      (service_after (open_of s kind device detail r).service l).orders ≤ 3 + 4 * s.registration.chargers
  pub packs :
      (kind device detail : ℕ) (r : Records) (l : Answers) (a : Result (Unit {0}) Error) (h : Held) → Opens s kind device detail →
      fed_by (event_at s kind device detail r) l ≡ done a h →
      Packs (service_after (open_of s kind device detail r).service l) a h (suc s.number) (length (orders_by (event_at s kind device detail r) l))

-- DEM-2b: the service is where the definition is, and whatever call comes next returns what the definition says

-- what is left of an event, as a stand after n orders
abbrev pub stand_of : ℕ → Interaction → Stand
stand_of n (done a h) = between
stand_of n (ask o k) = at n o k

pub record Equal (s : Service) (p : Policy) : Type 0 where
  pub registered : s.registration ≡ p.registration
  pub number : s.number ≡ p.number
  -- between events the whole state is the definition's
  pub state : p.stand ≡ between → s.memory.state ≡ p.state
  -- and so is how the last one closed, after how many orders and with which notices
  pub answer : p.stand ≡ between → answer_in s.phase ≡ p.answer
  pub orders : p.stand ≡ between → s.orders ≡ p.orders
  pub notices : p.stand ≡ between → machine.listed s.memory.notices ≡ p.notices
  -- while one is open, the order is, with the number of orders given and with what every answer leads to
  pub order : order_of s.phase ≡ order_at p.stand
  pub stand : stand_of s.orders (stands_at s.registration s.phase s.memory) ≡ p.stand
  -- the next call, whichever it is
  pub opening : (kind device detail : ℕ) (r : Records) → (open_of s kind device detail r).step ≡ open_to p kind device detail r
  pub answering : (a : ℕ) (r : Records) → (answer_of s a r).step ≡ answer_to p.stand a r
  -- the packet's orders are the length of the definition's list of orders (abstract_policy specs/Orders.antt)
  pub packet : send_packet s ≡ packet_to p
  pub picture : send_picture s ≡ picture_to p

-- DEM-3, LNK-2: the run is a writer on the link; what is held at each number is the definition's, what is written is what the calls write
pub record OnLink (s : Service) (calls : List Call) : Type 1 where
  pub source : Source
  pub held : (n : ℕ) → source.held n ≡ held_at (started s.registration) calls n
  pub closed :
      (n : ℕ) → (source.Closed n → n ≤ (policies (started s.registration) calls).number)
      × (n ≤ (policies (started s.registration) calls).number → source.Closed n)
  pub written : (p : Packet) → (source.Written p → HasSent s calls p) × (HasSent s calls p → source.Written p)
  pub demand : Demand3 source

-- all three, of every list of calls whose records have their figures within their types
pub record Demands (s : Service) : Type 1 where
  pub demand_1 : (calls : List Call) → CallsFit calls → Bounded (services s calls)
  pub demand_2 : (calls : List Call) → CallsFit calls → Equal (services s calls) (policies (started s.registration) calls)
  pub demand_3 : (calls : List Call) → CallsFit calls → OnLink s calls
