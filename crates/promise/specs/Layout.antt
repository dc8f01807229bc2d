-- SHP-11: what is promised of the bytes themselves: one encoding of each value, so that accepted
-- bytes are those written; 21 exactly where bytes are no image; the program `follow`; the edges.
use Rattle.std.specs.Prelude.{ℕ, ◌+◌, ◌*◌, ◌-◌, ◌%◌, ◌≤◌, true, ◌↔◌, ◌≡◌, length, drop, None, Ok, Some}
use mathlib.Core.List.{List, ◌++◌, flatten}
use Rattle.power_policy_interface.specs.Limits.{largest, follower_length, buffer_length}
use Rattle.power_policy_interface.specs.declared.charger.State as charger
use Rattle.power_policy_interface.specs.declared.psu.State as psu
use Rattle.interface_records.specs.Row.{AllBytes}
use Rattle.interface_records.specs.Charger.{charger_from, charger_bytes}
use Rattle.interface_records.specs.Psu.{psu_from, psu_bytes}
use Rattle.interface_display.specs.declared.packet.Packet.{Packet}
use Rattle.power_policy_service.specs.declared.config.Config.{Config}
use Rattle.abstract_policy.specs.Ends.{AtMost}
use Rattle.machine_service.specs.declared.Service.{Service}
use Rattle.machine_follows.specs.Machine.{stands_at}
use Rattle.wire.specs.Bytes.{packet_bytes}
use Rattle.wire.specs.Number.{leb128, read_number}
use Rattle.wire.specs.Read.{read_packet}
use Rattle.wire.specs.WellFormed as wire
use Rattle.desk_follower.specs.declared.Follower.{Follower}
use Rattle.desk_report.specs.Desk.{follow}
use Rattle.desk_report.specs.Reads.{run, ended}
use Rattle.desk_report.specs.Sheet.{sheet_told, sheet_shows, sheet_run}
use Rattle.abstract_page.specs.Page.{entries_of, page_of}
use Rattle.promise_link.specs.Alike.{seen}
use Rattle.promise_link.specs.Link.{follower_after}
use Rattle.promise_edges.specs.Edges.{Edges}
use Rattle.promise_run.specs.Demands.{Equal}
use Rattle.abstract_calls.specs.Called.{refused_call}
use Rattle.abstract_calls.specs.Lent.{page_call}
use Rattle.abstract_calls.specs.Numbers.{refused_number}
use Rattle.abstract_calls.specs.OneToOne.{OneToOne}
use Rattle.abstract_calls.specs.ServiceCall.{ByteCall}
use Rattle.abstract_calls.specs.Calls.{buffer_in, CallsBytes, image_after, returned, buffer_after, images, desk_after, desk_returned, desk_buffer_in, desk_buffer_after, desk, packets_of, DeskBytes}
use Rattle.abstract_calls.specs.DeskCall.{DeskCall, shown_by, consumer_by, tracked_by}
use Rattle.abstract_calls.specs.Functions.{Arguments, config_of}
use Rattle.abstract_calls.specs.Definition.{defined, Refuses}
use Rattle.bytes_service_image.specs.Image.{service_bytes, service_from}
use Rattle.bytes_service_image.specs.Typed.{Typed}
use Rattle.bytes_service_image.specs.WellFormed.{well_formed}
use Rattle.bytes_follower_image.specs.Fits.{image_fits}
use Rattle.bytes_follower_image.specs.Image.{follower_bytes, follower_from}
use Rattle.bytes_calls.specs.Calls.{taken_call}
use Rattle.abi_functions.specs.Ours.{functions}
use Rattle.promise_calls.specs.Refused.{conditions, desk_conditions}
use Rattle.promise.specs.Promise.{start_refused, registers}
use Rattle.promise.specs.Runs.{Says}

pub record Layout : Type 0 where
  -- REF-21 is exact: bytes are read as a service, or as a follower, exactly if it is well formed and they are its image.
  pub service_image :
      (b : List ℕ) (s : Service) → AllBytes b → (service_from b ≡ Some s) ↔ ((service_bytes s ≡ b) × (Typed s × (well_formed s ≡ true)))
  pub follower_image :
      (b : List ℕ) (f : Follower) → AllBytes b → (follower_from b ≡ Some f) ↔ ((follower_bytes f ≡ b) × (image_fits f ≡ true))
  -- After a start that is accepted and any calls the image is that of a service that stands where the definition stands (`Equal`): its number, order or answer,
  -- orders and notices, and between events the whole state, the power state too.
  pub holds :
      (image : List ℕ) (a : Arguments) → start_refused image a ≡ 0 → (c : Config) → config_of a ≡ Some c → (l : List ByteCall) → CallsBytes l →
      (s : Service) × (service_from (images functions (functions.start image a).bytes l) ≡ Some s) × Equal s (defined (registers a c) l)
  -- Likewise a follower's, after its start and any calls.
  pub follower_holds :
      (x : List ℕ) (l : List DeskCall) → length x ≡ follower_length → DeskBytes l →
      follower_from (desk functions x l) ≡ Some (follower_after (packets_of l))
  -- No image that is accepted, reached or not, passes the bound on orders.
  pub bounded :
      (b : List ℕ) (s : Service) → AllBytes b → service_from b ≡ Some s →
      (s.orders ≤ 3 + 4 * s.registration.chargers)
      × AtMost (4 + 4 * s.registration.chargers - s.orders) (stands_at s.registration s.phase s.memory)
  -- The desk's calls on any bytes: refused by the first number that applies, 21 before all others,
  pub desk_refuses : (b : List ℕ) (c : DeskCall) → Refuses (desk_conditions b c) (desk_returned functions b c)
  -- and then every byte stays.
  pub desk_turned_back :
      (b : List ℕ) (c : DeskCall) → desk_returned functions b c % 256 ≡ 0 → (desk_after functions b c ≡ b) × (desk_buffer_after functions b c ≡ desk_buffer_in c)
  -- 21 where they are no image.
  pub no_follower :
      (b y : List ℕ) → follower_from b ≡ None →
      (functions.take b y ≡ refused_call 21 b)
      × ((functions.shown b ≡ refused_number 21)
      × ((functions.consumer b ≡ refused_number 21) × ((functions.tracked b ≡ refused_number 21) × (functions.write_page b y ≡ refused_call 21 y))))
  pub takes_on_lem :
      (b y : List ℕ) (f : Follower) → follower_from b ≡ Some f → functions.take b y ≡ taken_call b f (read_packet y)
  -- On an image, reached or not, a take does what desk_follower's does (above), the readers and the page tell the abstract follower that it is the image of.
  pub readers_on :
      (b : List ℕ) (f : Follower) → AllBytes b → follower_from b ≡ Some f →
      (functions.shown b ≡ shown_by (seen f)) × (functions.consumer b ≡ consumer_by (seen f)) × (functions.tracked b ≡ tracked_by (seen f))
  pub page_on :
      (b buffer : List ℕ) (f : Follower) → AllBytes b → follower_from b ≡ Some f → functions.write_page b buffer ≡ page_call (page_of (seen f)) buffer
  -- S1-7: the page of every image that is accepted, reached or not, is read as what its follower shows.
  pub page_read : (b : List ℕ) (f : Follower) → AllBytes b → follower_from b ≡ Some f → Says functions b (entries_of (seen f))
  -- On any bytes a call of the service is refused by the first number that applies, 21 before all others,
  pub refuses : (b : List ℕ) (c : ByteCall) → Refuses (conditions b c) (returned functions b c)
  -- and then leaves every byte.
  pub turned_back : (b : List ℕ) (c : ByteCall) → returned functions b c % 256 ≡ 0 → (image_after functions b c ≡ b) × (buffer_after functions b c ≡ buffer_in c)
  -- Bytes are read as a packet or picture exactly if it is well formed and they are its bytes, which are at most 64.
  pub packet : (y : List ℕ) (p : Packet) → AllBytes y → (read_packet y ≡ Ok p) ↔ ((y ≡ packet_bytes p) × (wire.well_formed p ≡ true))
  pub packet_length : (p : Packet) → wire.well_formed p ≡ true → length (packet_bytes p) ≤ buffer_length
  -- A number is read from its groups of seven bits, in shortest form, and from nothing else.
  pub number_back : (limit n : ℕ) (r : List ℕ) → n ≤ limit → n ≤ largest → read_number limit (leb128 n ++ r) ≡ Ok (n, length (leb128 n))
  pub number_bytes : (limit : ℕ) (y : List ℕ) (n u : ℕ) → AllBytes y → read_number limit y ≡ Ok (n, u) → y ≡ leb128 n ++ drop u y
  -- Bytes are read as a record exactly if they are its bytes.
  pub psu_record : (b : List ℕ) (s : psu.State) → AllBytes b → (psu_from b ≡ Some s) ↔ (b ≡ psu_bytes s)
  pub charger_record : (b : List ℕ) (s : charger.State) → AllBytes b → (charger_from b ≡ Some s) ↔ (b ≡ charger_bytes s)
  -- Results tell what was packed into them.
  pub results : OneToOne
  -- What `follow` hands to the system to write is its definition of the whole input, however the reads cut that.
  pub follow_writes : (l : List (List ℕ)) → run l ≡ follow (flatten l)
  -- S1-10, S1-11: what `sheet` tells, and the follower whose page it writes, are those of the whole input, however the reads cut that.
  pub sheet_tells : (l : List (List ℕ)) → ended (sheet_run l) ≡ sheet_told (flatten l)
  pub sheet_shows_lem : (l : List (List ℕ)) → (sheet_run l).desk.follower ≡ sheet_shows (flatten l)
  -- P1 to P12.
  pub edges : Edges
