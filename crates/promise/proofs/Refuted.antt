-- The second programs are refuted by computed runs: what the definition says there is a number or bytes, and theirs are others.
use Rattle.std.specs.Prelude.{Ok}
use mathlib.Core.Path.{◌≡◌, refl, sym, ap, ◌∙◌, subst}
use mathlib.Core.Bool.{Bool, true, ◌&&◌}
use mathlib.Core.List.{List, [], ◌∷◌, ◌++◌}
use mathlib.Core.Logic.{◌⊎◌, inl, inr}
use Prim.Native.Nat.{ℕ, zero, suc, ◌/◌, ◌%◌}
use native.Mathlib.Omega.{arith}
use lib.Dec.{ltb}
use borrow.Author.Tests.{ltb-true}
use lib.ListN.{length, replicate, take, get_or, set}
use Rattle.power_policy_interface.specs.Limits.{service_length, follower_length}
use Rattle.std.proofs.lemmas.Bool.{and_parts}
use Rattle.interface_records.specs.Row.{AllBytes}
use Rattle.interface_display.specs.declared.packet.EventPacket.{EventPacket}
use Rattle.interface_display.specs.declared.packet.Packet.{Packet}
use Rattle.interface_display.specs.declared.packet.Picture.{Picture}
use Rattle.power_policy_service.specs.Config.{rust_default}
use Rattle.abstract_policy.specs.Interaction.{update_unconstrained_state, connect_new_consumer, disconnect_current, disconnect_chargers, connect_consumer, post_consumer_connected, connect_best, update_current_consumer, post_provider_connected, provide, connect_provider, remove_provider, post_provider_removed, process_psu_event}
use Rattle.abstract_policy.specs.declared.state.Registration.{Registration}
use Rattle.wire.specs.Bytes.{event_bytes, notice_bytes, contract_bytes, capability_bytes, picture_bytes, consumer_bytes, ports_bytes}
use Rattle.wire.specs.Number.{leb128, read_number}
use Rattle.wire.specs.Packet as wire
use Rattle.wire.specs.Packet.{packet_of, picture_after, unconstrained, capability, contract, consumer, consumer_connected, notice_of, notice, event_notices, event_after}
use Rattle.wire.specs.Parser.{field, number as readField}
use Rattle.wire.specs.Read.{read_packet}
use Rattle.promise_link.specs.Source.{number_in}
use Rattle.promise_link.proofs.Lists.{one_packet}
use Rattle.abstract_calls.specs.Numbers.{closed_number}
use Rattle.abstract_calls.specs.ServiceCall.{ByteCall, open_event, give_answer, write_packet, write_picture}
use Rattle.abstract_calls.specs.Calls.{CallsBytes, returned, buffer_after, images, desk}
use Rattle.abstract_calls.specs.DeskCall.{take_packet}
use Rattle.abstract_calls.specs.Functions.{Functions, Arguments, arguments}
use Rattle.abstract_calls.specs.Definition.{defined, held, return_to, buffer_to}
use Rattle.interface_records.proofs.OneRow.{no_bytes}
use Rattle.abstract_calls.proofs.Results.{refused_low}
use Rattle.abi_functions.specs.Ours.{functions}
use Rattle.promise_calls.proofs.Low.{not_two}
use Rattle.promise_calls.proofs.Written.{bytes_left}
use Rattle.promise.specs.Runs.{PacketOf, PictureOf, packet, picture, Comes, NothingAbove, Shows}
use Rattle.promise.specs.Promise.{start_refused, registers, Link, Serves, Promise}
use Rattle.promise.specs.Testers.{always_lost, deaf, ignores_answers, invents_count, always_port0, orders_nothing, turns_back, stays_full, Testers}
use Rattle.promise.proofs.Promised.{promised}
use Rattle.promise.proofs.Sent.{packet_is, picture_is}
use Rattle.promise.proofs.Shown.{not_lost}

zeros : ℕ → List ℕ
zeros n = replicate n 0

follower_zeros : length (zeros follower_length) ≡ follower_length
unfolding zeros
follower_zeros = refl

-- a start by the Rust's default with so many ports and no charger

abbrev figures : ℕ → Arguments
figures ports = arguments ports 0 15000 5000 3000 5000 1500 0 0

abbrev g : ℕ → Registration
g ports = registers (figures ports) rust_default

-- it is done, on 67 bytes
accepted_1 : start_refused (zeros service_length) (figures 1) ≡ 0
unfolding zeros
accepted_1 = refl

accepted_2 : start_refused (zeros service_length) (figures 2) ≡ 0
unfolding zeros
accepted_2 = refl

accepted_5 : start_refused (zeros service_length) (figures 5) ≡ 0
unfolding zeros
accepted_5 = refl

-- records, as bytes

abbrev small : List ℕ → Bool
small [] = true
small (a ∷ l) = ltb a 256 && small l

below : (l : List ℕ) → small l ≡ true → AllBytes l
below [] h k = omega arith
below (a ∷ l) h zero = ltb-true a 256 (and_parts (ltb a 256) (small l) h).0
below (a ∷ l) h (suc k) = below l (and_parts (ltb a 256) (small l) h).1 k

-- Idle, 5,000 mV and 3,000 mA offered
abbrev offers : List ℕ
offers = 1 ∷ 0 ∷ 0 ∷ 0 ∷ 0 ∷ 0 ∷ 1 ∷ 0x88 ∷ 0x13 ∷ 0xB8 ∷ 0x0B ∷ 0 ∷ 0 ∷ 0 ∷ 0 ∷ 0 ∷ 0 ∷ 0 ∷ []

-- Idle, nothing offered or requested
abbrev idle : List ℕ
idle = 1 ∷ 0 ∷ 0 ∷ 0 ∷ 0 ∷ 0 ∷ 0 ∷ 0 ∷ 0 ∷ 0 ∷ 0 ∷ 0 ∷ 0 ∷ 0 ∷ 0 ∷ 0 ∷ 0 ∷ 0 ∷ []

-- Idle, 5,000 mV and 500 mA requested
abbrev requests : List ℕ
requests = 1 ∷ 0 ∷ 0 ∷ 0 ∷ 0 ∷ 0 ∷ 0 ∷ 0 ∷ 0 ∷ 0 ∷ 0 ∷ 0 ∷ 1 ∷ 0x88 ∷ 0x13 ∷ 0xF4 ∷ 0x01 ∷ 0 ∷ []

-- of all programs: what was written at a point of the run is this event's packet or picture

module _ (f : Functions) (promise : Promise f) where
  serves : (n : ℕ) → start_refused (zeros service_length) (figures n) ≡ 0 → Serves f (f.start (zeros service_length) (figures n)).bytes (g n)
  serves n e = (promise.start (zeros service_length) (figures n)).serves e rust_default refl

-- the first run, of one port: a picture is written at once; an event connects port 0 as the consumer, and its packet is written

abbrev pictures : ByteCall
pictures = write_picture (zeros 64)

abbrev packets : ByteCall
packets = write_packet (zeros 64)

abbrev opening : ByteCall
opening = open_event offers [] 1 0 0

abbrev answering : ℕ → ByteCall
answering a = give_answer offers [] a

abbrev before_packet : List ByteCall
before_packet = pictures ∷ opening ∷ answering 0 ∷ answering 0 ∷ []

abbrev calls : List ByteCall
calls = before_packet ++ (packets ∷ [])

offers_bytes : AllBytes offers
offers_bytes = below offers refl

before_bytes : CallsBytes before_packet
before_bytes = (no_bytes, (offers_bytes, (offers_bytes, (offers_bytes, tt))))

calls_bytes : CallsBytes calls
calls_bytes = (no_bytes, (offers_bytes, (offers_bytes, (offers_bytes, (no_bytes, tt)))))

-- what the definition says of it, computed

abbrev y0 : List ℕ
y0 = 2 ∷ 0 ∷ 0 ∷ 0 ∷ 0 ∷ 0 ∷ []

abbrev y1 : List ℕ
y1 = 1 ∷ 1 ∷ 0 ∷ 2 ∷ 1 ∷ 2 ∷ 0 ∷ 0x88 ∷ 0x27 ∷ 0xB8 ∷ 0x17 ∷ 0 ∷ []

picture_number : return_to (defined (g 1) []) pictures ≡ 1539
unfolding zeros picture_bytes leb128 consumer_bytes ports_bytes
picture_number = refl

picture_bytes_lem : take 6 (buffer_to (defined (g 1) []) pictures) ≡ y0
unfolding zeros picture_bytes leb128 consumer_bytes ports_bytes
picture_bytes_lem = refl

packet_number : return_to (defined (g 1) before_packet) packets ≡ 3075
unfolding zeros event_bytes notice_bytes contract_bytes capability_bytes leb128 process_psu_event update_current_consumer connect_best connect_new_consumer disconnect_current disconnect_chargers connect_consumer post_consumer_connected update_unconstrained_state
packet_number = refl

packet_bytes_lem : take 12 (buffer_to (defined (g 1) before_packet) packets) ≡ y1
unfolding zeros event_bytes notice_bytes contract_bytes capability_bytes leb128 process_psu_event update_current_consumer connect_best connect_new_consumer disconnect_current disconnect_chargers connect_consumer post_consumer_connected update_unconstrained_state
packet_bytes_lem = refl

closed_one : (defined (g 1) before_packet).number ≡ 1
unfolding zeros process_psu_event update_current_consumer connect_best connect_new_consumer disconnect_current disconnect_chargers connect_consumer post_consumer_connected update_unconstrained_state
closed_one = refl

closed_ok : (defined (g 1) before_packet).answer ≡ Ok tt
unfolding zeros process_psu_event update_current_consumer connect_best connect_new_consumer disconnect_current disconnect_chargers connect_consumer post_consumer_connected update_unconstrained_state
closed_ok = refl

-- connect consumer, port 0, 5,000 mV, 3,000 mA
first_order : return_to (defined (g 1) []) opening ≡ 844446404968448257
unfolding process_psu_event update_current_consumer connect_best connect_new_consumer disconnect_current disconnect_chargers connect_consumer
first_order = refl

-- then a wait of 800 ms, or closed with Failed after one order
then_waits : return_to (defined (g 1) (opening ∷ [])) (answering 0) ≡ 3435973838593
unfolding process_psu_event update_current_consumer connect_best connect_new_consumer disconnect_current disconnect_chargers connect_consumer post_consumer_connected
then_waits = refl

then_fails : return_to (defined (g 1) (opening ∷ [])) (answering 10) ≡ 4294969858
unfolding process_psu_event update_current_consumer connect_best connect_new_consumer disconnect_current disconnect_chargers connect_consumer post_consumer_connected
then_fails = refl

-- the packet's orders: 2, and were they invented, 35
counted : get_or (buffer_to (defined (g 1) before_packet) packets) 3 0 ≡ 2
unfolding zeros event_bytes notice_bytes contract_bytes capability_bytes leb128 process_psu_event update_current_consumer connect_best connect_new_consumer disconnect_current disconnect_chargers connect_consumer post_consumer_connected update_unconstrained_state
counted = refl

invented : get_or (set (buffer_to (defined (g 1) before_packet) packets) 3 35) 3 0 ≡ 35
unfolding zeros event_bytes notice_bytes contract_bytes capability_bytes leb128 process_psu_event update_current_consumer connect_best connect_new_consumer disconnect_current disconnect_chargers connect_consumer post_consumer_connected update_unconstrained_state
invented = refl

-- what both are read as

abbrev p0 : Picture
p0 = record { number = 0; display = held (g 1) calls 0 }

read_0 : read_packet y0 ≡ Ok (Packet.Picture p0)
unfolding wire.packet packet_of wire.picture readField read_number field picture_after unconstrained zeros
read_0 = refl

read_1 : (e : EventPacket) × (read_packet y1 ≡ Ok (Packet.Event e)) × (e.number ≡ 1)
unfolding wire.packet packet_of wire.event readField read_number field event_after event_notices notice notice_of consumer_connected consumer contract capability
read_1 = (record { number = 1; answer = 0; orders = 2; notices = _ }, refl, refl)

-- whatever the functions, if they keep the promise

abbrev X : List ℕ
X = zeros follower_length

module _ (f : Functions) (promise : Promise f) where
  abbrev image : List ℕ
  image = (f.start (zeros service_length) (figures 1)).bytes

  served : Serves f image (g 1)
  served = serves f promise 1 accepted_1

  link : Link f image (g 1) calls X
  link = served.link calls calls_bytes X follower_zeros

  -- the picture and the packet are written, as these bytes

  number_0 : returned f image pictures ≡ 1539
  number_0 = served.returns [] pictures tt ∙ picture_number

  bytes_0 : take (returned f image pictures / 256 % 256) (buffer_after f image pictures) ≡ y0
  bytes_0 =
      ap (λ (n : ℕ). take (n / 256 % 256) (buffer_after f image pictures)) number_0
      ∙ (ap (λ (b : List ℕ). take 6 b) (served.buffers [] pictures tt) ∙ picture_bytes_lem)

  picture_0 : PictureOf f image (g 1) calls 0 y0
  picture_0 = record {
    before = [];
    buffer = zeros 64;
    rest = opening ∷ answering 0 ∷ answering 0 ∷ packets ∷ [];
    among = refl;
    writes = (ap (λ (n : ℕ). n % 256) number_0, sym bytes_0);
    number = refl;
  }

  abbrev then : List ℕ
  then = images f image before_packet

  number_1 : returned f then packets ≡ 3075
  number_1 = served.returns before_packet packets before_bytes ∙ packet_number

  bytes_1 : take (returned f then packets / 256 % 256) (buffer_after f then packets) ≡ y1
  bytes_1 =
      ap (λ (n : ℕ). take (n / 256 % 256) (buffer_after f then packets)) number_1
      ∙ (ap (λ (b : List ℕ). take 12 b) (served.buffers before_packet packets before_bytes) ∙ packet_bytes_lem)

  packet_at : (n : ℕ) → 1 ≡ n → PacketOf f image (g 1) calls n y1
  packet_at n e = record {
    before = before_packet;
    buffer = zeros 64;
    rest = [];
    among = refl;
    writes = (ap (λ (n : ℕ). n % 256) number_1, sym bytes_1);
    number = closed_one ∙ e;
  }

  packet_ok : (n : ℕ) (e : 1 ≡ n) → (defined (g 1) (packet_at n e).before).answer ≡ Ok tt
  unfolding packet_at
  packet_ok n e = closed_ok

  -- a fresh follower is lost, and the picture is shown
  shows_0 : Shows f (desk f X (take_packet y0 ∷ [])) 0 (held (g 1) calls 0)
  shows_0 = (link.recovers [] 0 y0 tt picture_0 ((promise.follower_start X).follows follower_zeros).fresh_lost).1 (λ n y i w. absurd i)

  -- and after its packet, event 1

  comes : Comes f image (g 1) calls 0 1 (y1 ∷ [])
  comes j h k =
      let e : 1 ≡ j = omega (arith, h, k) in
      (y1, inl refl, (packet_at j e, packet_ok j e))

  -- a packet or picture of the run has the number that is read of it
  numbered : (n : ℕ) (y : List ℕ) (p : Packet) → read_packet y ≡ Ok p → PacketOf f image (g 1) calls n y ⊎ PictureOf f image (g 1) calls n y → n ≡ number_in p
  numbered n y p r (inl w) =
      let b : CallsBytes w.before = bytes_left w.before (write_packet w.buffer ∷ w.rest) (subst CallsBytes w.among calls_bytes) in
      let z = served.packet_read w.before w.buffer y b w.writes in
      sym (ap (λ (e : EventPacket). e.number) (packet_is (defined (g 1) w.before) z.0 z.1) ∙ w.number) ∙ ap number_in (one_packet z.2 r)
  numbered n y p r (inr w) =
      let b : CallsBytes w.before = bytes_left w.before (write_picture w.buffer ∷ w.rest) (subst CallsBytes w.among calls_bytes) in
      let z = served.picture_read w.before w.buffer y b w.writes in
      sym (ap (λ (v : Picture). v.number) (picture_is (defined (g 1) w.before) z.0 z.1) ∙ w.number) ∙ ap number_in (one_packet z.2 r)

  above : NothingAbove f image (g 1) calls 1 (y0 ∷ y1 ∷ [])
  above n y (inl e) w =
      let z = numbered n y (Packet.Picture p0) (ap read_packet (sym e) ∙ read_0) w in
      omega (arith, z)
  above n y (inr (inl e)) w =
      let z = numbered n y (Packet.Event read_1.0) (ap read_packet (sym e) ∙ read_1.1) w in
      omega (arith, z, read_1.2)
  above n y (inr (inr e)) w = absurd e

  shows_1 : Shows f (desk f X (take_packet y0 ∷ take_packet y1 ∷ [])) 1 (held (g 1) calls 1)
  shows_1 = link.follows (take_packet y0 ∷ []) (take_packet y1 ∷ []) 0 1 (picture 0 picture_0, (packet 1 (packet_at 1 refl), tt)) shows_0 (omega arith) comes above

-- the second run, of two ports: port 1 offers alone

abbrev second : List ℕ
second = idle ++ offers

-- connect consumer, port 1, 5,000 mV, 3,000 mA
order_1 : return_to (defined (g 2) []) (open_event second [] 1 1 0) ≡ 844446404968513793
unfolding process_psu_event update_current_consumer connect_best connect_new_consumer disconnect_current disconnect_chargers connect_consumer
order_1 = refl

-- were port 0 to offer as much, it would be port 0
order_0 : return_to (defined (g 2) []) (open_event (offers ++ offers) [] 1 1 0) ≡ 844446404968448257
unfolding process_psu_event update_current_consumer connect_best connect_new_consumer disconnect_current disconnect_chargers connect_consumer
order_0 = refl

-- the third run, of five ports: four are tracked as providers, and port 0 is detached

abbrev provides : List ℕ
provides = requests ++ (requests ++ (requests ++ (requests ++ idle)))

abbrev connects : ℕ → List ByteCall
connects p = open_event provides [] 2 p 0 ∷ give_answer provides [] 0 ∷ []

abbrev four : List ByteCall
four = connects 0 ++ (connects 1 ++ (connects 2 ++ connects 3))

provides_bytes : AllBytes provides
provides_bytes = below provides refl

-- an event of this kind from port 0 after them
abbrev leaves : ℕ → List ByteCall
leaves kind = four ++ (open_event provides [] kind 0 0 ∷ [])

leaves_bytes : (kind : ℕ) → CallsBytes (leaves kind)
leaves_bytes kind =
    (provides_bytes, (provides_bytes, (provides_bytes, (provides_bytes, (provides_bytes, (provides_bytes, (provides_bytes, (provides_bytes, (provides_bytes, tt)))))))))

-- how many ports the picture then has tracked: byte 5
tracks_three : get_or (buffer_to (defined (g 5) (leaves 4)) pictures) 5 0 ≡ 3
unfolding zeros picture_bytes leb128 consumer_bytes ports_bytes process_psu_event update_current_consumer connect_best connect_new_consumer disconnect_current disconnect_chargers connect_consumer post_consumer_connected update_unconstrained_state post_provider_connected provide connect_provider remove_provider post_provider_removed
tracks_three = refl

tracks_four : get_or (buffer_to (defined (g 5) (leaves 1)) pictures) 5 0 ≡ 4
unfolding zeros picture_bytes leb128 consumer_bytes ports_bytes process_psu_event update_current_consumer connect_best connect_new_consumer disconnect_current disconnect_chargers connect_consumer post_consumer_connected update_unconstrained_state post_provider_connected provide connect_provider remove_provider post_provider_removed
tracks_four = refl

-- the programs

not_always_lost : Promise always_lost → ⊥
not_always_lost p = not_lost always_lost (desk always_lost X (take_packet y0 ∷ [])) 0 (held (g 1) calls 0) (shows_0 always_lost p).shown refl

not_deaf : Promise deaf → ⊥
not_deaf p =
    let z : ◌≡◌ {A = ℕ} 0 1 = sym (shows_0 deaf p).number ∙ (shows_1 deaf p).number in
    omega (arith, z)

-- the image and the orders up to the first answer are ours
not_ignoring : Promise ignores_answers → ⊥
not_ignoring p =
    let y : ◌≡◌ {A = ℕ} 4294969858 3435973838593 =
    sym ((serves ignores_answers p 1 accepted_1).returns (opening ∷ []) (answering 10) (offers_bytes, tt) ∙ then_fails)
    ∙ ((serves functions promised 1 accepted_1).returns (opening ∷ []) (answering 0) (offers_bytes, tt) ∙ then_waits) in
    omega (arith, y)

not_inventing : Promise invents_count → ⊥
not_inventing p =
    let b = images functions (functions.start (zeros service_length) (figures 1)).bytes before_packet in
    let x : get_or (set (buffer_after functions b packets) 3 35) 3 0 ≡ 2 =
    ap (λ (l : List ℕ). get_or l 3 0) ((serves invents_count p 1 accepted_1).buffers before_packet packets before_bytes) ∙ counted in
    let z : ◌≡◌ {A = ℕ} 2 35 =
    sym x ∙ (ap (λ (l : List ℕ). get_or (set l 3 35) 3 0) ((serves functions promised 1 accepted_1).buffers before_packet packets before_bytes) ∙ invented) in
    omega (arith, z)

not_port_0 : Promise always_port0 → ⊥
not_port_0 p =
    let z : ◌≡◌ {A = ℕ} 844446404968513793 844446404968448257 =
    sym ((serves always_port0 p 2 accepted_2).returns [] (open_event second [] 1 1 0) tt ∙ order_1)
    ∙ ((serves functions promised 2 accepted_2).returns [] (open_event (offers ++ offers) [] 1 1 0) tt ∙ order_0) in
    omega (arith, z)

not_idle : Promise orders_nothing → ⊥
not_idle p =
    let z : ◌≡◌ {A = ℕ} (closed_number (Ok tt) 0) 844446404968448257 = (serves orders_nothing p 1 accepted_1).returns [] opening tt ∙ first_order in
    omega (arith, z)

not_turning_back : (n : ℕ) → Promise (turns_back n) → ⊥
not_turning_back n p =
    not_two (refused_low n) (ap (λ (m : ℕ). m % 256) ((serves (turns_back n) p 1 accepted_1).returns [] opening tt ∙ first_order)) refl

-- a Detached leaves what an update does
not_full : Promise stays_full → ⊥
not_full p =
    let b : List ℕ = (functions.start (zeros service_length) (figures 5)).bytes in
    let z : ◌≡◌ {A = ℕ} 3 4 =
    sym (ap (λ (l : List ℕ). get_or l 5 0) ((serves stays_full p 5 accepted_5).buffers (leaves 4) pictures (leaves_bytes 4)) ∙ tracks_three)
    ∙ (ap (λ (i : List ℕ). get_or (buffer_after functions i pictures) 5 0) (same b)
    ∙ (ap (λ (l : List ℕ). get_or l 5 0) ((serves functions promised 5 accepted_5).buffers (leaves 1) pictures (leaves_bytes 1)) ∙ tracks_four)) in
    omega (arith, z)
  where
    same : (b : List ℕ) → images stays_full b (leaves 4) ≡ images functions b (leaves 1)
    same b = refl

pub testers : Testers
testers = record {
  always_lost = not_always_lost;
  deaf = not_deaf;
  ignores_answers = not_ignoring;
  invents_count = not_inventing;
  always_port_0 = not_port_0;
  orders_nothing = not_idle;
  turns_back = not_turning_back;
  stays_full = not_full;
}
