-- The theorems are not empty: a run with a switch, an error and a provider, and takes that lose, repeat and reorder. All of it is computed.
use Rattle.std.specs.Prelude.{Err, None, Ok, Option, Result, Some}
use mathlib.Core.Path.{◌≡◌, refl, ap}
use mathlib.Core.Logic.{inl, inr, ⊎_elim}
use native.Mathlib.Omega.{arith}
use mathlib.Core.Bool.{false}
use mathlib.Core.List.{List, [], ◌∷◌, ◌++◌}
use Prim.Native.Nat.{ℕ, zero, suc, ◌<◌, ◌≤◌}
use Rattle.power_policy_interface.specs.declared.capability.ConsumerPowerCapability.{ConsumerPowerCapability}
use Rattle.power_policy_interface.specs.declared.capability.DisconnectReason.{DisconnectReason}
use Rattle.power_policy_interface.specs.declared.capability.ProviderPowerCapability.{ProviderPowerCapability}
use Rattle.power_policy_interface.specs.declared.psu.PsuState.{PsuState}
use Rattle.power_policy_interface.specs.declared.psu.State.{State}
use Rattle.power_policy_interface.specs.declared.service.event.Event.{Event}
use Rattle.interface_display.specs.Notices.{empty}
use Rattle.interface_display.specs.declared.packet.EventPacket.{EventPacket}
use Rattle.interface_display.specs.declared.packet.Packet.{Packet}
use Rattle.power_policy_service.specs.Config.{rust_default, config_from}
use Rattle.abstract_policy.specs.Interaction as policy
use Rattle.abstract_policy.specs.Policy.{Call, open_event, give_answer, write_packet, write_picture, started, held_at, policies}
use Rattle.abstract_policy.specs.Returns.{pushed_all, packet_to}
use Rattle.abstract_policy.specs.declared.state.Records.{Records}
use Rattle.machine_service.specs.Service.{fresh_service, start_of}
use Rattle.machine_service.specs.declared.Service.{Service}
use Rattle.machine_service.specs.Send.{packet_of, picture_of}
use Rattle.wire.specs.Bytes.{packet_bytes}
use Rattle.wire.specs.Bytes as bytes
use Rattle.wire.specs.Number as number
use Rattle.wire.specs.Packet as wire
use Rattle.wire.specs.Parser as parser
use Rattle.wire.specs.Read.{read_packet}
use Rattle.desk_follower.specs.Follower as follower
use Rattle.desk_follower.specs.Held as held
use Rattle.desk_follower.specs.Follower.{fresh}
use Rattle.desk_follower.specs.declared.Shown.{Shown}
use Rattle.promise_link.specs.Source.{Source, number_in}
use Rattle.promise_link.specs.Takes.{takes_bytes, Met, copy, AllCarried, FollowerShows}
use Rattle.promise_link.proofs.Lists.{one_packet}
use Rattle.promise_run.specs.Run.{HasSent, services, CallsFit}
use Rattle.promise_run.specs.Sized.{RecordsFit}
use Rattle.promise_run.specs.Demands.{Demands}
use Rattle.promise_run.proofs.Linked.{source, run_demand_3, after_start}

abbrev offer : ℕ → ℕ → ConsumerPowerCapability
offer v a =
    record {
      capability = record { voltage_mv = v; current_ma = a };
      flags = record { unconstrained_power = false; psu_type = None };
    }

abbrev psu : PsuState → Option ConsumerPowerCapability → Option ProviderPowerCapability → State
psu p c r = record { psu_state = p; consumer_capability = c; requested_provider_capability = r }

abbrev weak : ConsumerPowerCapability
weak = offer 5000 3000

abbrev strong : ConsumerPowerCapability
strong = offer 20000 5000

abbrev request : ProviderPowerCapability
request = record { capability = record { voltage_mv = 5000; current_ma = 500 }; flags = record { psu_type = None } }

-- port 0 offers little; then port 1 offers more; then port 0 asks for power
abbrev first : Records
first =
    record {
      psus = psu PsuState.Idle (Some weak) None ∷ psu PsuState.Detached None None ∷ [];
      chargers = [];
    }

abbrev second : Records
second =
    record {
      psus = psu (PsuState.ConnectedConsumer weak) (Some weak) None ∷ psu PsuState.Idle (Some strong) None ∷ [];
      chargers = [];
    }

abbrev third : Records
third =
    record {
      psus = psu PsuState.Idle None (Some request) ∷ psu (PsuState.ConnectedConsumer strong) (Some strong) None ∷ [];
      chargers = [];
    }

abbrev start : Service
start = fresh_service rust_default 2 0

-- event 1: port 0 becomes the consumer; 2: port 1 does; 3: port 0 is to provide, and its device times out; 4: again, and it is done
abbrev one : List Call
one = open_event 1 0 0 first ∷ give_answer 0 first ∷ give_answer 0 first ∷ []

abbrev two : List Call
two = one ++ (open_event 1 1 0 second ∷ give_answer 0 second ∷ give_answer 0 second ∷ give_answer 0 second ∷ [])

abbrev three : List Call
three = two ++ (open_event 2 0 0 third ∷ give_answer 7 third ∷ [])

abbrev four : List Call
four = three ++ (open_event 2 0 0 third ∷ give_answer 0 third ∷ [])

abbrev event : List Call → List ℕ
event l = packet_bytes (Packet.Event (packet_of (services start l)))

abbrev picture : List Call → List ℕ
picture l = packet_bytes (Packet.Picture (picture_of (services start l)))

-- the start's picture, then packets 2, 2 and 1
abbrev mixed : List (List ℕ)
mixed = picture [] ∷ event two ∷ event two ∷ event one ∷ []

pub bytes_one : event one ≡ 1 ∷ 1 ∷ 0 ∷ 2 ∷ 1 ∷ 2 ∷ 0 ∷ 136 ∷ 39 ∷ 184 ∷ 23 ∷ 0 ∷ []
unfolding bytes.capability_bytes bytes.contract_bytes bytes.notice_bytes bytes.event_bytes bytes.consumer_bytes bytes.ports_bytes bytes.picture_bytes number.leb128 number.read_number parser.field parser.number wire.capability wire.contract wire.consumer wire.unconstrained wire.consumer_disconnected wire.consumer_connected wire.provider_disconnected wire.provider_connected wire.unconstrained_changed wire.notice_of wire.notice wire.event_notices wire.event_after wire.event wire.picture_after wire.picture wire.packet_of wire.packet held.none_held held.greatest held.above follower.in_turn policy.update_unconstrained_state policy.attach_charger policy.post_consumer_connected policy.detach_charger policy.disconnect_chargers policy.disconnect_current policy.connect_consumer policy.connect_new_consumer policy.connect_best policy.update_current_consumer policy.post_provider_connected policy.provide policy.connect_provider policy.remove_provider policy.post_provider_removed policy.process_psu_event
bytes_one = refl

-- without errors and with nothing later among them, packet 2 is shown, as it was held
pub shows_two : (takes_bytes fresh mixed).shown ≡ Shown.Picture (record { number = 2; display = held_at (started start.registration) four 2 })
unfolding bytes.capability_bytes bytes.contract_bytes bytes.notice_bytes bytes.event_bytes bytes.consumer_bytes bytes.ports_bytes bytes.picture_bytes number.leb128 number.read_number parser.field parser.number wire.capability wire.contract wire.consumer wire.unconstrained wire.consumer_disconnected wire.consumer_connected wire.provider_disconnected wire.provider_connected wire.unconstrained_changed wire.notice_of wire.notice wire.event_notices wire.event_after wire.event wire.picture_after wire.picture wire.packet_of wire.packet held.none_held held.greatest held.above follower.in_turn policy.update_unconstrained_state policy.attach_charger policy.post_consumer_connected policy.detach_charger policy.disconnect_chargers policy.disconnect_current policy.connect_consumer policy.connect_new_consumer policy.connect_best policy.update_current_consumer policy.post_provider_connected policy.provide policy.connect_provider policy.remove_provider policy.post_provider_removed policy.process_psu_event
shows_two = refl

-- packet 3 has an error: lost, with 3 as floor; the picture of 3 is shown, and packet 4, which tracks the provider, follows
pub lost_at_three : (takes_bytes fresh (mixed ++ (event three ∷ []))).shown ≡ Shown.Lost 3
unfolding bytes.capability_bytes bytes.contract_bytes bytes.notice_bytes bytes.event_bytes bytes.consumer_bytes bytes.ports_bytes bytes.picture_bytes number.leb128 number.read_number parser.field parser.number wire.capability wire.contract wire.consumer wire.unconstrained wire.consumer_disconnected wire.consumer_connected wire.provider_disconnected wire.provider_connected wire.unconstrained_changed wire.notice_of wire.notice wire.event_notices wire.event_after wire.event wire.picture_after wire.picture wire.packet_of wire.packet held.none_held held.greatest held.above follower.in_turn policy.update_unconstrained_state policy.attach_charger policy.post_consumer_connected policy.detach_charger policy.disconnect_chargers policy.disconnect_current policy.connect_consumer policy.connect_new_consumer policy.connect_best policy.update_current_consumer policy.post_provider_connected policy.provide policy.connect_provider policy.remove_provider policy.post_provider_removed policy.process_psu_event
lost_at_three = refl

pub recovers : (takes_bytes fresh (mixed ++ (event three ∷ picture three ∷ []))).shown ≡ Shown.Picture (record { number = 3; display = held_at (started start.registration) four 3 })
unfolding bytes.capability_bytes bytes.contract_bytes bytes.notice_bytes bytes.event_bytes bytes.consumer_bytes bytes.ports_bytes bytes.picture_bytes number.leb128 number.read_number parser.field parser.number wire.capability wire.contract wire.consumer wire.unconstrained wire.consumer_disconnected wire.consumer_connected wire.provider_disconnected wire.provider_connected wire.unconstrained_changed wire.notice_of wire.notice wire.event_notices wire.event_after wire.event wire.picture_after wire.picture wire.packet_of wire.packet held.none_held held.greatest held.above follower.in_turn policy.update_unconstrained_state policy.attach_charger policy.post_consumer_connected policy.detach_charger policy.disconnect_chargers policy.disconnect_current policy.connect_consumer policy.connect_new_consumer policy.connect_best policy.update_current_consumer policy.post_provider_connected policy.provide policy.connect_provider policy.remove_provider policy.post_provider_removed policy.process_psu_event
recovers = refl

pub shows_four : (takes_bytes fresh (mixed ++ (event three ∷ picture three ∷ event four ∷ []))).shown ≡ Shown.Picture (record { number = 4; display = held_at (started start.registration) four 4 })
unfolding bytes.capability_bytes bytes.contract_bytes bytes.notice_bytes bytes.event_bytes bytes.consumer_bytes bytes.ports_bytes bytes.picture_bytes number.leb128 number.read_number parser.field parser.number wire.capability wire.contract wire.consumer wire.unconstrained wire.consumer_disconnected wire.consumer_connected wire.provider_disconnected wire.provider_connected wire.unconstrained_changed wire.notice_of wire.notice wire.event_notices wire.event_after wire.event wire.picture_after wire.picture wire.packet_of wire.packet held.none_held held.greatest held.above follower.in_turn policy.update_unconstrained_state policy.attach_charger policy.post_consumer_connected policy.detach_charger policy.disconnect_chargers policy.disconnect_current policy.connect_consumer policy.connect_new_consumer policy.connect_best policy.update_current_consumer policy.post_provider_connected policy.provide policy.connect_provider policy.remove_provider policy.post_provider_removed policy.process_psu_event
shows_four = refl

-- the premises of DEM-3b hold of these takes, with n = 0 and k = 2

reads_start : read_packet (picture []) ≡ Ok (Packet.Picture (picture_of start))
unfolding bytes.capability_bytes bytes.contract_bytes bytes.notice_bytes bytes.event_bytes bytes.consumer_bytes bytes.ports_bytes bytes.picture_bytes number.leb128 number.read_number parser.field parser.number wire.capability wire.contract wire.consumer wire.unconstrained wire.consumer_disconnected wire.consumer_connected wire.provider_disconnected wire.provider_connected wire.unconstrained_changed wire.notice_of wire.notice wire.event_notices wire.event_after wire.event wire.picture_after wire.picture wire.packet_of wire.packet held.none_held held.greatest held.above follower.in_turn policy.update_unconstrained_state policy.attach_charger policy.post_consumer_connected policy.detach_charger policy.disconnect_chargers policy.disconnect_current policy.connect_consumer policy.connect_new_consumer policy.connect_best policy.update_current_consumer policy.post_provider_connected policy.provide policy.connect_provider policy.remove_provider policy.post_provider_removed policy.process_psu_event
reads_start = refl

reads_one : read_packet (event one) ≡ Ok (Packet.Event (packet_of (services start one)))
unfolding bytes.capability_bytes bytes.contract_bytes bytes.notice_bytes bytes.event_bytes bytes.consumer_bytes bytes.ports_bytes bytes.picture_bytes number.leb128 number.read_number parser.field parser.number wire.capability wire.contract wire.consumer wire.unconstrained wire.consumer_disconnected wire.consumer_connected wire.provider_disconnected wire.provider_connected wire.unconstrained_changed wire.notice_of wire.notice wire.event_notices wire.event_after wire.event wire.picture_after wire.picture wire.packet_of wire.packet held.none_held held.greatest held.above follower.in_turn policy.update_unconstrained_state policy.attach_charger policy.post_consumer_connected policy.detach_charger policy.disconnect_chargers policy.disconnect_current policy.connect_consumer policy.connect_new_consumer policy.connect_best policy.update_current_consumer policy.post_provider_connected policy.provide policy.connect_provider policy.remove_provider policy.post_provider_removed policy.process_psu_event
reads_one = refl

reads_two : read_packet (event two) ≡ Ok (Packet.Event (packet_of (services start two)))
unfolding bytes.capability_bytes bytes.contract_bytes bytes.notice_bytes bytes.event_bytes bytes.consumer_bytes bytes.ports_bytes bytes.picture_bytes number.leb128 number.read_number parser.field parser.number wire.capability wire.contract wire.consumer wire.unconstrained wire.consumer_disconnected wire.consumer_connected wire.provider_disconnected wire.provider_connected wire.unconstrained_changed wire.notice_of wire.notice wire.event_notices wire.event_after wire.event wire.picture_after wire.picture wire.packet_of wire.packet held.none_held held.greatest held.above follower.in_turn policy.update_unconstrained_state policy.attach_charger policy.post_consumer_connected policy.detach_charger policy.disconnect_chargers policy.disconnect_current policy.connect_consumer policy.connect_new_consumer policy.connect_best policy.update_current_consumer policy.post_provider_connected policy.provide policy.connect_provider policy.remove_provider policy.post_provider_removed policy.process_psu_event
reads_two = refl

abbrev later : List (List ℕ)
later = event two ∷ event two ∷ event one ∷ []

pub comes : (j : ℕ) → 0 < j → j ≤ 2 → (e : EventPacket) × Met (Packet.Event e) later × (e.number ≡ j) × (e.answer ≡ 0)
comes zero l m = absurd (omega (arith, l))
comes (suc zero) l m = (packet_of (services start one), inr (inr (inl reads_one)), refl, refl)
comes (suc (suc zero)) l m = (packet_of (services start two), inl reads_two, refl, refl)
comes (suc (suc (suc j))) l m = absurd (omega (arith, m))

numbered : {p q : Packet} {x : Result Packet ℕ} → x ≡ Ok p → x ≡ Ok q → number_in p ≡ number_in q
numbered e f = ap number_in (one_packet e f)

pub nothing_above : (p : Packet) → Met p mixed → number_in p ≤ 2
nothing_above p m =
    ⊎_elim (λ e. omega (arith, numbered e reads_start))
    (λ n.
    ⊎_elim (λ e. omega (arith, numbered e reads_two))
    (λ o. ⊎_elim (λ e. omega (arith, numbered e reads_two)) (λ q. ⊎_elim (λ e. omega (arith, numbered e reads_one)) (λ z. absurd z) q) o)
    n)
    m

-- so the theorem applies: the run with its writes, and the takes as copies of them

abbrev calls : List Call
calls =
    write_picture
    ∷ open_event 1 0 0 first
    ∷ give_answer 0 first
    ∷ give_answer 0 first
    ∷ write_packet
    ∷ open_event 1 1 0 second
    ∷ give_answer 0 second
    ∷ give_answer 0 second
    ∷ give_answer 0 second
    ∷ write_packet
    ∷ open_event 2 0 0 third
    ∷ give_answer 7 third
    ∷ write_packet
    ∷ write_picture
    ∷ open_event 2 0 0 third
    ∷ give_answer 0 third
    ∷ write_packet
    ∷ []

pub first_fits : RecordsFit first
first_fits zero l = (refl, tt)
first_fits (suc zero) l = (tt, tt)
first_fits (suc (suc p)) l = (tt, tt)

pub second_fits : RecordsFit second
second_fits zero l = (refl, tt)
second_fits (suc zero) l = (refl, tt)
second_fits (suc (suc p)) l = (tt, tt)

pub third_fits : RecordsFit third
third_fits zero l = (tt, refl)
third_fits (suc zero) l = (refl, tt)
third_fits (suc (suc p)) l = (tt, tt)

pub calls_fit : CallsFit calls
calls_fit = (
  tt,
  (first_fits, (first_fits, (first_fits, (tt, (second_fits, (second_fits, (second_fits, (second_fits, (tt, (third_fits, (third_fits, (tt, (tt, (third_fits, (third_fits, (tt, tt)))))))))))))))),
)

abbrev writer : Source
writer = source rust_default 2 0 (omega arith) (omega arith) (record { threshold = omega arith; unlimited = refl; limited = refl; minimum = tt }) calls calls_fit

wrote_start : HasSent start calls (Packet.Picture (picture_of start))
wrote_start = inl (picture_of start, refl, refl)

wrote_one : HasSent start calls (Packet.Event (packet_of (services start one)))
wrote_one = inr (inr (inr (inr (inl (packet_of (services start one), refl, refl)))))

wrote_two : HasSent start calls (Packet.Event (packet_of (services start two)))
wrote_two = inr (inr (inr (inr (inr (inr (inr (inr (inr (inl (packet_of (services start two), refl, refl))))))))))

pub handed : AllCarried writer mixed
handed = (
  copy (Packet.Picture (picture_of start)) wrote_start refl,
  (
    copy (Packet.Event (packet_of (services start two))) wrote_two refl,
    (copy (Packet.Event (packet_of (services start two))) wrote_two refl, (copy (Packet.Event (packet_of (services start one))) wrote_one refl, tt)),
  ),
)

shows_start : (takes_bytes fresh (picture [] ∷ [])).shown ≡ Shown.Picture (picture_of start)
unfolding bytes.capability_bytes bytes.contract_bytes bytes.notice_bytes bytes.event_bytes bytes.consumer_bytes bytes.ports_bytes bytes.picture_bytes number.leb128 number.read_number parser.field parser.number wire.capability wire.contract wire.consumer wire.unconstrained wire.consumer_disconnected wire.consumer_connected wire.provider_disconnected wire.provider_connected wire.unconstrained_changed wire.notice_of wire.notice wire.event_notices wire.event_after wire.event wire.picture_after wire.picture wire.packet_of wire.packet held.none_held held.greatest held.above follower.in_turn policy.update_unconstrained_state policy.attach_charger policy.post_consumer_connected policy.detach_charger policy.disconnect_chargers policy.disconnect_current policy.connect_consumer policy.connect_new_consumer policy.connect_best policy.update_current_consumer policy.post_provider_connected policy.provide policy.connect_provider policy.remove_provider policy.post_provider_removed policy.process_psu_event
shows_start = refl

pub by_theorem : FollowerShows (takes_bytes fresh mixed) 2 (writer.held 2)
by_theorem =
    (run_demand_3 rust_default 2 0 (omega arith) (omega arith) (record { threshold = omega arith; unlimited = refl; limited = refl; minimum = tt }) calls calls_fit).b (picture [] ∷ []) later 0 2 (picture_of start).display handed
    shows_start (omega arith) comes nothing_above

-- the packets that the definition says: event 2 has three orders and two notices, event 3 its error, one order and no notice

pub says_none : packet_to (started start.registration) ≡ Err 27
says_none = refl

pub says_two : packet_to (policies (started start.registration) two)
    ≡ Ok (record { number = 2; answer = 0; orders = 3; notices = pushed_all empty (Event.ConsumerDisconnected 0 (record { reason = Some DisconnectReason.Switching }) ∷ Event.ConsumerConnected 1 strong ∷ []) })
unfolding policy.update_unconstrained_state policy.attach_charger policy.post_consumer_connected policy.detach_charger policy.disconnect_chargers policy.disconnect_current policy.connect_consumer policy.connect_new_consumer policy.connect_best policy.update_current_consumer policy.post_provider_connected policy.provide policy.connect_provider policy.remove_provider policy.post_provider_removed policy.process_psu_event
says_two = refl

pub says_three : packet_to (policies (started start.registration) three) ≡ Ok (record { number = 3; answer = 7; orders = 1; notices = empty })
unfolding policy.update_unconstrained_state policy.attach_charger policy.post_consumer_connected policy.detach_charger policy.disconnect_chargers policy.disconnect_current policy.connect_consumer policy.connect_new_consumer policy.connect_best policy.update_current_consumer policy.post_provider_connected policy.provide policy.connect_provider policy.remove_provider policy.post_provider_removed policy.process_psu_event
says_three = refl

-- a start with these figures is accepted, so that the demands hold of it

pub accepted : start_of (config_from 15000 5000 3000 5000 1500 0 0) 2 0 ≡ Ok start
accepted = refl

pub demands : Demands start
demands = after_start 15000 5000 3000 5000 1500 0 0 2 0 start accepted
