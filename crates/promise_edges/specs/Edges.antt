-- EDG-13: the edges as theorems about the definitions: of the contracts, of the event (abstract_policy specs/Edges.antt; the service follows it,
-- machine_follows) and of `follow`. The record is the table, `edges` its proof.
use Rattle.std.specs.Prelude.{◌≡◌, refl, Bool, true, false, List, [], ◌∷◌, ◌++◌, ℕ, ◌<◌, T, Err, None, Ok, Option, Some}
use Rattle.power_policy_interface.specs.Capability.{max_power_mw, same_option_provider}
use Rattle.power_policy_interface.specs.Psu.{attach_of, update_requested_of, invalid_state}
use Rattle.interface_display.specs.declared.AvailableConsumer.{AvailableConsumer}
use Rattle.power_policy_interface.specs.declared.capability.ConsumerPowerCapability.{ConsumerPowerCapability}
use Rattle.power_policy_interface.specs.declared.capability.ProviderPowerCapability.{ProviderPowerCapability}
use Rattle.power_policy_interface.specs.declared.psu.PsuState.{PsuState}
use Rattle.power_policy_interface.specs.declared.psu.StateKind.{StateKind}
use Rattle.power_policy_interface.specs.declared.psu.State.{State}
use Rattle.power_policy_interface.proofs.Same.{option_provider_refl}
use Rattle.interface_display.specs.declared.State as shown
use Rattle.power_policy_service.specs.Config.{rust_default}
use Rattle.power_policy_service.specs.Consumer.{eligible, available, best_of}
use Rattle.power_policy_service.specs.Provider.{power_state_of}
use Rattle.power_policy_service.specs.Rows.{psu_at}
use Rattle.power_policy_service.specs.declared.provider.PowerState.{PowerState}
use Rattle.power_policy_service.proofs.Choice.{only_chosen}
use Rattle.abstract_policy.specs.Edges.{psu, offer, contract, nothing, offering, EventEdges}
use Rattle.abstract_policy.proofs.Edges.{event_edges}
use Rattle.wire.specs.Number.{leb128, read_number}
use Rattle.wire.specs.Packet.{capability, contract as contractRead, consumer, unconstrained, consumer_connected, notice_of, notice, event_notices, event_after, event as eventPacket, picture_after, picture, packet_of, packet}
use Rattle.wire.specs.Parser.{field, number}
use Rattle.wire.specs.Read.{read_packet}
use Rattle.abstract_desk.specs.Edges.{picture0, event1, event2, event3}
use Rattle.desk_follower.specs.Follower as follower
use Rattle.desk_follower.specs.Held.{none_held, greatest, above}
use Rattle.desk_follower.specs.declared.Follower.{Follower}
use Rattle.wire_framing.specs.Framing.{framed}
use Rattle.abstract_page.specs.Edges.{PageEdges}
use Rattle.abstract_page.specs.Text.{decimal}
use Rattle.abstract_page.proofs.Edges.{page_edges}
use Rattle.desk_report.specs.Text.{header}
use Rattle.desk_report.specs.Line.{line_of, line_bytes, refused_bytes}
use Rattle.desk_report.specs.Desk.{after_read, taken_by, line_for, follow}
use Rattle.desk_report.specs.declared.line.Line.{Line}

abbrev mw_at : ℕ → ℕ → ℕ
mw_at v a = max_power_mw (record { voltage_mv = v; current_ma = a })

abbrev line : Option ℕ → shown.State → Option ℕ → Option ℕ → Line
line n s p m = record { shown = n; state = s; port = p; mw = m }

-- what the line after each packet says
abbrev taking : Follower → List (List ℕ) → List Line
taking f [] = []
taking f (p ∷ l) = line_of (after_read f (read_packet p)) ∷ taking (after_read f (read_packet p)) l

-- the example's input, and what `follow` writes for it

abbrev example_input : List ℕ
example_input =
    (0x06 ∷ picture0) ++ ((0x05 ∷ event2) ++ ((0x0D ∷ event1) ++ ((0x0D ∷ event1) ++ (0x05 ∷ event3))))

-- "1 0 level - -", "2 0 waiting - -", "3 2 level 1 60000", "4 2 level 1 60000", "5 - lost - -"
abbrev example_output : List ℕ
example_output =
    header
    ++ ((49 ∷ 32 ∷ 48 ∷ 32 ∷ 108 ∷ 101 ∷ 118 ∷ 101 ∷ 108 ∷ 32 ∷ 45 ∷ 32 ∷ 45 ∷ 10 ∷ [])
    ++ ((50 ∷ 32 ∷ 48 ∷ 32 ∷ 119 ∷ 97 ∷ 105 ∷ 116 ∷ 105 ∷ 110 ∷ 103 ∷ 32 ∷ 45 ∷ 32 ∷ 45 ∷ 10 ∷ [])
    ++ ((51 ∷ 32 ∷ 50 ∷ 32 ∷ 108 ∷ 101 ∷ 118 ∷ 101 ∷ 108 ∷ 32 ∷ 49 ∷ 32 ∷ 54 ∷ 48 ∷ 48 ∷ 48 ∷ 48 ∷ 10 ∷ [])
    ++ ((52 ∷ 32 ∷ 50 ∷ 32 ∷ 108 ∷ 101 ∷ 118 ∷ 101 ∷ 108 ∷ 32 ∷ 49 ∷ 32 ∷ 54 ∷ 48 ∷ 48 ∷ 48 ∷ 48 ∷ 10 ∷ [])
    ++ (53 ∷ 32 ∷ 45 ∷ 32 ∷ 108 ∷ 111 ∷ 115 ∷ 116 ∷ 32 ∷ 45 ∷ 32 ∷ 45 ∷ 10 ∷ [])))))

pub record Edges : Type 0 where
  -- EDG-1 (P1): 5,000 mV, 3,000 mA is 15,000 mW; 999 mV, 1 mA is 0; 65,535 twice is 4,294,836
  pub P1-type_c : mw_at 5000 3000 ≡ 15000
  pub P1-rounded_down : mw_at 999 1 ≡ 0
  pub P1-most : mw_at 65535 65535 ≡ 4294836
  -- EDG-2 (P2): no capability anywhere: none, whatever the minimum and the current consumer
  pub P2 : (minimum : Option ℕ) (current : Option AvailableConsumer) (psus : List State) (n : ℕ)
      → ((p : ℕ) → p < n → (psu_at psus p).consumer_capability ≡ None)
      → None ≡ best_of minimum current psus n
  -- EDG-3 (P3): minimum 7,500: 7,500 is eligible, 7,499 not
  pub P3-met : eligible (Some 7500) (offering (offer 5000 1500)) ≡ Some (offer 5000 1500)
  pub P3-missed : eligible (Some 7500) (offering (offer 7499 1000)) ≡ None
  -- EDG-4 (P4): ports 0 and 2 at 15,000: current 2 gives 2, no current gives 0
  pub P4-current : best_of None (available 2 (offer 5000 3000)) (offering (offer 15000 1000) ∷ nothing ∷ offering (offer 5000 3000) ∷ []) 3
      ≡ available 2 (offer 5000 3000)
  pub P4-none : best_of None None (offering (offer 15000 1000) ∷ nothing ∷ offering (offer 5000 3000) ∷ []) 3
      ≡ available 0 (offer 15000 1000)
  -- EDG-5 (P5): total 15,000 Unlimited, 15,001 Limited
  pub P5-unlimited : power_state_of rust_default 15000 ≡ PowerState.Unlimited
  pub P5-limited : power_state_of rust_default 15001 ≡ PowerState.Limited
  -- EDG-6 (P6), EDG-7 (P7), EDG-10 (P10) and three more: what an event does
  pub events : EventEdges
  -- the pages of the example's follower (PRG-7, S1), and one with four tracked ports
  pub pages : PageEdges
  -- EDG-8 (P8): attach in Idle is InvalidState (expected {Detached}, bit 1; actual Idle), and the record stays Idle
  pub P8 : (c : Option ConsumerPowerCapability) (r : Option ProviderPowerCapability)
      → attach_of (psu PsuState.Idle c r) ≡ record { result = Err (invalid_state 1 StateKind.Idle); state = psu PsuState.Idle c r }
  -- EDG-9 (P9): an equal request on a Detached record is no error
  pub P9 : (c : Option ConsumerPowerCapability) (r : Option ProviderPowerCapability)
      → update_requested_of (psu PsuState.Detached c r) r ≡ record { result = (Ok tt); state = psu PsuState.Detached c r }
  -- MIS-1: a port in ConnectedProvider is chosen as any other. (MIS-3, a Limited grant cut to the request, is excluded by P7, MIS-5, a later
  -- port on equal mW, by P4-none.)
  pub chosen_while_providing :
      best_of None None
      (offering (offer 5000 1500) ∷ psu (PsuState.ConnectedProvider (contract 5000 1500)) (Some (offer 5000 3000)) None ∷ [])
      2
      ≡ available 1 (offer 5000 3000)
  -- EDG-11 (P11): 128 is 80 01, 300 is AC 02, 80 00 is refused 31, whatever the limit and the rest
  pub P11-128 : leb128 128 ≡ 0x80 ∷ 0x01 ∷ []
  pub P11-300 : leb128 300 ≡ 0xAC ∷ 0x02 ∷ []
  pub P11-refused : (limit : ℕ) (rest : List ℕ) → read_number limit (0x80 ∷ 0x00 ∷ rest) ≡ Err 31
  -- EDG-12 (P12): the five takes of the example: n, state, port and mW after each; and the bytes that `follow` writes for its input
  pub P12 : taking follower.fresh (picture0 ∷ event2 ∷ event1 ∷ event1 ∷ event3 ∷ [])
      ≡ line (Some 0) shown.State.Level None None
      ∷ line (Some 0) shown.State.Waiting None None
      ∷ line (Some 2) shown.State.Level (Some 1) (Some 60000)
      ∷ line (Some 2) shown.State.Level (Some 1) (Some 60000)
      ∷ line None shown.State.Lost None None
      ∷ []
  pub P12-written : follow example_input ≡ example_output

is_true : (b : Bool) → T b → b ≡ true
is_true true t = refl
is_true false t = absurd t

p11_128 : leb128 128 ≡ 0x80 ∷ 0x01 ∷ []
unfolding leb128
p11_128 = refl

p11_300 : leb128 300 ≡ 0xAC ∷ 0x02 ∷ []
unfolding leb128
p11_300 = refl

p11_refused : (limit : ℕ) (rest : List ℕ) → read_number limit (0x80 ∷ 0x00 ∷ rest) ≡ Err 31
unfolding read_number
p11_refused limit rest = refl

p12 : taking follower.fresh (picture0 ∷ event2 ∷ event1 ∷ event1 ∷ event3 ∷ [])
    ≡ line (Some 0) shown.State.Level None None
    ∷ line (Some 0) shown.State.Waiting None None
    ∷ line (Some 2) shown.State.Level (Some 1) (Some 60000)
    ∷ line (Some 2) shown.State.Level (Some 1) (Some 60000)
    ∷ line None shown.State.Lost None None
    ∷ []
unfolding line_of read_number field number capability contractRead consumer unconstrained consumer_connected notice_of notice event_notices event_after eventPacket picture_after picture packet_of packet none_held greatest above follower.in_turn
p12 = refl

p12_written : follow example_input ≡ example_output
unfolding follow framed taken_by line_for line_bytes refused_bytes decimal line_of read_number field number capability contractRead consumer unconstrained consumer_connected notice_of notice event_notices event_after eventPacket picture_after picture packet_of packet none_held greatest above follower.in_turn
p12_written = refl

pub edges : Edges
edges =
    record {
      P1-type_c = refl;
      P1-rounded_down = refl;
      P1-most = refl;
      P2 = λ minimum current psus n h. only_chosen minimum current psus n None (λ p l. rw (h p l));
      P3-met = refl;
      P3-missed = refl;
      P4-current = refl;
      P4-none = refl;
      P5-unlimited = refl;
      P5-limited = refl;
      events = event_edges;
      pages = page_edges;
      P8 = λ c r. refl;
      P9 = λ c r. rw (is_true (same_option_provider r r) (option_provider_refl r));
      chosen_while_providing = refl;
      P11-128 = p11_128;
      P11-300 = p11_300;
      P11-refused = p11_refused;
      P12 = p12;
      P12-written = p12_written;
    }
