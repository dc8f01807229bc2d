-- Event packet (PKT-8) and full picture (PKT-16), field by field from the left.
use Rattle.std.specs.Prelude.{ℕ, zero, suc, ◌+◌, ◌^◌, ◌&&◌, List, [], ◌∷◌, eqb, leb, ltb, get_or, None, Option, Some}
use Rattle.power_policy_interface.specs.Limits.{largest, max_ports, max_orders, max_notices}
use Rattle.power_policy_interface.specs.Capability.{consumer_flags_from, provider_flags_from, disconnect_from}
use Rattle.power_policy_interface.specs.declared.capability.PowerCapability.{PowerCapability}
use Rattle.power_policy_interface.specs.declared.capability.ConsumerFlags.{ConsumerFlags}
use Rattle.power_policy_interface.specs.declared.capability.ProviderFlags.{ProviderFlags}
use Rattle.power_policy_interface.specs.declared.capability.DisconnectFlags.{DisconnectFlags}
use Rattle.power_policy_interface.specs.declared.service.UnconstrainedState.{UnconstrainedState}
use Rattle.power_policy_interface.specs.declared.service.event.Event.{Event}
use Rattle.interface_display.specs.Notices.{empty, pushed}
use Rattle.interface_display.specs.declared.AvailableConsumer.{AvailableConsumer}
use Rattle.interface_display.specs.declared.notices.Notices.{Notices}
use Rattle.interface_display.specs.declared.packet.Packet.{Packet}
use Rattle.interface_display.specs.Providers.{max_connected_providers}
use Rattle.interface_display.specs.declared.providers.Providers.{Providers}
use Rattle.wire.specs.declared.packet.Contract.{Contract}
use Rattle.wire.specs.Parser.{Parser, ◌>>=◌, ◌>>◌, done, wrong, holds, byte, end, field, number}

-- a byte that stands for a value, or for none

abbrev pub consumer_flags_given : Option ConsumerFlags → Parser ConsumerFlags
consumer_flags_given None = wrong
consumer_flags_given (Some f) = done f

abbrev pub provider_flags_given : Option ProviderFlags → Parser ProviderFlags
provider_flags_given None = wrong
provider_flags_given (Some f) = done f

abbrev pub reason_given : Option DisconnectFlags → Parser DisconnectFlags
reason_given None = wrong
reason_given (Some f) = done f

-- mV and mA
unfoldable pub capability : Parser PowerCapability
capability = do
  mv ← number 65535
  ma ← number 65535
  done (record { voltage_mv = mv; current_ma = ma })

-- port, mV, mA, and the flags as a byte
unfoldable pub contract : Parser Contract
contract = do
  port ← field 15
  c ← capability
  b ← byte
  done (record { port = port; power = c; flags = b })

unfoldable pub consumer : Parser AvailableConsumer
consumer = do
  c ← contract
  f ← consumer_flags_given (consumer_flags_from c.flags)
  done (record { psu = c.port; consumer_power_capability = record { capability = c.power; flags = f } })

unfoldable pub unconstrained : Parser UnconstrainedState
unconstrained = do
  u ← field 1
  n ← field max_ports
  done (record { unconstrained = eqb u 1; available = n })

-- the notices, by their kinds

-- PKT-10: port, reason
unfoldable pub consumer_disconnected : Parser Event
consumer_disconnected = do
  port ← field 15
  b ← byte
  reason ← reason_given (disconnect_from b)
  done (Event.ConsumerDisconnected port reason)

-- PKT-11: port, mV, mA, flags
unfoldable pub consumer_connected : Parser Event
consumer_connected = do
  c ← consumer
  done (Event.ConsumerConnected c.psu c.consumer_power_capability)

-- PKT-12: port
unfoldable pub provider_disconnected : Parser Event
provider_disconnected = do
  port ← field 15
  done (Event.ProviderDisconnected port)

-- PKT-13: port, mV, mA, flags
unfoldable pub provider_connected : Parser Event
provider_connected = do
  c ← contract
  f ← provider_flags_given (provider_flags_from c.flags)
  done (Event.ProviderConnected c.port (record { capability = c.power; flags = f }))

-- PKT-14: unconstrained, available
unfoldable pub unconstrained_changed : Parser Event
unconstrained_changed = do
  u ← unconstrained
  done (Event.Unconstrained u)

abbrev pub notice_kinds : List (Parser Event)
notice_kinds =
    wrong
    ∷ consumer_disconnected
    ∷ consumer_connected
    ∷ provider_disconnected
    ∷ provider_connected
    ∷ unconstrained_changed
    ∷ []

unfoldable pub notice_of : ℕ → Parser Event
notice_of kind = get_or notice_kinds kind wrong

unfoldable pub notice : Parser Event
notice = do
  kind ← byte
  notice_of kind

-- PKT-17, FRM-6: so many more notices, each from the rest after the one before it
abbrev pub notices : ℕ → Notices → Parser Notices
notices zero l = done l
notices (suc k) l = do
  e ← notice
  notices k (pushed l e)

-- REF-32: so many more tracked ports, each at least `low` and then above the one before it
abbrev pub ports : ℕ → ℕ → ℕ → Parser Providers
ports zero low mask = done (record { mask = mask })
ports (suc k) low mask = do
  p ← byte
  holds (leb low p && leb p 15)
  ports k (suc p) (2 ^ p + mask)

-- PKT-8, an event packet: after its orders, after its number, after its kind

unfoldable pub event_notices : ℕ → ℕ → ℕ → Parser Packet
event_notices n answer orders = do
  count ← field max_notices
  l ← notices count empty
  end (Packet.Event (record { number = n; answer = answer; orders = orders; notices = l }))

unfoldable pub event_after : ℕ → Parser Packet
event_after n = do
  answer ← field 10
  orders ← number largest
  holds (leb orders max_orders)
  event_notices n answer orders

unfoldable pub event : Parser Packet
event = do
  n ← number largest
  holds (ltb 0 n)
  event_after n

-- after a presence byte
abbrev pub consumer_given : ℕ → Parser (Option AvailableConsumer)
consumer_given zero = done None
consumer_given (suc n) = do
  c ← consumer
  done (Some c)

-- PKT-16, a full picture: after its consumer, after its kind

unfoldable pub picture_after : ℕ → Option AvailableConsumer → Parser Packet
picture_after n c = do
  u ← unconstrained
  count ← field max_connected_providers
  p ← ports count 0 0
  end (Packet.Picture (record { number = n; display = record { consumer = c; unconstrained = u; providers = p } }))

unfoldable pub picture : Parser Packet
picture = do
  n ← number largest
  present ← field 1
  c ← consumer_given present
  picture_after n c

-- 1 an event packet, 2 a full picture
unfoldable pub packet_of : ℕ → Parser Packet
packet_of kind = get_or (wrong ∷ event ∷ picture ∷ []) kind wrong

unfoldable pub packet : Parser Packet
packet = do
  kind ← byte
  packet_of kind
