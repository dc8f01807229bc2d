-- A notice as seven bytes (docs/STATE.md): its kind and a group of six, those that the kind does not use zeros.
use Rattle.std.specs.Prelude.{ℕ, ◌+◌, ◌*◌, ◌/◌, ◌%◌, Bool, true, false, cond, ◌&&◌, List, [], ◌∷◌, eqb, leb, ltb, get_or, None, Option, Some}
use Rattle.power_policy_interface.specs.Limits.{max_ports}
use Rattle.power_policy_interface.specs.Capability.{bit, disconnect_byte, disconnect_from}
use Rattle.power_policy_interface.specs.declared.capability.ConsumerPowerCapability.{ConsumerPowerCapability}
use Rattle.power_policy_interface.specs.declared.capability.DisconnectFlags.{DisconnectFlags}
use Rattle.power_policy_interface.specs.declared.capability.ProviderPowerCapability.{ProviderPowerCapability}
use Rattle.power_policy_interface.specs.declared.service.event.Event.{Event}
pub use Rattle.interface_records.specs.Group.{pair_group}
use Rattle.interface_records.specs.Group.{empty_group, consumer_group, provider_group, all_zero, consumer_from, provider_from}
use Rattle.interface_records.specs.declared.group.Group.{Group}
use Rattle.interface_display.specs.Notices.{filler}
use Rattle.bytes_groups.specs.Tagged.{no_group}
use Rattle.bytes_groups.specs.declared.tagged.Tagged.{Tagged}
use Rattle.bytes_follower_image.specs.declared.notice.Tested.{Tested}

-- writing

abbrev pub notice_tagged : Event → Tagged
notice_tagged (Event.ConsumerDisconnected port f) = record { tag = 1; group = pair_group port (disconnect_byte f) }
notice_tagged (Event.ConsumerConnected port c) = record { tag = 2; group = consumer_group port c }
notice_tagged (Event.ProviderDisconnected port) = record { tag = 3; group = empty_group port }
notice_tagged (Event.ProviderConnected port c) = record { tag = 4; group = provider_group port c }
notice_tagged (Event.Unconstrained u) = record { tag = 5; group = pair_group (bit u.unconstrained) u.available }

abbrev pub zero_tagged : Tagged
zero_tagged = record { tag = 0; group = empty_group 0 }

-- place k of a count: a notice, or past the count zeros
abbrev pub place_tagged : ℕ → ℕ → Event → Tagged
place_tagged count k e = cond (ltb k count) (notice_tagged e) zero_tagged

-- reading

-- the four bytes after a pair are zeros: so is their sum
abbrev pub rest_zero : Group → Bool
rest_zero g = eqb (g.v1 + g.c0 + g.c1 + g.flags) 0

abbrev pub reason_read : ℕ → Option DisconnectFlags → Option Event
reason_read port None = None
reason_read port (Some f) = Some (Event.ConsumerDisconnected port f)

abbrev pub consumer_disconnected : Group → Option Event
consumer_disconnected g = cond (rest_zero g) (reason_read g.number (disconnect_from g.v0)) None

abbrev pub consumer_read : ℕ → Option ConsumerPowerCapability → Option Event
consumer_read port None = None
consumer_read port (Some c) = Some (Event.ConsumerConnected port c)

abbrev pub consumer_connected : Group → Option Event
consumer_connected g = consumer_read g.number (consumer_from g)

abbrev pub provider_disconnected : Group → Option Event
provider_disconnected g = cond (all_zero g) (Some (Event.ProviderDisconnected g.number)) None

abbrev pub provider_read : ℕ → Option ProviderPowerCapability → Option Event
provider_read port None = None
provider_read port (Some c) = Some (Event.ProviderConnected port c)

abbrev pub provider_connected : Group → Option Event
provider_connected g = provider_read g.number (provider_from g)

abbrev pub figures_fit : Group → Bool
figures_fit g = leb g.number 1 && (leb g.v0 max_ports && rest_zero g)

abbrev pub unconstrained_changed : Group → Option Event
unconstrained_changed g =
    cond (figures_fit g)
    (Some (Event.Unconstrained (record { unconstrained = eqb g.number 1; available = g.v0 })))
    None

abbrev pub notice_cases : Group → List (Option Event)
notice_cases g =
    None
    ∷ consumer_disconnected g
    ∷ consumer_connected g
    ∷ provider_disconnected g
    ∷ provider_connected g
    ∷ unconstrained_changed g
    ∷ []

-- the byte after the kind is a port, 0 to 15, or unconstrained, 0 or 1; a kind of 0 or above 5 is refused
abbrev pub notice_from : Tagged → Option Event
notice_from n = cond (leb n.group.number 15) (get_or (notice_cases n.group) n.tag None) None

abbrev pub is_zero : Tagged → Bool
is_zero n = eqb n.tag 0 && no_group n.group

-- place k of a count; past the count stands what pads notices
abbrev pub place_from : ℕ → ℕ → Tagged → Option Event
place_from count k n = cond (ltb k count) (notice_from n) (cond (is_zero n) (Some filler) None)

abbrev pub is_notice : Option Event → Bool
is_notice None = false
is_notice (Some e) = true

-- testing, by the bytes alone: of a notice the kind, the port's byte, the one after it, the four that follow as a number, and the
-- last of these (proofs/Tests.antt: a notice is read exactly where they fit)

abbrev pub four_bytes : ℕ → ℕ → ℕ → ℕ → ℕ
four_bytes a b c d = a + b * 256 + c * 65536 + d * 16777216

-- a byte at most so much, and zeros after it
abbrev pub pair_fits : ℕ → ℕ → ℕ → Bool
pair_fits v most rest = leb v most && eqb rest 0

abbrev pub provider_flags_fit : ℕ → Bool
provider_flags_fit flags = cond (eqb (flags % 2) 1) false (leb (flags / 2) 6)

abbrev pub figures_tested : ℕ → ℕ → ℕ → Bool
figures_tested unconstrained available rest = leb unconstrained 1 && pair_fits available max_ports rest

-- the seven bytes from a place on
abbrev pub tested_at : List ℕ → ℕ → Tested
tested_at s i = record {
  kind = get_or s i 0;
  port = get_or s (i + 1) 0;
  v = get_or s (i + 2) 0;
  rest = four_bytes (get_or s (i + 3) 0) (get_or s (i + 4) 0) (get_or s (i + 5) 0) (get_or s (i + 6) 0);
  flags = get_or s (i + 6) 0;
}

abbrev pub kind_cases : Tested → List Bool
kind_cases t =
    false
    ∷ pair_fits t.v 6 t.rest
    ∷ leb (t.flags / 2) 6
    ∷ pair_fits t.v 0 t.rest
    ∷ provider_flags_fit t.flags
    ∷ figures_tested t.port t.v t.rest
    ∷ []

abbrev pub bytes_fit : Tested → Bool
bytes_fit t = leb t.port 15 && get_or (kind_cases t) t.kind false

abbrev pub bytes_zero : Tested → Bool
bytes_zero t = eqb (t.kind + t.port + t.v + t.rest) 0
