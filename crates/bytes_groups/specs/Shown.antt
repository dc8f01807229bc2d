-- The display as 11 bytes: optional consumer, unconstrained, available, and the tracked ports with bit p for port p, low byte first.
use Rattle.std.specs.Prelude.{ℕ, ◌+◌, ◌*◌, ◌/◌, ◌%◌, ◌^◌, Bool, true, cond, ◌&&◌, List, [], ◌∷◌, ◌++◌, eqb, leb, ltb, get_or, None, Option, Some}
use Rattle.power_policy_interface.specs.Capability.{bit}
use Rattle.interface_display.specs.declared.Display.{Display}
use Rattle.interface_display.specs.declared.providers.Providers.{Providers}
use Rattle.interface_display.specs.Providers.{len, max_connected_providers}
use Rattle.bytes_groups.specs.Tagged.{tagged_at, tagged_bytes, consumer_tagged, optional_from}
use Rattle.interface_display.specs.declared.AvailableConsumer.{AvailableConsumer}
use Rattle.bytes_groups.specs.declared.shown.Shown.{Shown}

-- the eleven bytes from a position on
abbrev pub shown_at : List ℕ → ℕ → Shown
shown_at s at =
    record {
      consumer = tagged_at s at;
      unconstrained = get_or s (at + 7) 0;
      available = get_or s (at + 8) 0;
      low = get_or s (at + 9) 0;
      high = get_or s (at + 10) 0;
    }

abbrev pub shown_bytes : Shown → List ℕ
shown_bytes g = tagged_bytes g.consumer ++ (g.unconstrained ∷ g.available ∷ g.low ∷ g.high ∷ [])

-- writing

abbrev pub display_shown : Display → Shown
display_shown d =
    record {
      consumer = consumer_tagged d.consumer;
      unconstrained = bit d.unconstrained.unconstrained;
      available = d.unconstrained.available;
      low = d.providers.mask % 256;
      high = d.providers.mask / 256;
    }

abbrev pub display_bytes : Display → List ℕ
display_bytes d = shown_bytes (display_shown d)

-- reading

abbrev pub display_with : Option (Option AvailableConsumer) → Shown → Option Display
display_with None g = None
display_with (Some c) g =
    cond (leb g.unconstrained 1)
    (Some (record {
      consumer = c;
      unconstrained = record { unconstrained = eqb g.unconstrained 1; available = g.available };
      providers = record { mask = g.low + g.high * 256 };
    }))
    None

-- an unconstrained byte above 1 is refused
abbrev pub display_from : Shown → Option Display
display_from g = display_with (optional_from g.consumer) g

-- fitting: every port is one of so many, and at most four are tracked

abbrev pub consumer_fits : ℕ → Option AvailableConsumer → Bool
consumer_fits ports None = true
consumer_fits ports (Some c) = ltb c.psu ports

abbrev pub providers_fit : ℕ → Providers → Bool
providers_fit ports t = ltb t.mask (2 ^ ports) && leb (len t) max_connected_providers

abbrev pub display_fits : ℕ → Display → Bool
display_fits ports d = consumer_fits ports d.consumer && (leb d.unconstrained.available ports && providers_fit ports d.providers)
