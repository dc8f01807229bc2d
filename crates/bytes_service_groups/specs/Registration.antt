-- What is registered, as 19 bytes: ports, chargers, limited_power_threshold_mw, provider_unlimited, provider_limited, and
-- min_consumer_threshold_mw as 0 and four zeros or 1 and the figure.
use Rattle.std.specs.Prelude.{ℕ, ◌+◌, cond, List, [], ◌∷◌, ◌++◌, eqb, get_or, None, Option, Some}
use Rattle.abstract_policy.specs.declared.state.Registration.{Registration}
use Rattle.bytes_groups.specs.Quad.{quad_at, quad_bytes, number_quad, number_from, power_quad, power_from}
use Rattle.bytes_service_groups.specs.declared.registration.Registered.{Registered}

abbrev pub registered_at : List ℕ → ℕ → Registered
registered_at s at =
    record {
      ports = get_or s (at + 0) 0;
      chargers = get_or s (at + 1) 0;
      threshold = quad_at s (at + 2);
      unlimited = quad_at s (at + 6);
      limited = quad_at s (at + 10);
      presence = get_or s (at + 14) 0;
      figure = quad_at s (at + 15);
    }

abbrev pub registered_bytes : Registered → List ℕ
registered_bytes g =
    (g.ports ∷ g.chargers ∷ [])
    ++ (quad_bytes g.threshold
    ++ (quad_bytes g.unlimited ++ (quad_bytes g.limited ++ (g.presence ∷ quad_bytes g.figure))))

-- writing

abbrev pub presence : Option ℕ → ℕ
presence None = 0
presence (Some n) = 1

abbrev pub figure : Option ℕ → ℕ
figure None = 0
figure (Some n) = n

abbrev pub registered : Registration → Registered
registered g =
    record {
      ports = g.ports;
      chargers = g.chargers;
      threshold = number_quad g.config.limited_power_threshold_mw;
      unlimited = power_quad g.config.provider_unlimited;
      limited = power_quad g.config.provider_limited;
      presence = presence g.config.min_consumer_threshold_mw;
      figure = number_quad (figure g.config.min_consumer_threshold_mw);
    }

-- reading

abbrev pub minimum_cases : ℕ → List (Option (Option ℕ))
minimum_cases n =
    cond (eqb n 0) (Some None) None
    ∷ Some (Some n)
    ∷ []

-- a presence above 1 is refused
abbrev pub minimum_read : ℕ → ℕ → Option (Option ℕ)
minimum_read p n = get_or (minimum_cases n) p None

abbrev pub registration_with : Option (Option ℕ) → Registered → Option Registration
registration_with None g = None
registration_with (Some m) g =
    Some (record {
      config = record {
        limited_power_threshold_mw = number_from g.threshold;
        provider_unlimited = power_from g.unlimited;
        provider_limited = power_from g.limited;
        min_consumer_threshold_mw = m;
      };
      ports = g.ports;
      chargers = g.chargers;
    })

abbrev pub registration_from : Registered → Option Registration
registration_from g = registration_with (minimum_read g.presence (number_from g.figure)) g

-- bytes 0 to 23: the first byte, what is registered, and the number of the event closed last
abbrev pub head_bytes : Registration → ℕ → List ℕ
head_bytes g n = 1 ∷ (registered_bytes (registered g) ++ quad_bytes (number_quad n))
