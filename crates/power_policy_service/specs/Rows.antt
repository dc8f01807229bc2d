-- A port's and a charger's record in a row. Counts are cut at 16 and 8, the lengths of the rows, so that get_or's last argument is never read.
use Rattle.std.specs.Prelude.{ℕ, List, get_or, None}
use Rattle.power_policy_interface.specs.declared.charger.InternalState.{InternalState}
use Rattle.power_policy_interface.specs.declared.charger.State as charger
use Rattle.power_policy_interface.specs.declared.psu.PsuState.{PsuState}
use Rattle.power_policy_interface.specs.declared.psu.State as psu

-- what the language reads past the end of a row, which no call does (a record's default, `default_state`, is Detached)
abbrev pub no_psu : psu.State
no_psu =
    record {
      psu_state = PsuState.Idle;
      consumer_capability = None;
      requested_provider_capability = None;
    }

abbrev pub psu_at : List psu.State → ℕ → psu.State
psu_at l i = get_or l i no_psu

abbrev pub charger_at : List charger.State → ℕ → charger.State
charger_at l i = get_or l i (record { state = InternalState.Unpowered; capability = None })
