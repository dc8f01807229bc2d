-- The exported functions (FRM-5), of any program: from the numbers and bytes that each is lent, the number that it returns and the bytes that it
-- leaves in the slice that it may write. A slice that it may only read stays, by its type.
use Rattle.std.specs.Prelude.{ℕ, List, Option}
use Rattle.power_policy_service.specs.Config.{config_from}
use Rattle.power_policy_service.specs.declared.config.Config.{Config}
use Rattle.abstract_calls.specs.Called.{Called}

-- what a start is given beside the bytes of its image
pub record Arguments : Type 0 where
  pub ports : ℕ
  pub chargers : ℕ
  pub threshold_mw : ℕ
  pub unlimited_mv : ℕ
  pub unlimited_ma : ℕ
  pub limited_mv : ℕ
  pub limited_ma : ℕ
  pub minimum_present : ℕ
  pub minimum_mw : ℕ

-- in the order of the C function
abbrev pub arguments : ℕ → ℕ → ℕ → ℕ → ℕ → ℕ → ℕ → ℕ → ℕ → Arguments
arguments ports chargers threshold unlimited_mv unlimited_ma limited_mv limited_ma present minimum =
    record {
      ports = ports;
      chargers = chargers;
      threshold_mw = threshold;
      unlimited_mv = unlimited_mv;
      unlimited_ma = unlimited_ma;
      limited_mv = limited_mv;
      limited_ma = limited_ma;
      minimum_present = present;
      minimum_mw = minimum;
    }

-- none if a figure is over its type or minimum-present is above 1; at 0, minimum-mw is not looked at
abbrev pub config_of : Arguments → Option Config
config_of a =
    config_from a.threshold_mw a.unlimited_mv a.unlimited_ma a.limited_mv a.limited_ma a.minimum_present a.minimum_mw

pub record Functions : Type 0 where
  -- image
  pub start : List ℕ → Arguments → Called
  -- image, ports' records, chargers' records; kind, device, detail
  pub open_event : List ℕ → List ℕ → List ℕ → ℕ → ℕ → ℕ → Called
  -- image, ports' records, chargers' records; answer
  pub answer : List ℕ → List ℕ → List ℕ → ℕ → Called
  -- image
  pub order : List ℕ → ℕ
  -- image, read only; buffer
  pub write_packet : List ℕ → List ℕ → Called
  pub write_picture : List ℕ → List ℕ → Called
  -- the desk: image
  pub follower_start : List ℕ → Called
  -- image; packet, read only
  pub take : List ℕ → List ℕ → Called
  -- image
  pub shown : List ℕ → ℕ
  pub consumer : List ℕ → ℕ
  pub tracked : List ℕ → ℕ
  -- image, read only; buffer
  pub write_page : List ℕ → List ℕ → Called
