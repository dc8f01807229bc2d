-- What a C function returns, and the slice that it may write afterwards.
use Rattle.std.specs.Prelude.{ℕ, List}
use Rattle.abstract_calls.specs.Numbers.{refused_number}

pub record Called : Type 0 where
  pub number : ℕ
  pub bytes : List ℕ

abbrev pub called : ℕ → List ℕ → Called
called n b = record { number = n; bytes = b }

-- turned back, it leaves the slice as it was
abbrev pub refused_call : ℕ → List ℕ → Called
refused_call n b = called (refused_number n) b
