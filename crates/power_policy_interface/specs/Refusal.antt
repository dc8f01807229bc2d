-- REF-20 to REF-34: the number of each condition, and results that say which condition by its number.
use Rattle.std.specs.Prelude.{ℕ, Result, Ok, Err}
use Rattle.power_policy_interface.specs.declared.refusal.Refusal.{Refusal}

abbrev pub refusal_number : Refusal → ℕ
refusal_number Refusal.Registration = 20
refusal_number Refusal.Image = 21
refusal_number Refusal.Records = 22
refusal_number Refusal.NotRegistered = 23
refusal_number Refusal.Unknown = 24
refusal_number Refusal.EventOpen = 25
refusal_number Refusal.NoOrder = 26
refusal_number Refusal.NoEvent = 27
refusal_number Refusal.NumbersUsed = 28
refusal_number Refusal.Buffer = 29
refusal_number Refusal.CutShort = 30
refusal_number Refusal.Number = 31
refusal_number Refusal.Layout = 32
refusal_number Refusal.LeftOver = 33
refusal_number Refusal.Page = 34

-- a result with the number of the condition in the place of the condition
abbrev pub numbered : {A : Type 0} → Result A Refusal → Result A ℕ
numbered (Ok a) = Ok a
numbered (Err r) = Err (refusal_number r)

-- the number of the condition that turns back, 0 if none does
abbrev pub turned_back_by : {A : Type 0} → Result A Refusal → ℕ
turned_back_by (Ok a) = 0
turned_back_by (Err r) = refusal_number r
