-- What the call with a log hands back, in numbers: zeros beside the number of a refusal.
use Rattle.std.specs.Prelude.{ℕ, Result, Ok, Err}
use Rattle.refusals.specs.declared.Refusal.{Refusal}
use Rattle.refusals.specs.Numbers.{number_of}
use Rattle.selection.specs.declared.HalfShares.{HalfShares}

pub record Selected : Type 0 where
  pub refusal : ℕ
  pub first : ℕ
  pub second : ℕ
  pub third : ℕ
  pub count : ℕ

-- the numbers of the code's answer
abbrev pub handed_selection : Result HalfShares Refusal → Selected
handed_selection (Ok half) = record { refusal = 0; first = half.first; second = half.second; third = half.third; count = half.count }
handed_selection (Err refusal) = record { refusal = number_of refusal; first = 0; second = 0; third = 0; count = 0 }
