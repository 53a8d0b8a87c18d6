-- What a call hands back, in numbers: zeros beside the number of a refusal.
use Rattle.std.specs.Prelude.{ℕ, Result, Ok, Err}
use Rattle.refusals.specs.declared.Refusal.{Refusal}
use Rattle.refusals.specs.Numbers.{number_of}
use Rattle.lookup.specs.declared.Answered.{Answered}

pub record Called : Type 0 where
  pub refusal : ℕ
  pub share : ℕ
  pub count : ℕ

-- the numbers of the code's answer
abbrev pub handed_call : Result Answered Refusal → Called
handed_call (Ok answered) = record { refusal = 0; share = answered.share; count = answered.count }
handed_call (Err refusal) = record { refusal = number_of refusal; share = 0; count = 0 }
