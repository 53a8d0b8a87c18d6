-- What a chained call hands back, in numbers: zeros beside the number of a refusal.
use Rattle.std.specs.Prelude.{ℕ, Result, Ok, Err}
use Rattle.refusals.specs.declared.Refusal.{Refusal}
use Rattle.refusals.specs.Numbers.{number_of}
use Rattle.chain.specs.declared.ChainAnswered.{ChainAnswered}

pub record Chained : Type 0 where
  pub refusal : ℕ
  pub share : ℕ
  pub first_count : ℕ
  pub second_count : ℕ

-- the numbers of the code's answer
abbrev pub handed_chain : Result ChainAnswered Refusal → Chained
handed_chain (Ok a) = record { refusal = 0; share = a.share; first_count = a.first_count; second_count = a.second_count }
handed_chain (Err refusal) = record { refusal = number_of refusal; share = 0; first_count = 0; second_count = 0 }
