-- What a frame hands back, in numbers: zeros beside the number of a refusal.
use Rattle.std.specs.Prelude.{List, ℕ, replicate, Result, Ok, Err}
use Rattle.refusals.specs.declared.Refusal.{Refusal}
use Rattle.refusals.specs.Numbers.{number_of}
use Rattle.frame.specs.declared.Ciphertext.{Ciphertext}

pub record Encrypted : Type 0 where
  pub refusal : ℕ
  pub share1 : List ℕ
  pub share2 : List ℕ
  pub share3 : List ℕ

-- the numbers of the code's answer
abbrev pub handed_frame : Result Ciphertext Refusal → Encrypted
handed_frame (Ok c) = record { refusal = 0; share1 = c.share1; share2 = c.share2; share3 = c.share3 }
handed_frame (Err refusal) =
    record { refusal = number_of refusal; share1 = replicate 16 0; share2 = replicate 16 0; share3 = replicate 16 0 }
