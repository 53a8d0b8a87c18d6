-- Splitting, joining and key addition, with refusals 3 and 10.
use Rattle.std.specs.Prelude.{List, [], ◌∷◌, ℕ, zero, suc, ◌^◌, Result, Ok, Err}
use Rattle.bits.specs.Xor.{◌⊕◌}
use Rattle.refusals.specs.Checks.{◌when◌, first_of}
use Rattle.refusals.specs.Tests.{outside, any_from}
use Rattle.refusals.specs.declared.Refusal.{Refusal}
use Rattle.refusals.specs.Numbers.{number_of}
use Rattle.shares.specs.declared.Shares.{Shares}

-- what a call hands back, in numbers
pub record SharesReply : Type 0 where
  pub refusal : ℕ
  pub first : ℕ
  pub second : ℕ
  pub third : ℕ

pub record SecretReply : Type 0 where
  pub refusal : ℕ
  pub secret : ℕ

-- the numbers of the code's answer: zeros beside the number of a refusal
abbrev pub handed_shares : Result Shares Refusal → SharesReply
handed_shares (Ok shares) = record { refusal = 0; first = shares.first; second = shares.second; third = shares.third }
handed_shares (Err refusal) = record { refusal = number_of refusal; first = 0; second = 0; third = 0 }

abbrev pub handed_secret : Result ℕ Refusal → SecretReply
handed_secret (Ok secret) = record { refusal = 0; secret = secret }
handed_secret (Err refusal) = record { refusal = number_of refusal; secret = 0 }

-- 3: the width is below 1 or above 8; 10: a secret, share or key share is 2^n or more
unfoldable pub width_refusal : (n : ℕ) → (numbers : List ℕ) → ℕ
width_refusal n numbers = first_of (3 when (outside 1 8 n) ∷ 10 when (any_from (2 ^ n) numbers) ∷ [])

-- what a call hands back: its shares where nothing is refused, and zeros beside the number of a refusal
unfoldable pub reply : (refusal first second third : ℕ) → SharesReply
reply zero a b c = record { refusal = 0; first = a; second = b; third = c }
reply (suc k) a b c = record { refusal = suc k; first = 0; second = 0; third = 0 }

-- x0 = x ⊕ r1 ⊕ r2, and the masks r1 and r2
unfoldable pub split : (n x r1 r2 : ℕ) → SharesReply
split n x r1 r2 = reply (width_refusal n (x ∷ r1 ∷ r2 ∷ [])) (x ⊕ r1 ⊕ r2) r1 r2

unfoldable pub secret_reply : (refusal secret : ℕ) → SecretReply
secret_reply zero x = record { refusal = 0; secret = x }
secret_reply (suc k) x = record { refusal = suc k; secret = 0 }

unfoldable pub join : (n a b c : ℕ) → SecretReply
join n a b c = secret_reply (width_refusal n (a ∷ b ∷ c ∷ [])) (a ⊕ b ⊕ c)

-- share by share
unfoldable pub add_key : (n a b c k1 k2 k3 : ℕ) → SharesReply
add_key n a b c k1 k2 k3 = reply (width_refusal n (a ∷ b ∷ c ∷ k1 ∷ k2 ∷ k3 ∷ [])) (a ⊕ k1) (b ⊕ k2) (c ⊕ k3)
