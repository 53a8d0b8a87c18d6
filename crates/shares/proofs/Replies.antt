-- The laws of replies and of their refusal, as the calls need them.
use mathlib.Core.Path.{◌≡◌}
use mathlib.Core.Bool.{true, false}
use mathlib.Core.List.{List}
use Prim.Native.Nat.{ℕ, zero, suc, ◌^◌, ◌<◌}
use native.Mathlib.Omega.{arith}
use Rattle.refusals.specs.Tests.{outside, any_from}
use Rattle.refusals.proofs.Checks.{stops, goes, none_applies}
use Rattle.refusals.proofs.Tests.{inside}
use Rattle.refusals.specs.declared.Refusal.{Refusal}
use Rattle.refusals.specs.Numbers.{number_of}
use Rattle.refusals.proofs.Numbers.{not_zero}
use Rattle.shares.specs.Shares.{width_refusal, reply, secret_reply}

-- a refused call's numbers, and an accepted one's
pub refused : (refusal : Refusal) (k a b c : ℕ) → number_of refusal ≡ k
    → record { refusal = number_of refusal; first = 0; second = 0; third = 0 } ≡ reply k a b c
unfolding reply
refused refusal zero a b c e = absurd (not_zero refusal e)
refused refusal (suc k) a b c e = rw e

pub accepted : (k a b c : ℕ) → 0 ≡ k → record { refusal = 0; first = a; second = b; third = c } ≡ reply k a b c
unfolding reply
accepted k a b c e = rw (← e)

pub secret_refused : (refusal : Refusal) (k x : ℕ) → number_of refusal ≡ k → record { refusal = number_of refusal; secret = 0 } ≡ secret_reply k x
unfolding secret_reply
secret_refused refusal zero x e = absurd (not_zero refusal e)
secret_refused refusal (suc k) x e = rw e

pub secret_accepted : (k x : ℕ) → 0 ≡ k → record { refusal = 0; secret = x } ≡ secret_reply k x
unfolding secret_reply
secret_accepted k x e = rw (← e)

-- the two checks, as the code goes through them
pub at_3 : (n : ℕ) (xs : List ℕ) → outside 1 8 n ≡ true → 3 ≡ width_refusal n xs
unfolding width_refusal
at_3 n xs t = stops 3 _ t

pub at_10 : (n : ℕ) (xs : List ℕ) → outside 1 8 n ≡ false → any_from (2 ^ n) xs ≡ true → 10 ≡ width_refusal n xs
unfolding width_refusal
at_10 n xs p t = goes 3 _ p (stops 10 _ t)

pub at_end : (n : ℕ) (xs : List ℕ) → outside 1 8 n ≡ false → any_from (2 ^ n) xs ≡ false → 0 ≡ width_refusal n xs
unfolding width_refusal
at_end n xs p t = goes 3 _ p (goes 10 _ t none_applies)

-- an accepted width leaves room for the shift
pub width_small : (n : ℕ) → outside 1 8 n ≡ false → n < 32
width_small n p = omega (arith, inside 1 8 n p)
