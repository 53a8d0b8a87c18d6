-- The exported number fits 16 bits, since refusal and share have eight bits each.
use mathlib.Core.Path.{◌≡◌, ap}
use mathlib.Core.List.{List}
use Prim.Native.Nat.{ℕ, ◌+◌, ◌*◌, ◌<◌}
use native.Mathlib.Omega.{arith}
use mir.Syntax.{w16}
use mir.Val.{Fits}
use Rattle.std.specs.Prelude.{Ok, Err}
use Rattle.refusals.specs.declared.Refusal.{Refusal}
use Rattle.refusals.specs.Numbers.{number_of}
use Rattle.lookup.specs.declared.Answered.{Answered}
use Rattle.lookup.specs.declared.Case.{Case}
use Rattle.lookup.specs.Called.{Called, handed_call}
use Rattle.calls.specs.Reply.{plain_reply}
use Rattle.calls.proofs.Sizes.{reply_sizes}
use Rattle.cippazhey.specs.Export.{exported}

module _ (c : Case) (table scratch : List ℕ) where
  result_is : (r : Called) → r ≡ plain_reply c table scratch → r.refusal * 256 + r.share ≡ exported (plain_reply c table scratch)
  unfolding exported
  result_is r e = ap (λ (s : Called). s.refusal * 256 + s.share) e

  -- accepted
  module _ (answered : Answered) (e : handed_call (Ok answered) ≡ plain_reply c table scratch) where
    pub share_fits : Fits w16 answered.share
    share_fits =
        let small : answered.share < 256 = rw (← e) at (reply_sizes c table scratch).1 in
        record { fits = omega (arith, small) }

    pub share_is : answered.share ≡ exported (plain_reply c table scratch)
    share_is = omega (arith, result_is _ e)

  -- refused
  module _ (refusal : Refusal) (e : handed_call (Err refusal) ≡ plain_reply c table scratch) where
    pub number_is : (number : ℕ) → number ≡ number_of refusal → number * 256 ≡ exported (plain_reply c table scratch)
    number_is number f = omega (arith, result_is _ e)
