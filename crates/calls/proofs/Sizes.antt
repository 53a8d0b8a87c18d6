-- A plain call's number and share have eight bits each.
use mathlib.Core.Path.{◌≡◌, refl}
use mathlib.Core.List.{List, ◌++◌}
use Prim.Native.Nat.{ℕ, zero, suc, ◌≤◌, ◌<◌}
use native.Mathlib.Nat.{lt_of_lt_of_le}
use native.Mathlib.Omega.{arith}
use lib.Pow.{pow_mono}
use Rattle.refusals.proofs.Checks.{up_to, first_most}
use Rattle.table.specs.Refusals.{table_checks}
use Rattle.lookup.specs.declared.Case.{Case}
use Rattle.lookup.specs.Call.{answer}
use Rattle.lookup.specs.Promises.{AnswerSmall}
use Rattle.lookup.specs.Refusals.{method_checks, mask_checks, scratch_checks, box_checks, case_checks, plain_refusal}
use Rattle.lookup.proofs.Accepted.{accepted}
use Rattle.lookup.proofs.Refused.{plain_case}
use Rattle.lookup.proofs.Promises.{answer_small}
use Rattle.calls.specs.Reply.{called, plain_reply}

module _ (c : Case) (table scratch : List ℕ) where
  number_small : plain_refusal c table scratch ≤ 255
  unfolding plain_refusal up_to case_checks box_checks method_checks table_checks mask_checks scratch_checks
  number_small = first_most 255 (case_checks c table ++ scratch_checks c scratch) refl

  answer_byte : plain_refusal c table scratch ≡ 0 → answer c table < 256
  unfolding AnswerSmall
  answer_byte e =
      let whole = (plain_case c table scratch e).0 in
      let t = (accepted c table whole).1.table in
      lt_of_lt_of_le (answer_small table c whole) (pow_mono t.output_most)

  -- by the refusal, zero or not
  sizes : (k share : ℕ) → k ≤ 255 → (k ≡ 0 → share < 256) → ((called k share 0).refusal ≤ 255) × ((called k share 0).share < 256)
  unfolding called
  sizes zero share h l = (omega arith, l refl)
  sizes (suc k) share h l = (h, omega arith)

  pub reply_sizes : ((plain_reply c table scratch).refusal ≤ 255) × ((plain_reply c table scratch).share < 256)
  unfolding plain_reply
  reply_sizes = sizes _ _ number_small answer_byte
