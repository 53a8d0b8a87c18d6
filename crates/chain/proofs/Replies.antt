-- What a chained call hands back and leaves behind, refused and accepted, from what its parts told.
use mathlib.Core.Path.{◌≡◌, refl, sym, ap, ◌∙◌}
use mathlib.Core.List.{List}
use Prim.Native.Nat.{ℕ, zero, suc}
use Rattle.std.specs.Prelude.{Ok}
use Rattle.refusals.specs.Left.{left}
use Rattle.refusals.proofs.Left.{left_refused, left_accepted}
use Rattle.refusals.proofs.Numbers.{not_zero}
use Rattle.lookup.specs.declared.Case.{Case}
use Rattle.lookup.specs.declared.Answered.{Answered}
use Rattle.lookup.specs.Called.{Called, handed_call}
use Rattle.lookup.specs.Call.{answer, log_length}
use Rattle.lookup.specs.Refusals.{logged_refusal}
use Rattle.calls.specs.Reply.{called, logged_reply, logged_scratch, logged_log}
use Rattle.chain.specs.declared.Second.{Second}
use Rattle.chain.specs.Lent.{lent}
use Rattle.chain.specs.Chain.{second_case, following, chained, chain_refusal, chain_reply}
use Rattle.chain.specs.Chain.{chain_first_scratch, chain_second_scratch, chain_first_log, chain_second_log}
use Rattle.chain.proofs.Accepted.{Passed, chain_passed}

chained_refused : (j k share count count' : ℕ) → j ≡ k → (j ≡ 0 → ⊥)
    → record { refusal = j; share = 0; first_count = 0; second_count = 0 } ≡ chained k share count count'
unfolding chained
chained_refused zero k share count count' e h = absurd (h refl)
chained_refused (suc j) k share count count' e h = rw (← e)

chained_accepted : (j k share count count' : ℕ) → j ≡ k → j ≡ 0
    → record { refusal = j; share = share; first_count = count; second_count = count' } ≡ chained k share count count'
unfolding chained
chained_accepted j k share count count' e z = rw (← e, z)

module _ (first : Case) (second : Second) (S T scratch scratch' log log' : List ℕ) (j : ℕ)
    (told : j ≡ chain_refusal first second (lent S T scratch scratch' log log')) where
  -- refused
  pub refused_reply : (j ≡ 0 → ⊥)
      → record { refusal = j; share = 0; first_count = 0; second_count = 0 } ≡ chain_reply first second (lent S T scratch scratch' log log')
  unfolding chain_reply
  refused_reply h = chained_refused j _ _ _ _ told h

  pub first_scratch_kept : (j ≡ 0 → ⊥) → scratch ≡ chain_first_scratch first second (lent S T scratch scratch' log log')
  unfolding chain_first_scratch
  first_scratch_kept h = left_refused j _ _ _ told h

  pub second_scratch_kept : (j ≡ 0 → ⊥) → scratch' ≡ chain_second_scratch first second (lent S T scratch scratch' log log')
  unfolding chain_second_scratch
  second_scratch_kept h = left_refused j _ _ _ told h

  pub first_log_kept : (j ≡ 0 → ⊥) → log ≡ chain_first_log first second (lent S T scratch scratch' log log')
  unfolding chain_first_log
  first_log_kept h = left_refused j _ _ _ told h

  pub second_log_kept : (j ≡ 0 → ⊥) → log' ≡ chain_second_log first second (lent S T scratch scratch' log log')
  unfolding chain_second_log
  second_log_kept h = left_refused j _ _ _ told h

-- accepted: both runs are of accepted calls
module _ (first : Case) (second : Second) (S T scratch scratch' log log' : List ℕ)
    (told : 0 ≡ chain_refusal first second (lent S T scratch scratch' log log')) where
  both : Passed first second S T scratch scratch' log log'
  both = chain_passed first second S T scratch scratch' log log' (sym told)

  pub first_goes : logged_refusal first S scratch log ≡ 0
  first_goes = both.first_accepted

  pub first_scratch_left : (now : List ℕ) → now ≡ logged_scratch first S scratch log
      → now ≡ chain_first_scratch first second (lent S T scratch scratch' log log')
  unfolding chain_first_scratch logged_scratch left
  first_scratch_left now e = e ∙ rw first_goes (left_accepted 0 _ _ _ told refl)

  pub first_log_left : (now : List ℕ) → now ≡ logged_log first S scratch log
      → now ≡ chain_first_log first second (lent S T scratch scratch' log log')
  unfolding chain_first_log logged_log left
  first_log_left now e = e ∙ rw first_goes (left_accepted 0 _ _ _ told refl)

  -- the first has told one, and the second's case is made of its share
  module _ (one : Answered) (of_first : handed_call (Ok one) ≡ logged_reply first S scratch log) (later : Case)
      (made : later ≡ second_case first second one.share) where
    share_between : one.share ≡ answer first S
    unfolding logged_reply called
    share_between = ap (λ (r : Called). r.share) of_first ∙ rw first_goes

    first_counted : one.count ≡ log_length first.method first.n
    unfolding logged_reply called
    first_counted = ap (λ (r : Called). r.count) of_first ∙ rw first_goes

    is_following : later ≡ following first second S
    unfolding following
    is_following = made ∙ ap (second_case first second) share_between

    pub second_goes : logged_refusal later T scratch' log' ≡ 0
    second_goes = ap (λ c. logged_refusal c T scratch' log') is_following ∙ both.second_accepted

    pub both_answered : (two : Answered) → handed_call (Ok two) ≡ logged_reply later T scratch' log'
        → record { refusal = 0; share = two.share; first_count = one.count; second_count = two.count }
        ≡ chain_reply first second (lent S T scratch scratch' log log')
    unfolding chain_reply logged_reply called following second_case
    both_answered two of_second =
        let same : handed_call (Ok two) ≡ logged_reply (following first second S) T scratch' log'
        = of_second ∙ ap (λ c. logged_reply c T scratch' log') is_following in
        let share : two.share ≡ answer (following first second S) T
        = ap (λ (r : Called). r.share) same ∙ rw both.second_accepted in
        let count : two.count ≡ log_length second.method second.n
        = ap (λ (r : Called). r.count) same ∙ rw both.second_accepted in
        rw (share, count, first_counted) (chained_accepted 0 _ _ _ _ told refl)

    pub second_scratch_left : (now : List ℕ) → now ≡ logged_scratch later T scratch' log'
        → now ≡ chain_second_scratch first second (lent S T scratch scratch' log log')
    unfolding chain_second_scratch logged_scratch left
    second_scratch_left now e =
        e ∙ ap (λ c. logged_scratch c T scratch' log') is_following ∙ rw both.second_accepted (left_accepted 0 _ _ _ told refl)

    pub second_log_left : (now : List ℕ) → now ≡ logged_log later T scratch' log'
        → now ≡ chain_second_log first second (lent S T scratch scratch' log log')
    unfolding chain_second_log logged_log left
    second_log_left now e =
        e ∙ ap (λ c. logged_log c T scratch' log') is_following ∙ rw both.second_accepted (left_accepted 0 _ _ _ told refl)

-- the lemmas that are found at a goal of the call by what they conclude
pub ruleset replies = (
  first_scratch_kept,
  second_scratch_kept,
  first_log_kept,
  second_log_kept,
  not_zero,
  first_goes,
  second_goes,
  first_scratch_left,
  first_log_left,
)
