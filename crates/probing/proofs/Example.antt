-- The leak test on a small system: pairs that pass, and what passing says for one table.
use mathlib.Core.Path.{refl, sym, ap, ◌∙◌}
use mathlib.Core.List.{List, [], ◌∷◌}
use Prim.Native.Nat.{ℕ, zero, suc, ◌%◌, ◌^◌, ◌<◌}
use native.Mathlib.Nat.{mod-lt, mod-eq_of_lt, le_refl}
use native.Mathlib.Omega.{arith}
use lib.Dec.{T}
use lib.ListN.{get_or}
use lib.Pow.{pow_pos}
use Rattle.bits.specs.Xor.{◌⊕◌}
use Rattle.bits.proofs.Xor.{below}
use Rattle.counting.specs.Choice.{◌▸◌}
use Rattle.counting.proofs.Sum.{sum_ext}
use Rattle.counting.proofs.Shift.{shift}
use Rattle.counting.proofs.Choice.{within_none, within_more}
use Rattle.probing.specs.Expression.{Expression, secret, mask, number, ◌⊞◌, lookup, differ, Setting}
use Rattle.probing.specs.Alike.{Alike, EvenFor, Known}
use Rattle.probing.specs.Test.{fine, all_fine}
use Rattle.probing.proofs.Caught.{system}
use Rattle.probing.proofs.Sound.{alike}

abbrev input : Expression
input = secret 0 ⊞ mask 0 ⊞ mask 1

abbrev refreshed : Expression
refreshed = mask 0 ⊞ mask 2 ⊞ mask 1

abbrev answer : Expression
answer = secret 1 ⊞ mask 3 ⊞ mask 4

-- the loop number a is public
abbrev masked_entry : (a : ℕ) → Expression
masked_entry a = lookup 0 (input ⊞ number 0 a) ⊞ mask 3 ⊞ mask 4

-- whether a is what the input is masked by
abbrev compared : (a : ℕ) → Expression
compared a = differ (refreshed ⊞ number 0 a) (mask 2)

-- the shift rule, the table rule, and the mask rule
input_refreshed : T (fine (system 3) input refreshed)
unfolding fine
input_refreshed = tt

entry_answer : (flag a : ℕ) → T (fine (system flag) (masked_entry a) answer)
unfolding fine
entry_answer flag a = tt

compared_input : (a : ℕ) → T (fine (system 2) (compared a ⊞ mask 5) input)
unfolding fine
compared_input a = tt

abbrev steps : (a : ℕ) → List Expression
steps a = input ∷ refreshed ∷ compared a ⊞ mask 5 ∷ masked_entry a ∷ answer ∷ []

all_pairs : (a a' : ℕ) → T (all_fine (system 2) (steps a) (steps a'))
unfolding all_fine
all_pairs a a' = tt

-- the table of n bits in which each index is its own entry
abbrev setting : (n : ℕ) → Setting
setting n = record { width = λ class. get_or (n ∷ n ∷ 1 ∷ []) class 0; tables = λ t z. z % 2 ^ n }

same_even : (n : ℕ) {d : ℕ} → d < 2 ^ n → EvenFor (2 ^ n) (λ z. z % 2 ^ n) d
same_even n {d} h g =
    sum_ext (2 ^ n) (λ z l. ap (λ x. g (x ⊕ d)) (mod-eq_of_lt l)) ∙ shift n g h ∙ sym (sum_ext (2 ^ n) (λ z l. ap g (mod-eq_of_lt l)))

known : (n x y : ℕ) → x < 2 ^ n → y < 2 ^ n → Known (system 2) (setting n) (x ▸ x ▸ (λ i. 0)) (y ▸ y ▸ (λ i. 0))
known n x y h l =
    record {
      before = within_more h (within_more h within_none);
      after = within_more l (within_more l within_none);
      flag = le_refl 1;
      halves = refl;
      bit = refl;
      entries = elim [ zero ↦ λ b z. mod-lt z (pow_pos n) | suc t ↦ λ b. absurd (omega arith) ];
      even = elim [ zero ↦ λ b. same_even n (below n h l) | suc t ↦ λ b. absurd (omega arith) ];
    }

entry_tells_nothing : (n x y a : ℕ) → x < 2 ^ n → y < 2 ^ n
    → Alike (system 2) (setting n) (x ▸ x ▸ (λ i. 0)) (y ▸ y ▸ (λ i. 0)) (masked_entry a) answer
entry_tells_nothing n x y a h l = alike (system 2) (setting n) (known n x y h l) (masked_entry a) answer (entry_answer 2 a)
