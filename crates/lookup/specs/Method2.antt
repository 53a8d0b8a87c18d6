-- Method 2: the table is copied to the scratch, masked and in another order.
use Rattle.std.specs.Prelude.{List, [], ◌∷◌, ℕ, zero, suc, ◌-◌, set, replicate}
use Rattle.bits.specs.Xor.{◌⊕◌}
use Rattle.table.specs.Balanced.{at}
use Rattle.lookup.specs.declared.Case.{Case}
use Rattle.lookup.specs.Case.{Q}
use Rattle.lookup.specs.Row.{Row, ◌∶◌, x0, r1, r2, r3, s1, s2, turn, index, looked_up, once_masked, masked}
use Rattle.lookup.specs.Method.{Method}

-- r' = (r1 ⊕ r3) ⊕ r2
unfoldable pub r_prime : Case → ℕ
r_prime c = c.r1 ⊕ c.r3 ⊕ c.r2

-- the scratch after the turns for a from 0: byte a ⊕ r' becomes (S[x0 ⊕ a] ⊕ s1) ⊕ s2
unfoldable pub scratch_2 : (turns : ℕ) → Case → (table scratch : List ℕ) → List ℕ
scratch_2 zero c table scratch = scratch
scratch_2 (suc a) c table scratch = set (scratch_2 a c table scratch) (a ⊕ r_prime c) (masked c table a)

-- the answer is scratch byte r3, whatever the scratch held before
unfoldable pub answer_2 : Case → (table : List ℕ) → ℕ
answer_2 c table = at (scratch_2 (Q c) c table (replicate (Q c) 0)) c.r3

-- the log, kinds beside values
abbrev pub head_2 : List Row
head_2 = 10 ∶ x0 ∷ 1 ∶ r1 ∷ 2 ∶ r2 ∷ 3 ∶ s1 ∷ 4 ∶ s2 ∷ 5 ∶ r3 ∷ 6 ∶ (λ c table a. c.r1 ⊕ c.r3) ∷ 7 ∶ (λ c table a. r_prime c) ∷ []

abbrev pub pass_2 : List Row
pass_2 = 8 ∶ turn ∷ 9 ∶ (λ c table a. a ⊕ r_prime c) ∷ 11 ∶ index ∷ 12 ∶ looked_up ∷ 13 ∶ once_masked ∷ 14 ∶ masked ∷ []

abbrev pub end_2 : List Row
end_2 = 5 ∶ r3 ∷ 15 ∶ (λ c table a. answer_2 c table) ∷ []

abbrev pub method_2 : Method
method_2 =
    record {
      number = 2;
      layout = record { head = head_2; passes = pass_2 ∷ []; end = end_2 };
      scratch_length = λ inputs. inputs;
      scratch = λ c table scratch. scratch_2 (Q c) c table scratch;
      answer = answer_2;
      r3_most = λ inputs. inputs - 1;
      b_most = 0;
      mask_classes = 0 ∷ 0 ∷ 0 ∷ 1 ∷ 1 ∷ 2 ∷ [];
    }
