-- Method 3: the scratch says which turn's entry is kept, masked by the bit b.
use Rattle.std.specs.Prelude.{List, [], ◌∷◌, ◌++◌, ℕ, zero, suc, ◌-◌, drop, set, replicate}
use Rattle.bits.specs.Xor.{◌⊕◌}
use Rattle.table.specs.Balanced.{at}
use Rattle.lookup.specs.declared.Case.{Case}
use Rattle.lookup.specs.Case.{Q}
use Rattle.lookup.specs.Row.{Row, ◌∶◌, x0, r1, r2, r3, s1, s2, b, turn, index, looked_up, once_masked, masked}
use Rattle.lookup.specs.Method.{Method}

-- every byte below Q becomes 1 - b, then byte r3 becomes b
unfoldable pub comparison_table : Case → List ℕ
comparison_table c = set (replicate (Q c) (1 - c.b)) c.r3 c.b

unfoldable pub scratch_3 : Case → (scratch : List ℕ) → List ℕ
scratch_3 c scratch = comparison_table c ++ drop (Q c) scratch

-- cmp is scratch byte ((r1 ⊕ a) ⊕ r3) ⊕ r2
unfoldable pub place_3 : Case → (a : ℕ) → ℕ
place_3 c a = c.r1 ⊕ a ⊕ c.r3 ⊕ c.r2

unfoldable pub compared : Case → (a : ℕ) → ℕ
compared c a = at (comparison_table c) (place_3 c a)

-- registers 0 and 1 after the turns for a from 0: register cmp becomes the masked entry
unfoldable pub registers_3 : (turns : ℕ) → Case → (table : List ℕ) → List ℕ
registers_3 zero c table = 0 ∷ 0 ∷ []
registers_3 (suc a) c table = set (registers_3 a c table) (compared c a) (masked c table a)

-- the answer is register b
unfoldable pub answer_3 : Case → (table : List ℕ) → ℕ
answer_3 c table = at (registers_3 (Q c) c table) c.b

-- the log, kinds beside values
abbrev pub head_3 : List Row
head_3 = 11 ∶ x0 ∷ 1 ∶ r1 ∷ 2 ∶ r2 ∷ 3 ∶ s1 ∷ 4 ∶ s2 ∷ 6 ∶ b ∷ 5 ∶ r3 ∷ 18 ∶ (λ c table a. 1 - c.b) ∷ []

abbrev pub pass_3 : List Row
pass_3 =
    7 ∶ turn ∷ 8 ∶ (λ c table a. c.r1 ⊕ a) ∷ 9 ∶ (λ c table a. c.r1 ⊕ a ⊕ c.r3) ∷ 17 ∶ (λ c table a. place_3 c a)
    ∷ 10 ∶ (λ c table a. compared c a) ∷ 12 ∶ index ∷ 13 ∶ looked_up ∷ 14 ∶ once_masked ∷ 15 ∶ masked ∷ []

abbrev pub end_3 : List Row
end_3 = 6 ∶ b ∷ 16 ∶ (λ c table a. answer_3 c table) ∷ []

abbrev pub method_3 : Method
method_3 =
    record {
      number = 3;
      layout = record { head = head_3; passes = pass_3 ∷ []; end = end_3 };
      scratch_length = λ inputs. inputs;
      scratch = λ c table scratch. scratch_3 c scratch;
      answer = answer_3;
      r3_most = λ inputs. inputs - 1;
      b_most = 1;
      mask_classes = 0 ∷ 0 ∷ 0 ∷ 1 ∷ 1 ∷ 3 ∷ [];
    }
