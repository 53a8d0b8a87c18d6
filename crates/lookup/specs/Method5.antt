-- Method 5, Algorithm 5 of Rivain, Dottax and Prouff, which is Schramm and Paar's: the table is copied to the first half of the scratch under one
-- mask of its index and one of its entries, and from there to the second half under the others, where the answer is read.
use Rattle.std.specs.Prelude.{List, [], ◌∷◌, ◌++◌, map, ℕ, ◌*◌, drop}
use Rattle.bits.specs.Xor.{◌⊕◌}
use Rattle.table.specs.Balanced.{at}
use Rattle.table.specs.Tabulate.{tabulate}
use Rattle.lookup.specs.declared.Case.{Case}
use Rattle.lookup.specs.Case.{Q}
use Rattle.lookup.specs.Row.{Row, ◌∶◌, x0, r1, r2, s1, s2, turn}
use Rattle.lookup.specs.Method.{Method}

-- entry a of a copy of a table: its entry a ⊕ r, ⊕ s
unfoldable pub copied : (r s : ℕ) → (table : List ℕ) → (a : ℕ) → ℕ
copied r s table a = at table (a ⊕ r) ⊕ s

-- the first Q bytes: S[a ⊕ r1] ⊕ s1 for each a
abbrev pub first_half : Case → (table : List ℕ) → List ℕ
first_half c table = tabulate (Q c) (copied c.r1 c.s1 table)

-- the next Q: the first half's byte a ⊕ r2, ⊕ s2
abbrev pub second_half : Case → (half : List ℕ) → List ℕ
second_half c half = tabulate (Q c) (copied c.r2 c.s2 half)

-- bytes from 2Q on are unchanged
unfoldable pub scratch_5 : Case → (table scratch : List ℕ) → List ℕ
scratch_5 c table scratch = first_half c table ++ second_half c (first_half c table) ++ drop (2 * Q c) scratch

-- the answer is byte x0 of the second half
unfoldable pub answer_5 : Case → (table : List ℕ) → ℕ
answer_5 c table = at (second_half c (first_half c table)) c.x0

-- the log, kinds beside values
abbrev pub head_5 : List Row
head_5 = 1 ∶ x0 ∷ 2 ∶ r1 ∷ 3 ∶ r2 ∷ 4 ∶ s1 ∷ 5 ∶ s2 ∷ []

abbrev pub first_pass_5 : List Row
first_pass_5 =
    6 ∶ turn ∷ 7 ∶ (λ c table a. a ⊕ c.r1) ∷ 8 ∶ (λ c table a. at table (a ⊕ c.r1))
    ∷ 9 ∶ (λ c table a. copied c.r1 c.s1 table a) ∷ []

-- the second pass's rows, of whatever half it reads; and those rows where that is the first half
abbrev pub half_pass_5 : List Row
half_pass_5 =
    6 ∶ turn ∷ 10 ∶ (λ c half a. a ⊕ c.r2) ∷ 11 ∶ (λ c half a. at half (a ⊕ c.r2))
    ∷ 12 ∶ (λ c half a. copied c.r2 c.s2 half a) ∷ []

abbrev pub second_pass_5 : List Row
second_pass_5 = map (λ r. r.kind ∶ (λ c table a. r.value c (first_half c table) a)) half_pass_5

abbrev pub end_5 : List Row
end_5 = 1 ∶ x0 ∷ 13 ∶ (λ c table a. answer_5 c table) ∷ []

-- it draws neither r3 nor b: both are 0
abbrev pub method_5 : Method
method_5 =
    record {
      number = 5;
      layout = record { head = head_5; passes = first_pass_5 ∷ second_pass_5 ∷ []; end = end_5 };
      scratch_length = λ inputs. 2 * inputs;
      scratch = scratch_5;
      answer = answer_5;
      r3_most = λ inputs. 0;
      b_most = 0;
      mask_classes = 0 ∷ 0 ∷ 2 ∷ 1 ∷ 1 ∷ 2 ∷ [];
    }
