-- What a method is, said once: its number, its log, its scratch, its answer, and what it draws.
use Rattle.std.specs.Prelude.{List, [], ℕ, zero, suc}
use Rattle.lookup.specs.declared.Case.{Case}
use Rattle.lookup.specs.Layout.{Layout}
use Rattle.lookup.specs.Row.{Row}

pub record Method : Type 0 where
  pub number : ℕ
  pub layout : Layout Row
  -- how many bytes of scratch it needs for a table of so many entries
  pub scratch_length : (inputs : ℕ) → ℕ
  -- the scratch that it leaves, and its answer
  pub scratch : Case → (table scratch : List ℕ) → List ℕ
  pub answer : Case → (table : List ℕ) → ℕ
  -- the largest r3 that it takes, for a table of so many entries, and the largest b; 0 where it draws none
  pub r3_most : (inputs : ℕ) → ℕ
  pub b_most : ℕ
  -- the classes of the masks r1, r2, r3, s1, s2 and b, over which a choice runs
  pub mask_classes : List ℕ

-- classes of numbers: 0 the input's width, 1 the output's, 2 none, 3 and above one bit
abbrev pub class_width : (n m : ℕ) → (class : ℕ) → ℕ
class_width n m zero = n
class_width n m (suc zero) = m
class_width n m (suc (suc zero)) = 0
class_width n m (suc (suc (suc k))) = 1

-- what is found for a number that no method has: nothing is logged, and the scratch is left as it was
abbrev pub no_method : Method
no_method =
    record {
      number = 0;
      layout = record { head = []; passes = []; end = [] };
      scratch_length = λ inputs. 0;
      scratch = λ c table scratch. scratch;
      answer = λ c table. 0;
      r3_most = λ inputs. 0;
      b_most = 0;
      mask_classes = [];
    }
