-- The count: over all choices of masks, how many put two given values at two given positions, of the log as it is defined (`log_of`) and
-- of the one that the call leaves. docs/REFERENCE.md lays the log out in words.
use Rattle.std.specs.Prelude.{cond, ◌&&◌, List, map, ℕ, eqb}
use Rattle.bits.specs.Xor.{◌⊕◌}
use Rattle.counting.specs.Choice.{over}
use Rattle.table.specs.Balanced.{at}
use Rattle.lookup.specs.declared.Case.{Case}
use Rattle.lookup.specs.Entry.{value_of}
use Rattle.lookup.specs.Method.{class_width}
use Rattle.lookup.specs.Methods.{method_of}
use Rattle.lookup.specs.Call.{log_of}
use Rattle.calls.specs.Reply.{logged_log}

-- where a call's masks stand among all masks of a choice
pub record MaskPlaces : Type 0 where
  pub r1 : ℕ
  pub r2 : ℕ
  pub r3 : ℕ
  pub s1 : ℕ
  pub s2 : ℕ
  pub b : ℕ

-- a single call's choice fixes r1, r2, r3, s1, s2 and b, in this order
abbrev pub single : MaskPlaces
single = record { r1 = 0; r2 = 1; r3 = 2; s1 = 3; s2 = 4; b = 5 }

-- the case of an input and a choice: x0 follows from x
unfoldable pub chosen_case : MaskPlaces → (method n m x : ℕ) → (choice : ℕ → ℕ) → Case
chosen_case p method n m x c =
    record {
      method = method;
      n = n;
      m = m;
      x0 = x ⊕ c p.r1 ⊕ c p.r2;
      r1 = c p.r1;
      r2 = c p.r2;
      s1 = c p.s1;
      s2 = c p.s2;
      r3 = c p.r3;
      b = c p.b;
    }

-- the masks' widths: b is one bit under method 3, and 0 under methods 2 and 5; r3 is 0 under method 5
unfoldable pub mask_widths : (method n m : ℕ) → List ℕ
mask_widths method n m = map (class_width n m) (method_of method).mask_classes

-- the value of an entry
unfoldable pub value_at : (log : List ℕ) → (position : ℕ) → ℕ
value_at log i = value_of (at log i)

-- 1 where the log has value u in entry i and value v in entry j
unfoldable pub shows : (i j u v : ℕ) → (log : List ℕ) → ℕ
shows i j u v log = cond (eqb (value_at log i) u && eqb (value_at log j) v) 1 0

unfoldable pub count : (table : List ℕ) → (method n m x i j u v : ℕ) → ℕ
count table method n m x i j u v = over (mask_widths method n m) (λ c. shows i j u v (log_of (chosen_case single method n m x c) table))

-- the same of the lent log, as the logged call leaves it for each choice
unfoldable pub call_count : (table scratch lent : List ℕ) → (method n m x i j u v : ℕ) → ℕ
call_count table scratch lent method n m x i j u v =
    over (mask_widths method n m) (λ c. shows i j u v (logged_log (chosen_case single method n m x c) table scratch lent))
