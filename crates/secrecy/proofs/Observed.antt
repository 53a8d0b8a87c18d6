-- What stands at a position of a log is what its line's expression shows, so lines that are alike count equally.
use mathlib.Core.Path.{◌≡◌, refl, sym, ap, ◌∙◌}
use mathlib.Core.Bool.{cond, ◌&&◌}
use mathlib.Core.List.{List}
use Prim.Native.Nat.{ℕ, zero, suc, ◌^◌, ◌<◌}
use native.Mathlib.Nat.{mod-eq_of_lt, not-suc-le-zero, le_of_suc-le-suc, le_refl}
use lib.Dec.{eqb}
use lib.Pow.{pow_pos}
use Rattle.counting.specs.Choice.{Within}
use Rattle.counting.proofs.Choice.{within_none, within_more}
use Rattle.counting.proofs.Over.{over_ext}
use Rattle.probing.specs.Expression.{Setting, value}
use Rattle.probing.specs.Alike.{Alike, Known, seen}
use Rattle.table.specs.Balanced.{at}
use Rattle.table.specs.Even.{Even}
use Rattle.lookup.specs.declared.Case.{Case}
use Rattle.lookup.specs.Case.{Q}
use Rattle.lookup.specs.Entry.{value_of}
use Rattle.lookup.specs.Layout.{Layout, lines}
use Rattle.lookup.specs.Row.{Row, row_entry}
use Rattle.lookup.specs.Methods.{method_of}
use Rattle.lookup.specs.Call.{log_of}
use Rattle.lookup.proofs.Each.{each_of}
use Rattle.lookup.proofs.Entry.{entry_value, value_zero}
use Rattle.lookup.proofs.Layouts.{at_map, lines_map, lines_agree, SameRows, lines_same}
use Rattle.secrecy.specs.Count.{single, chosen_case, mask_widths, value_at, shows, count}
use Rattle.secrecy.specs.Expressions.{Shown, nothing, system, setting, secrets}
use Rattle.secrecy.proofs.Fine.{at_turn, line}
use Rattle.secrecy.proofs.Shown.{row_value, expression_value}

-- the value of an entry is its row's
pub value_of_row : (c : Case) (table : List ℕ) (turns : ℕ) (l : Layout Row) (i : ℕ)
    → value_of (at (lines (row_entry c table) turns l) i) ≡ value_of (at (lines (row_value c table) turns l) i)
unfolding at
value_of_row c table turns l i =
    sym (at_map value_of 0 value_zero (lines (row_entry c table) turns l) i)
    ∙ ap (λ ls. at ls i)
    (lines_map (row_entry c table) value_of turns l
    ∙ lines_agree (λ a r. value_of (row_entry c table a r)) (λ a r. value_of (row_value c table a r)) turns l
    (each_of _ (λ r. entry_value r.kind _)) (λ a _. each_of _ (λ r. entry_value r.kind _)) (each_of _ (λ r. entry_value r.kind _))
    ∙ sym (lines_map (row_value c table) value_of turns l))
    ∙ at_map value_of 0 value_zero (lines (row_value c table) turns l) i

-- what a layout's line shows is the value of its expression
value_of_line : (st : Setting) (secrets masks : ℕ → ℕ) (turns : ℕ) (l : Layout Shown) (i : ℕ)
    → at (lines (expression_value st secrets masks) turns l) i ≡ value st secrets masks (line turns l i)
unfolding value
value_of_line st secrets masks turns l i =
    ap (λ ls. at ls i) (sym (lines_map at_turn (value st secrets masks) turns l))
    ∙ at_map (value st secrets masks) nothing (mod-eq_of_lt (pow_pos _)) (lines at_turn turns l) i

-- an observer of two values
abbrev pub observer : (u v : ℕ) → ℕ → ℕ → ℕ
observer u v p q = cond (eqb (value_of p) u && eqb (value_of q) v) 1 0

-- where a call's rows show a layout's expressions, the value at a position of its log is that of its line
pub at_line : (st : Setting) (secrets masks : ℕ → ℕ) (c : Case) (table : List ℕ) (l : Layout Shown)
    → SameRows (row_value c table) (expression_value st secrets masks) (2 ^ c.n) (method_of c.method).layout l → (i : ℕ)
    → value_at (log_of c table) i ≡ value_of (value st secrets masks (line (2 ^ c.n) l i))
unfolding value_at log_of Q
at_line st secrets masks c table l shown i =
    value_of_row c table (2 ^ c.n) (method_of c.method).layout i
    ∙ ap value_of
    (ap (λ ls. at ls i) (lines_same _ _ (2 ^ c.n) (method_of c.method).layout l shown)
    ∙ value_of_line st secrets masks (2 ^ c.n) l i)

module _ (table : List ℕ) (n m : ℕ) where
  -- what two inputs and an even table have in common with the leak test's assumptions
  pub known : (masks : List ℕ) (x y : ℕ) → Even n (at table) → ((z : ℕ) → at table z < 2 ^ m) → x < 2 ^ n → y < 2 ^ n
      → Known (system masks) (setting n m table) (secrets table x) (secrets table y)
  known masks x y even small hx hy =
      record {
        before = within_more hx (within_more (small x) within_none);
        after = within_more hy (within_more (small y) within_none);
        flag = le_refl 1;
        halves = refl;
        bit = refl;
        entries = elim [ zero ↦ λ h index. small index | suc t ↦ λ h index. absurd (not-suc-le-zero (le_of_suc-le-suc h)) ];
        even =
            elim [
              | zero ↦ λ h observer. even.even observer x y hx hy
              | suc t ↦ λ h observer. absurd (not-suc-le-zero (le_of_suc-le-suc h))
            ];
      }

  module _ (method : ℕ) (l : Layout Shown) where
    -- the log shows the layout's expressions
    abbrev pub Shows : (x : ℕ) → Type 0
    Shows x =
        (c : ℕ → ℕ) → Within (mask_widths method n m) c →
        SameRows (row_value (chosen_case single method n m x c) table) (expression_value (setting n m table) (secrets table x) c) (2 ^ n)
        (method_of method).layout l

    shown_at : (x : ℕ) → Shows x → (c : ℕ → ℕ) → Within (mask_widths method n m) c → (i : ℕ)
        → value_at (log_of (chosen_case single method n m x c) table) i
        ≡ value_of (value (setting n m table) (secrets table x) c (line (2 ^ n) l i))
    unfolding chosen_case
    shown_at x shown c inside i =
        at_line (setting n m table) (secrets table x) c (chosen_case single method n m x c) table l (shown c inside) i

    count_seen : (x i j u v : ℕ) → Shows x
        → count table method n m x i j u v
        ≡ seen (system (method_of method).mask_classes) (setting n m table) (secrets table x) (observer u v) (line (2 ^ n) l i) (line (2 ^ n) l j)
    unfolding count shows mask_widths
    count_seen x i j u v shown =
        over_ext (mask_widths method n m) (λ c inside. rw (shown_at x shown c inside i, shown_at x shown c inside j))

    pub counts_equal : (x y i j u v : ℕ) → Shows x → Shows y
        → Alike (system (method_of method).mask_classes) (setting n m table) (secrets table x) (secrets table y) (line (2 ^ n) l i)
        (line (2 ^ n) l j)
        → count table method n m x i j u v ≡ count table method n m y i j u v
    counts_equal x y i j u v hx hy same = count_seen x i j u v hx ∙ same (observer u v) ∙ sym (count_seen y i j u v hy)
