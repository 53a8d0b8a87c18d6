-- What stands at a position of a selection's log is what its row's expression shows, so rows that are alike count equally.
use mathlib.Core.Path.{◌≡◌, refl, sym, ap, ◌∙◌}
use mathlib.Core.List.{map}
use Prim.Native.Nat.{ℕ, ◌*◌, ◌^◌, ◌<◌}
use native.Mathlib.Nat.{not-suc-le-zero, le_refl}
use native.Mathlib.Omega.{arith}
use lib.ListN.{get_or}
use Rattle.bits.specs.Xor.{◌⊕◌}
use Rattle.bits.proofs.Xor.{xors, below}
use Rattle.counting.specs.Choice.{width, Within}
use Rattle.counting.proofs.Choice.{within_none, within_more}
use Rattle.counting.proofs.Over.{over_ext}
use Rattle.probing.specs.Expression.{Expression, value}
use Rattle.probing.specs.Alike.{Alike, Known, seen}
use Rattle.table.specs.Balanced.{at}
use Rattle.lookup.specs.Entry.{value_of}
use Rattle.lookup.proofs.Entry.{value_zero}
use Rattle.lookup.proofs.Layouts.{at_map}
use Rattle.secrecy.specs.Count.{value_at, shows}
use Rattle.secrecy.proofs.Observed.{observer}
use Rattle.halves.specs.declared.Selection.{Selection}
use Rattle.halves.specs.Halves.{half}
use Rattle.selection.specs.Log.{log_of}
use Rattle.selection.specs.Promises.{table_3}
use Rattle.selection.proofs.Rows.{all_values, values_in_table, log_shown}
use Rattle.selection_secrecy.specs.Count.{selection_widths, chosen_selection, selection_count}
use Rattle.selection_secrecy.specs.Expressions.{system, setting, secrets, rows, nothing}

abbrev pub row : (position : ℕ) → Expression
row i = get_or rows i nothing

-- what two pairs of word and bit have in common with the leak test's assumptions
pub known : (l z z' c c' : ℕ) → z < 2 ^ (2 * l) → z' < 2 ^ (2 * l) → c < 2 → c' < 2
    → Known system (setting l) (secrets z c) (secrets z' c')
known l z z' c c' hz hz' hc hc' =
    record {
      before = within_more hz (within_more hc within_none);
      after = within_more hz' (within_more hc' within_none);
      flag = le_refl 1;
      halves = omega arith;
      bit = refl;
      entries = λ t h. absurd (not-suc-le-zero h);
      even = λ t h. absurd (not-suc-le-zero h);
    }

module _ (l z c : ℕ) (hc : c < 2) (r : ℕ → ℕ) (inside : Within (selection_widths l) r) where
  abbrev s : Selection
  s = chosen_selection l z c r

  -- the rows' values are the source's Table 3
  rows_shown : map (value (setting l) (secrets z c) r) rows ≡ table_3 s c
  unfolding value chosen_selection half
  rows_shown = refl

  values_shown : all_values s ≡ map (value (setting l) (secrets z c) r) rows
  unfolding chosen_selection selection_widths width
  values_shown =
      let c1 : r 2 < 2 = inside.each 2 in
      let c2 : r 3 < 2 = inside.each 3 in
      let b : r 6 < 2 = inside.each 6 in
      let joined : c ⊕ r 2 ⊕ r 3 ⊕ r 2 ⊕ r 3 ≡ c = simp xors in
      values_in_table s (below 1 (below 1 hc c1) c2) c1 c2 b ∙ ap (table_3 s) joined ∙ sym rows_shown

  pub shown_at : (i : ℕ) → value_at (log_of s) i ≡ value_of (value (setting l) (secrets z c) r (row i))
  unfolding value_at value at
  shown_at i =
      sym (at_map value_of 0 value_zero (log_of s) i)
      ∙ ap (λ vs. at vs i) (log_shown s ∙ ap (map value_of) values_shown)
      ∙ at_map value_of 0 value_zero (map (value (setting l) (secrets z c) r) rows) i
      ∙ ap value_of (at_map (value (setting l) (secrets z c) r) nothing refl rows i)

count_seen : (l z c i j u v : ℕ) → c < 2
    → selection_count l z c i j u v ≡ seen system (setting l) (secrets z c) (observer u v) (row i) (row j)
unfolding selection_count shows selection_widths
count_seen l z c i j u v hc = over_ext (selection_widths l) (λ r inside. rw (shown_at l z c hc r inside i, shown_at l z c hc r inside j))

pub counts_equal : (l z z' c c' i j u v : ℕ) → c < 2 → c' < 2
    → Alike system (setting l) (secrets z c) (secrets z' c') (row i) (row j)
    → selection_count l z c i j u v ≡ selection_count l z' c' i j u v
counts_equal l z z' c c' i j u v hc hc' same =
    count_seen l z c i j u v hc ∙ same (observer u v) ∙ sym (count_seen l z' c' i j u v hc')
