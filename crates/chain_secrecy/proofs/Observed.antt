-- What stands at a position of either log is what its line's expression shows, so lines that are alike count equally.
use mathlib.Core.Path.{◌≡◌, refl, sym, ap, ◌∙◌}
use mathlib.Core.Bool.{true}
use mathlib.Core.List.{List}
use Prim.Native.Nat.{ℕ, zero, suc, ◌^◌, ◌<◌}
use native.Mathlib.Nat.{not-suc-le-zero, le_of_suc-le-suc, le_refl}
use Rattle.counting.specs.Choice.{over, Within}
use Rattle.counting.proofs.Choice.{within_none, within_more}
use Rattle.counting.proofs.Over.{over_ext}
use Rattle.probing.specs.Expression.{value}
use Rattle.probing.specs.Alike.{Alike, Known, seen}
use Rattle.table.specs.Balanced.{at}
use Rattle.table.specs.Even.{Even}
use Rattle.lookup.specs.Entry.{value_of}
use Rattle.lookup.specs.Layout.{Layout}
use Rattle.lookup.specs.Method.{Method}
use Rattle.lookup.specs.Methods.{known, method_of}
use Rattle.lookup.specs.Call.{log_of}
use Rattle.secrecy.specs.Count.{chosen_case, mask_widths, value_at}
use Rattle.secrecy.specs.Expressions.{Shown}
use Rattle.secrecy.proofs.Fine.{line}
use Rattle.secrecy.proofs.Shown.{Stands}
use Rattle.secrecy.proofs.Observed.{observer, at_line}
use Rattle.chain_secrecy.specs.Count.{Boxes, Which, first, second, behind, chain_widths, first_case, defined_logs, count_by, chain_count}
use Rattle.chain_secrecy.specs.Expressions.{chain_system, places, chain_setting, chain_secrets}
use Rattle.chain_secrecy.proofs.Fine.{Pairing, paired_rows}
use Rattle.chain_secrecy.proofs.Chosen.{first_drawn, second_drawn, following_chosen}

-- how many turns each call has
abbrev pub turns : Boxes → Which → ℕ
turns k first = 2 ^ k.input
turns k second = 2 ^ k.between

module _ (S T : List ℕ) (k : Boxes) where
  -- what two inputs and two even tables have in common with the leak test's assumptions
  pub assumed : (f g : Method) (x y : ℕ) → Even k.input (at S) → ((z : ℕ) → at S z < 2 ^ k.between) → Even k.between (at T)
      → ((z : ℕ) → at T z < 2 ^ k.output) → x < 2 ^ k.input → y < 2 ^ k.input
      → Known (chain_system f g) (chain_setting S T k) (chain_secrets S T x) (chain_secrets S T y)
  assumed f g x y even small even' small' hx hy =
      record {
        before = within_more hx (within_more (small x) (within_more (small' _) within_none));
        after = within_more hy (within_more (small y) (within_more (small' _) within_none));
        flag = le_refl 1;
        halves = refl;
        bit = refl;
        entries =
            elim [
              | zero ↦ λ h index. small index
              | suc zero ↦ λ h index. small' index
              | suc (suc t) ↦ λ h index. absurd (not-suc-le-zero (le_of_suc-le-suc (le_of_suc-le-suc h)))
            ];
        even =
            elim [
              | zero ↦ λ h observer. even.even observer x y hx hy
              | suc zero ↦ λ h observer. even'.even observer (at S x) (at S y) (small x) (small y)
              | suc (suc t) ↦ λ h observer. absurd (not-suc-le-zero (le_of_suc-le-suc (le_of_suc-le-suc h)))
            ];
      }

  module _ (p : Pairing (method_of k.first_method) (method_of k.second_method)) (known_first : known k.first_method ≡ true)
      (small : (z : ℕ) → at S z < 2 ^ k.between) where
    abbrev rows : Which → Layout Shown
    rows = paired_rows p.one p.two

    module _ (x : ℕ) (hx : x < 2 ^ k.input) (c : ℕ → ℕ) (inside : Within (chain_widths k) c) where
      first_stands : Stands (places first) (method_of k.first_method) k.input x S (chain_setting S T k) (chain_secrets S T x) c
      first_stands =
          let d = first_drawn k p.one p.two c inside in
          record {
            class = refl;
            bit = refl;
            entries = λ z. refl;
            input = refl;
            output = refl;
            small = hx;
            r1 = d.r1;
            r2 = d.r2;
            r3 = d.r3;
            b = d.b;
          }

      second_stands : Stands (places second) (method_of k.second_method) k.between (at S x) T (chain_setting S T k) (chain_secrets S T x) c
      second_stands =
          let d = second_drawn k p.one p.two c inside in
          record {
            class = refl;
            bit = refl;
            entries = λ z. refl;
            input = refl;
            output = refl;
            small = small x;
            r1 = d.r1;
            r2 = d.r2;
            r3 = d.r3;
            b = d.b;
          }

      -- the value at a position of either log
      shown_at : (w : Which) (i : ℕ)
          → value_at (defined_logs S T k x c w) i
          ≡ value_of (value (chain_setting S T k) (chain_secrets S T x) c (line (turns k w) (rows w) i))
      unfolding defined_logs first_case chosen_case
      shown_at first i =
          at_line (chain_setting S T k) (chain_secrets S T x) c (first_case k x c) S (rows first)
          (p.one.shown (places first) k.first_method k.input k.between x S _ _ c first_stands) i
      shown_at second i =
          ap (λ case. value_at (log_of case T) i) (following_chosen k p.one p.two c inside S x hx known_first)
          ∙ at_line (chain_setting S T k) (chain_secrets S T x) c
          (chosen_case behind k.second_method k.between k.output (at S x) c) T (rows second)
          (p.two.shown (places second) k.second_method k.between k.output (at S x) T _ _ c second_stands) i

    count_seen : (x : ℕ) (w w' : Which) (i j u v : ℕ) → x < 2 ^ k.input
        → chain_count S T k x w w' i j u v
        ≡ seen (chain_system (method_of k.first_method) (method_of k.second_method)) (chain_setting S T k) (chain_secrets S T x)
        (observer u v) (line (turns k w) (rows w) i) (line (turns k w') (rows w') j)
    unfolding chain_count count_by chain_widths mask_widths
    count_seen x w w' i j u v hx =
        let shown : Which → ℕ → (ℕ → ℕ) → ℕ
        = λ w i c. value (chain_setting S T k) (chain_secrets S T x) c (line (turns k w) (rows w) i) in
        over_ext (chain_widths k) (λ c inside. rw (shown_at x hx c inside w i, shown_at x hx c inside w' j))
        ∙ ap (λ (widths : List ℕ). over widths (λ c. observer u v (shown w i c) (shown w' j c))) (sym (p.widths k))

    pub counts_equal : (x y : ℕ) (w w' : Which) (i j u v : ℕ) → x < 2 ^ k.input → y < 2 ^ k.input
        → Alike (chain_system (method_of k.first_method) (method_of k.second_method)) (chain_setting S T k) (chain_secrets S T x)
        (chain_secrets S T y) (line (turns k w) (rows w) i) (line (turns k w') (rows w') j)
        → chain_count S T k x w w' i j u v ≡ chain_count S T k y w w' i j u v
    counts_equal x y w w' i j u v hx hy same =
        count_seen x w w' i j u v hx ∙ same (observer u v) ∙ sym (count_seen y w w' i j u v hy)
