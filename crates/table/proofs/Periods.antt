-- A difference is a period of a table if shifting all values by it changes no count. A table is fit just if each difference of two of its
-- values is a period.
use mathlib.Core.Path.{◌≡◌, refl, sym, ap, ◌∙◌}
use mathlib.Core.Bool.{Bool, true, false}
use mathlib.Core.List.{List}
use Prim.Native.Nat.{ℕ, ◌^◌}
use native.Mathlib.Omega.{arith}
use borrow.Author.Tests.{leb-true, leb-false}
use lib.Dec.{leb}
use lib.ListN.{length}
use Rattle.bits.specs.Xor.{◌⊕◌}
use Rattle.bits.proofs.Xor.{xors, assoc}
use Rattle.refusals.specs.Tests.{any_from}
use Rattle.table.specs.Balanced.{count_of}
use Rattle.table.specs.Fit.{fit}
use Rattle.table.proofs.Fit.{In, fit_equal, fit_closed, fit_made}

pub record Period (xs : List ℕ) (d : ℕ) : Type 0 where
  pub same : (v : ℕ) → count_of (v ⊕ d) xs ≡ count_of v xs

-- one period after another
pub period_both : {xs : List ℕ} {c d : ℕ} → Period xs c → Period xs d → Period xs (c ⊕ d)
period_both {xs} {c} {d} p q = record { same = λ v. ap (λ w. count_of w xs) (sym (assoc v c d)) ∙ q.same (v ⊕ c) ∙ p.same v }

module _ (n m : ℕ) (xs : List ℕ) where
  -- where v does not occur, its shift by a difference does not either: shifted once more it would be v
  pub fit_period : fit n m xs ≡ true → (u w : ℕ) → In u xs → In w xs → Period xs (u ⊕ w)
  fit_period h u w k l = record { same = λ v. same_by_cases v (leb 1 (count_of v xs)) (leb 1 (count_of (v ⊕ (u ⊕ w)) xs)) refl refl }
    where
      shifted : (v : ℕ) → In v xs → In (v ⊕ (u ⊕ w)) xs
      shifted v o = rw assoc at (fit_closed n m xs h v u w o k l)

      same_by_cases : (v : ℕ) (s t : Bool) → leb 1 (count_of v xs) ≡ s → leb 1 (count_of (v ⊕ (u ⊕ w)) xs) ≡ t
          → count_of (v ⊕ (u ⊕ w)) xs ≡ count_of v xs
      same_by_cases v true t e f =
          let o : In v xs = record { occurs = leb-true _ _ e } in
          fit_equal n m xs h _ v (shifted v o) o
      same_by_cases v false true e f =
          let back : In v xs = (simp xors at (shifted (v ⊕ (u ⊕ w)) (record { occurs = leb-true _ _ f }))) in
          absurd (omega (arith, back.occurs, leb-false 1 (count_of v xs) e))
      same_by_cases v false false e f = omega (arith, leb-false 1 (count_of v xs) e, leb-false 1 (count_of (v ⊕ (u ⊕ w)) xs) f)

  pub periods_fit : length xs ≡ 2 ^ n → any_from (2 ^ m) xs ≡ false → ((u w : ℕ) → In u xs → In w xs → Period xs (u ⊕ w)) → fit n m xs ≡ true
  periods_fit long none periods =
      fit_made n m xs long none (λ u v k l. sym ((simp xors at ((periods u v k l).same u))))
      (λ u v w k l o. record { occurs = rw (assoc, (periods v w l o).same u) k.occurs })
