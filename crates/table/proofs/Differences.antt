-- What the loops that look for periods of the counts keep.
use mathlib.Core.Path.{◌≡◌, refl, sym, ap, ◌∙◌}
use mathlib.Core.Bool.{Bool, true, false, ◌||◌, true≢false}
use mathlib.Core.List.{List}
use Prim.Native.Nat.{ℕ, suc, ◌+◌, ◌*◌, ◌-◌, ◌^◌, ◌≤◌, ◌<◌}
use native.Mathlib.Nat.{le_trans, le_of_lt, pow-suc, zero-mul, zero-add}
use native.Mathlib.Numerals.{add-one}
use native.Mathlib.Omega.{arith}
use borrow.Author.Tests.{eqb-true, eqb-false, eq-eqb, ne_eqb, leb-true, leb-false}
use lib.Bits.{bit_xor, xor_block}
use lib.Dec.{eqb, leb}
use lib.ListN.{get_or}
use lib.Pow.{pow_mono}
use Rattle.bits.specs.Xor.{◌⊕◌}
use Rattle.bits.proofs.Xor.{below, xors, assoc, zero_r}
use Rattle.table.specs.Balanced.{at}
use Rattle.table.specs.Counts.{period, all_periods, DifferenceFound}
use Rattle.table.proofs.Balanced.{below as each_below, all_pass, one_fails}

-- two bytes joined, as the code joins them
pub count_placed : (counts : List ℕ) (a b : ℕ) → get_or counts (bit_xor a b) 0 ≡ at counts (a ⊕ b)
unfolding at ◌⊕◌
count_placed counts a b = refl

-- after some values: none of them has another count than its shift
module _ (counts : List ℕ) (difference limit : ℕ) where
  pub agreeing_stops : (value shifted : ℕ) → value < limit → shifted ≡ at counts (value ⊕ difference) → (shifted ≡ get_or counts value 0 → ⊥)
      → false ≡ period limit counts difference
  unfolding period at
  agreeing_stops value shifted h f e = sym (one_fails limit _ value h (ne_eqb _ _ (λ p. e (f ∙ p))))

  pub agreeing_ends : (value : ℕ) → limit ≤ value → ((v : ℕ) → v < value → at counts (v ⊕ difference) ≡ at counts v)
      → true ≡ period limit counts difference
  unfolding period
  agreeing_ends value h agrees = sym (all_pass limit _ (λ v l. eq-eqb _ _ (agrees v (le_trans l h))))

  pub period_same : period limit counts difference ≡ true → (v : ℕ) → v < limit → at counts (v ⊕ difference) ≡ at counts v
  unfolding period
  period_same e v l = eqb-true _ _ (each_below limit _ e v l)

  -- 0 is a period of any counts
  pub zero_period : difference ≡ 0 → true ≡ period limit counts difference
  unfolding period
  zero_period z = sym (all_pass limit _ (λ v l. eq-eqb _ _ (ap (at counts) (rw z (zero_r v)))))

-- a power of two that is a limit of bytes
pub power_most : (k power : ℕ) → power ≡ 2 ^ k → k ≤ 8 → power ≤ 256
power_most k power e h = rw e (pow_mono h)

-- the ⊕ of two numbers with the same highest bit is below it
same_highest : (bit c d : ℕ) → 2 ^ bit ≤ c → c < 2 ^ suc bit → 2 ^ bit ≤ d → d < 2 ^ suc bit → c ⊕ d < 2 ^ bit
unfolding ◌⊕◌
same_highest bit c d h k l o =
    let p : ℕ = 2 ^ bit in
    let split : (e : ℕ) → p ≤ e → e ≡ 1 * p + (e - p) = λ e q. omega arith in
    let rest : (e : ℕ) → p ≤ e → e < 2 ^ suc bit → e - p < p = λ e q r. omega (arith, (rw pow-suc at r)) in
    rw (split c h, split d l, xor_block bit 1 1 (c - p) (d - p) (rest c h k) (rest d l o), zero-mul, zero-add)
    (below bit (rest c h k) (rest d l o))

-- after some highest bits: each difference below them that leads from the first entry to a value that occurs is a period
pub record PeriodsTo (m : ℕ) (counts : List ℕ) (first bit : ℕ) : Type 0 where
  pub periods : (d : ℕ) → d < 2 ^ bit → (at counts (first ⊕ d) ≡ 0 → ⊥) → (v : ℕ) → v < 2 ^ m → at counts (v ⊕ d) ≡ at counts v

module _ (m : ℕ) (counts : List ℕ) (first : ℕ) where
  pub periods_begin : PeriodsTo m counts first 0
  periods_begin = record {
    periods = λ d h _ v _.
        let none : d ≡ 0 = omega arith in
        ap (at counts) (rw none (zero_r v));
  }

  pub periods_turn : (bit difference limit : ℕ) → bit < m → first < 2 ^ m → limit ≡ 2 ^ m → DifferenceFound counts first bit difference
      → period limit counts difference ≡ true → PeriodsTo m counts first bit → PeriodsTo m counts first (bit + 1)
  periods_turn bit difference limit h small e found p k =
      rw (add-one bit) (record { periods = λ d l o. periods_by_cases d l o (leb (2 ^ bit) d) (eqb difference 0) refl refl })
    where
      Same : ℕ → Type 0
      Same d = (v : ℕ) → v < 2 ^ m → at counts (v ⊕ d) ≡ at counts v

      same : Same difference
      same = period_same counts difference (2 ^ m) (rw e at p)

      -- a new difference is the found one and one below it, which the found one leads from a value that occurs as well
      joined : (d : ℕ) → 2 ^ bit ≤ d → d < 2 ^ suc bit → (at counts (first ⊕ d) ≡ 0 → ⊥) → (difference ≡ 0 → ⊥) → Same d
      joined d g l o nonzero v w =
          let c = d ⊕ difference in
          let d_small : d < 2 ^ m = le_trans l (pow_mono h) in
          let difference_small : difference < 2 ^ m = le_trans found.most (pow_mono h) in
          let low : c < 2 ^ bit = same_highest bit d difference g l (found.least nonzero) found.most in
          let moved : at counts (first ⊕ c) ≡ at counts (first ⊕ d)
          = ap (at counts) (sym (assoc first d difference)) ∙ same (first ⊕ d) (below m small d_small) in
          let whole : v ⊕ d ≡ v ⊕ c ⊕ difference = simp xors in
          rw whole (same (v ⊕ c) (below m w (le_trans low (pow_mono (le_of_lt h)))) ∙ k.periods c low (λ z. o (sym moved ∙ z)) v w)

      periods_by_cases : (d : ℕ) → d < 2 ^ suc bit → (at counts (first ⊕ d) ≡ 0 → ⊥) → (s t : Bool) → leb (2 ^ bit) d ≡ s
          → eqb difference 0 ≡ t → Same d
      periods_by_cases d l o false t q r = k.periods d (leb-false _ _ q) o
      periods_by_cases d l o true true q r = absurd (o (found.none (eqb-true _ _ r) d (leb-true _ _ q) l))
      periods_by_cases d l o true false q r = joined d (leb-true _ _ q) l o (eqb-false _ _ r)

  pub periods_stop : (bit difference limit : ℕ) → bit < m → limit ≡ 2 ^ m → DifferenceFound counts first bit difference
      → period limit counts difference ≡ false → false ≡ all_periods (2 ^ m) counts first
  unfolding all_periods
  periods_stop bit difference limit h e found p =
      sym (one_fails (2 ^ m) _ difference (le_trans found.most (pow_mono h)) (rw (ne_eqb _ _ (found.occurs nonzero)) (rw e at p)))
    where
      nonzero : difference ≡ 0 → ⊥
      nonzero z = true≢false (zero_period counts difference limit z ∙ p)

  pub periods_end : (bit : ℕ) → m ≤ bit → PeriodsTo m counts first bit → true ≡ all_periods (2 ^ m) counts first
  unfolding all_periods period
  periods_end bit h k = sym (all_pass (2 ^ m) _ (λ d l. passes d l (eqb (at counts (first ⊕ d)) 0) refl))
    where
      passes : (d : ℕ) → d < 2 ^ m → (t : Bool) → eqb (at counts (first ⊕ d)) 0 ≡ t → (t || period (2 ^ m) counts d) ≡ true
      passes d l true q = refl
      passes d l false q =
          all_pass (2 ^ m) _ (λ v w. eq-eqb _ _ (k.periods d (le_trans l (pow_mono h)) (eqb-false _ _ q) v w))
