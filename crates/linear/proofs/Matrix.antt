-- The laws of the map, and what its loop keeps.
use mathlib.Core.Path.{◌≡◌, sym, ap, ap₂, ◌∙◌}
use mathlib.Core.List.{List, [], ◌∷◌}
use Prim.Native.Nat.{ℕ, suc, ◌+◌, ◌*◌, ◌%◌, ◌^◌, ◌≤◌, ◌<◌}
use native.Mathlib.Nat.{pow-suc, mul-one, add-zero, zero-add, zero-mul}
use native.Mathlib.Numerals.{add-one}
use native.Mathlib.Omega.{arith}
use lib.Arith.{digits_lt}
use lib.Bits.{bit_or, or_shifted_r}
use lib.Dec.{lit<}
use lib.ListN.{length, get_or, drop, drop_of_length-le}
use lib.Pow.{shl_exact}
use lib.Seq.{drop-cons}
use Rattle.bits.specs.Xor.{◌⊕◌}
use Rattle.bits.proofs.Xor.{self, pair}
use Rattle.linear.specs.Layer.{odd_common, mapped}
use Rattle.linear.proofs.Parity.{odd_common_linear, odd_common_below}

pub mapped_linear : (rows : List ℕ) (a b : ℕ) → mapped rows (a ⊕ b) ≡ mapped rows a ⊕ mapped rows b
unfolding mapped
mapped_linear [] a b = sym (self 0)
mapped_linear (r ∷ rows) a b =
    ap₂ (λ high low. high * 2 + low) (mapped_linear rows a b) (odd_common_linear r a b)
    ∙ sym (pair _ _ _ _ (odd_common_below r a) (odd_common_below r b))

-- as many output bits as rows
pub mapped_below : (rows : List ℕ) (x : ℕ) → mapped rows x < 2 ^ length rows
unfolding mapped
mapped_below [] x = lit< tt
mapped_below (r ∷ rows) x = rw (pow-suc 2 (length rows)) (digits_lt (mapped_below rows x) (odd_common_below r x))

-- after i rows: the output has their i bits, and what the other rows give stands above them
pub record Mapping (rows : List ℕ) (x i output : ℕ) : Type 0 where
  pub within : i ≤ length rows
  pub low : output < 2 ^ i
  pub whole : output + mapped (drop i rows) x * 2 ^ i ≡ mapped rows x

pub mapping_begins : (rows : List ℕ) (x : ℕ) → Mapping rows x 0 0
mapping_begins rows x = record { within = omega arith; low = lit< tt; whole = zero-add _ ∙ mul-one _ }

bit_above : {odd output p : ℕ} → odd < 2 → output < p → odd * p + output < p * 2
bit_above h k = omega (arith, digits_lt h k)

one_more : (odd output p high rest whole : ℕ) → rest ≡ high * 2 + odd → output + rest * p ≡ whole
    → odd * p + output + high * (p * 2) ≡ whole
one_more odd output p high rest whole e f = omega (arith, ap (λ r. output + r * p) e)

-- one row more
pub mapping_turns : (rows : List ℕ) (x i output : ℕ) → length rows ≤ 8 → i < length rows → Mapping rows x i output
    → Mapping rows x (i + 1) (bit_or output ((odd_common (get_or rows i 0) x * 2 ^ i) % 2 ^ 32))
unfolding mapped
mapping_turns rows x i output few h m =
    let odd = odd_common (get_or rows i 0) x in
    let small : odd < 2 = odd_common_below (get_or rows i 0) x in
    let next : bit_or output ((odd * 2 ^ i) % 2 ^ 32) ≡ odd * 2 ^ i + output
    = ap (bit_or output) (shl_exact 1 i 32 small (omega arith)) ∙ or_shifted_r odd i output m.low in
    let rest : mapped (drop i rows) x ≡ mapped (drop (suc i) rows) x * 2 + odd = rw (drop-cons rows i 0 h) in
    rw (add-one, next)
    (record {
      within = h;
      low = rw (pow-suc 2 i) (bit_above small m.low);
      whole = rw (pow-suc 2 i) (one_more odd output (2 ^ i) _ _ _ rest m.whole);
    })

pub mapping_ends : (rows : List ℕ) (x i output : ℕ) → length rows ≤ i → Mapping rows x i output → output ≡ mapped rows x
unfolding mapped
mapping_ends rows x i output h m = sym (add-zero output) ∙ (rw (drop_of_length-le rows h, zero-mul) at m.whole)
