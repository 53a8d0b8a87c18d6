-- How the registers are filled, and what is read from them.
use mathlib.Core.Path.{◌≡◌}
use mathlib.Core.List.{List, [], ◌∷◌}
use Prim.Native.Nat.{ℕ, ◌-◌}
use lib.Bits.{bit_xor}
use lib.ListN.{get_or, set}
use Rattle.bits.specs.Xor.{◌⊕◌}
use Rattle.table.specs.Balanced.{at}
use Rattle.halves.specs.declared.Selection.{Selection}
use Rattle.halves.specs.Halves.{half, c3, masked, registers, share}

module _ (s : Selection) (bit : ℕ) (pair : List ℕ) (place r : ℕ) where
  pub stored_0 : r ≡ half s.width bit s.z0 → set pair place (bit_xor r s.t1) ≡ set pair place (masked 0 s bit)
  unfolding masked ◌⊕◌
  stored_0 e = rw e

  pub stored_1 : r ≡ half s.width bit s.z1 → set pair place (bit_xor r s.t2) ≡ set pair place (masked 1 s bit)
  unfolding masked ◌⊕◌
  stored_1 e = rw e

  -- the second mask is added to what came through the barrier
  pub stored_2 : (w : ℕ) → r ≡ half s.width bit s.z2 → w ≡ bit_xor r s.t1
      → set pair place (bit_xor w s.t2) ≡ set pair place (masked 2 s bit)
  unfolding masked ◌⊕◌
  stored_2 w e f = rw (f, e)

-- both registers of a pair
pub filled : (s : Selection) (register place : ℕ) (before between after : List ℕ) → place ≡ c3 s → before ≡ 0 ∷ 0 ∷ []
    → between ≡ set before place (masked register s s.c0) → after ≡ set between (1 - place) (masked register s (1 - s.c0))
    → after ≡ registers register s
unfolding registers
filled s register place before between after p e f g = rw (g, f, e, p)

pub read_share : (s : Selection) (register : ℕ) (pair : List ℕ) → pair ≡ registers register s → get_or pair s.b 0 ≡ share register s
unfolding share at
read_share s register pair e = rw e
