-- What the third demand needs of a table.
use Rattle.std.specs.Prelude.{◌≡◌, ℕ, ◌^◌, ◌<◌}
use Rattle.bits.specs.Xor.{◌⊕◌}
use Rattle.counting.specs.Sum.{sum}

-- shifting all entries by the difference of any two of them changes no count
pub record Even (n : ℕ) (entry : ℕ → ℕ) : Type 0 where
  pub even : (g : ℕ → ℕ) (x y : ℕ) → x < 2 ^ n → y < 2 ^ n
      → sum (2 ^ n) (λ z. g (entry z ⊕ (entry x ⊕ entry y))) ≡ sum (2 ^ n) (λ z. g (entry z))
