-- What is promised of the linear layer. Each is a type; its proof stands in proofs/Promises.antt.
use Rattle.std.specs.Prelude.{◌≡◌, List, ℕ}
use Rattle.bits.specs.Xor.{◌⊕◌}
use Rattle.shares.specs.Shares.{join}
use Rattle.linear.specs.Layer.{mapped, layer}

-- the map is linear, whatever the rows and inputs
unfoldable pub MapLinear : Type 0
MapLinear = (rows : List ℕ) (a b : ℕ) → mapped rows (a ⊕ b) ≡ mapped rows a ⊕ mapped rows b

-- the shares of an accepted layer join to the map of the joined input, with the constant added
unfoldable pub LayerJoins : Type 0
LayerJoins =
    (n m : ℕ) (rows : List ℕ) (constant a b c : ℕ) → (layer n m rows constant a b c).refusal ≡ 0 →
    join m (layer n m rows constant a b c).first (layer n m rows constant a b c).second (layer n m rows constant a b c).third
    ≡ record { refusal = 0; secret = mapped rows (a ⊕ b ⊕ c) ⊕ constant }
