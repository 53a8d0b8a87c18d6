-- What is promised of splitting, joining and key addition. Each is a type; its proof stands in proofs/Promises.antt.
use Rattle.std.specs.Prelude.{◌≡◌, ℕ}
use Rattle.bits.specs.Xor.{◌⊕◌}
use Rattle.shares.specs.Shares.{split, join, add_key}

-- the shares of an accepted split join to the secret
unfoldable pub SplitJoins : Type 0
SplitJoins =
    (n x r1 r2 : ℕ) → (split n x r1 r2).refusal ≡ 0 →
    join n (split n x r1 r2).first (split n x r1 r2).second (split n x r1 r2).third ≡ record { refusal = 0; secret = x }

-- after an accepted key addition the shares join to the state and the key, joined and added
unfoldable pub KeyAdds : Type 0
KeyAdds =
    (n a b c k1 k2 k3 : ℕ) → (add_key n a b c k1 k2 k3).refusal ≡ 0 →
    join n (add_key n a b c k1 k2 k3).first (add_key n a b c k1 k2 k3).second (add_key n a b c k1 k2 k3).third
    ≡ record { refusal = 0; secret = (join n a b c).secret ⊕ (join n k1 k2 k3).secret }
