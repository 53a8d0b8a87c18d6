-- States in three shares. A step that acts share by share is a step on states, done to each.
use Rattle.std.specs.Prelude.{List, [], ◌∷◌, ℕ, get_or}
use Rattle.bits.specs.Xor.{◌⊕◌}
use Rattle.aes.specs.State.{State, byte, state_of}

abbrev pub Shares : Type 0
Shares = List State

unfoldable pub share : Shares → (number : ℕ) → State
share s k = get_or s k []

unfoldable pub three : (rule : ℕ → State) → Shares
three rule = rule 0 ∷ rule 1 ∷ rule 2 ∷ []

-- a step on each share, and on each share with the same one of another state
unfoldable pub each_share : (State → State) → Shares → Shares
each_share step s = three (λ k. step (share s k))

unfoldable pub with_each_share : (State → State → State) → Shares → Shares → Shares
with_each_share step s t = three (λ k. step (share s k) (share t k))

-- the state that the three shares join to
unfoldable pub joined : Shares → State
joined s = state_of (λ r c. byte (share s 0) r c ⊕ byte (share s 1) r c ⊕ byte (share s 2) r c)
