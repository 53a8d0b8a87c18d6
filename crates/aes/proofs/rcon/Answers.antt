-- `aes::rcon` meets its contract.
use borrow.Author.Rules.{rules}
use mathlib.Core.Path.{ap}
use mathlib.Core.List.{[], ◌∷◌}
use Prim.Native.Nat.{ℕ}
use Rattle.aes.specs.Expansion.{rcon}
use Rattle.aes.proofs.Products.{constants}
use Rattle.aes.proofs.rcon.Goals as goal

pub returns : goal.returns
unfolding rcon
returns c = ap (λ (b : ℕ). b ∷ 0 ∷ 0 ∷ 0 ∷ []) (constants c.args.i (search rules))
