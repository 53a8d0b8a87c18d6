-- Both calls' rows as expressions over the chain's secrets and masks: what the leak test reads. The rows are those of a single call, with the
-- places of the masks and secrets of each of the two.
use Rattle.std.specs.Prelude.{List, [], ◌∷◌, ◌++◌, map, ℕ, zero, suc, drop}
use Rattle.counting.specs.Choice.{◌▸◌}
use Rattle.probing.specs.Expression.{System, Setting}
use Rattle.table.specs.Balanced.{at}
use Rattle.lookup.specs.Method.{Method}
use Rattle.secrecy.specs.Count.{single}
use Rattle.secrecy.specs.Expressions.{CallPlaces, alone}
use Rattle.chain_secrecy.specs.Count.{Boxes, Which, first, second, behind}

-- classes of numbers: 0 to 3 are the first call's, so that 1 is the width between the two; 4 is the second's output
abbrev pub chain_width : Boxes → (class : ℕ) → ℕ
chain_width k zero = k.input
chain_width k (suc zero) = k.between
chain_width k (suc (suc zero)) = 0
chain_width k (suc (suc (suc zero))) = 1
chain_width k (suc (suc (suc (suc class)))) = k.output

-- the class that a single call's class is in the second call
abbrev pub class_behind : (class : ℕ) → ℕ
class_behind zero = 1
class_behind (suc zero) = 4
class_behind (suc (suc class)) = suc (suc class)

-- masks of the classes that the two methods draw, the second's r1 and r2 not again; the secrets x, S[x] and T[S[x]]; and two tables
abbrev pub chain_system : (f g : Method) → System
chain_system f g =
    record {
      masks = f.mask_classes ++ map class_behind (drop 2 g.mask_classes);
      secrets = 0 ∷ 1 ∷ 4 ∷ [];
      tables = record { from = 0; to = 1; output = 1 } ∷ record { from = 1; to = 4; output = 2 } ∷ [];
      flag = 3;
      word = 2;
      part = 2;
      bit = 3;
    }

abbrev pub places : Which → CallPlaces
places first = alone single
places second = record { masks = behind; x = 1; output = 2; table = 1; class = 1 }

abbrev pub chain_setting : (first_table second_table : List ℕ) → Boxes → Setting
chain_setting S T k = record { width = chain_width k; tables = elim [ zero ↦ at S | suc t ↦ at T ] }

abbrev pub chain_secrets : (first_table second_table : List ℕ) → (x : ℕ) → ℕ → ℕ
chain_secrets S T x = x ▸ at S x ▸ at T (at S x) ▸ (λ j. 0)
