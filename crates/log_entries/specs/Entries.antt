-- The entries of a part of a log, from its kinds and its values.
use Rattle.std.specs.Prelude.{List, [], ◌∷◌, ℕ}
use Rattle.lookup.specs.Entry.{entry}

unfoldable pub entries : (kinds values : List ℕ) → List ℕ
entries [] vs = []
entries (k ∷ ks) [] = []
entries (k ∷ ks) (v ∷ vs) = entry k v ∷ entries ks vs
