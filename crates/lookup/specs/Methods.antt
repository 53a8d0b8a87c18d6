-- The methods, looked up by their numbers.
use Rattle.std.specs.Prelude.{Bool, false, cond, ◌||◌, List, [], ◌∷◌, ℕ, eqb}
use Rattle.lookup.specs.Method.{Method, no_method}
use Rattle.lookup.specs.Method2.{method_2}
use Rattle.lookup.specs.Method3.{method_3}
use Rattle.lookup.specs.Method5.{method_5}

abbrev pub methods : List Method
methods = method_2 ∷ method_3 ∷ method_5 ∷ []

unfoldable pub among : (number : ℕ) → List Method → Bool
among k [] = false
among k (method ∷ others) = eqb k method.number || among k others

unfoldable pub found : (number : ℕ) → List Method → Method
found k [] = no_method
found k (method ∷ others) = cond (eqb k method.number) method (found k others)

-- some method has this number
unfoldable pub known : (number : ℕ) → Bool
known k = among k methods

-- the method of a number
unfoldable pub method_of : (number : ℕ) → Method
method_of k = found k methods
