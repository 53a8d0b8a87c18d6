-- Which method of the definitions each of the code's is, and what a number finds.
use Rattle.std.specs.Prelude.{◌≡◌, true, false, ℕ, Option, None, Some}
use Rattle.methods.specs.declared.Method.{Method}
use Rattle.methods.specs.declared.Method.TheVariants.{Two, Three, Five}
use Rattle.lookup.specs.Method.{Method as Defined, no_method}
use Rattle.lookup.specs.Method2.{method_2}
use Rattle.lookup.specs.Method3.{method_3}
use Rattle.lookup.specs.Method5.{method_5}
use Rattle.lookup.specs.Methods.{known, method_of}

abbrev pub defined : Method → Defined
defined Two = method_2
defined Three = method_3
defined Five = method_5

abbrev pub Numbered : (number : ℕ) → Option Method → Type 0
Numbered k None = (known k ≡ false) × (method_of k ≡ no_method)
Numbered k (Some m) = (known k ≡ true) × (method_of k ≡ defined m)
