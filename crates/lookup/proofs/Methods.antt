-- The methods by their numbers: what is proved of each holds of the one that a number finds.
use mathlib.Core.Path.{◌≡◌, refl, sym, ap}
use mathlib.Core.Bool.{Bool, true, false, cond, ◌||◌, true≢false}
use mathlib.Core.List.{List}
use Prim.Native.Nat.{ℕ}
use lib.Dec.{eqb}
use Rattle.lookup.specs.Method.{Method}
use Rattle.lookup.specs.Method2.{method_2}
use Rattle.lookup.specs.Method3.{method_3}
use Rattle.lookup.specs.Method5.{method_5}
use Rattle.lookup.specs.Methods.{methods, among, found, known, method_of}
use Rattle.lookup.proofs.Each.{Each, none, more}

either_found : (P : Method → Type 0) (t rest : Bool) (m other : Method) → P m → (rest ≡ true → P other) → (t || rest) ≡ true
    → P (cond t m other)
either_found P true rest m other p f e = p
either_found P false rest m other p f e = f e

among_found : (P : Method → Type 0) (k : ℕ) {ms : List Method} → Each P ms → among k ms ≡ true → P (found k ms)
unfolding among found
among_found P k none e = absurd (true≢false (sym e))
among_found P k (more {x = m} {xs = ms} p d) e = either_found P (eqb k m.number) (among k ms) m (found k ms) p (among_found P k d) e

pub of_each : {P : Method → Type 0} (k : ℕ) → Each P methods → known k ≡ true → P (method_of k)
unfolding known method_of
of_each {P} k d e = among_found P k d e

-- the number is a method's
pub known_2 : known 2 ≡ true
unfolding known among
known_2 = refl

pub method_2_of : (k : ℕ) → k ≡ 2 → method_of k ≡ method_2
unfolding method_of found
method_2_of k e = ap method_of e

pub method_3_of : (k : ℕ) → k ≡ 3 → method_of k ≡ method_3
unfolding method_of found
method_3_of k e = ap method_of e

pub method_5_of : (k : ℕ) → k ≡ 5 → method_of k ≡ method_5
unfolding method_of found
method_5_of k e = ap method_of e
