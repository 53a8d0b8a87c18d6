-- The kinds of each method's rows are known: a promise of specs/Promises.antt, proved by a test that is computed on the rows.
use mathlib.Core.Path.{◌≡◌, refl, sym}
use mathlib.Core.Bool.{Bool, true, false, ◌&&◌, not, true≢false}
use mathlib.Core.List.{List, [], ◌∷◌}
use Prim.Native.Nat.{ℕ}
use Rattle.refusals.specs.Tests.{outside}
use Rattle.table.specs.Fit.{each_value}
use Rattle.lookup.specs.Case.{Q}
use Rattle.lookup.specs.Layout.{all_rows}
use Rattle.lookup.specs.Row.{Row, kinds}
use Rattle.lookup.specs.Method.{Method}
use Rattle.lookup.specs.Methods.{methods, method_of}
use Rattle.lookup.specs.Promises.{LogReadBack, KindsKnown}
use Rattle.lookup.proofs.Each.{Each, none, more, each_source}
use Rattle.lookup.proofs.Layouts.{each_line}
use Rattle.lookup.proofs.Methods.{of_each}
use Rattle.lookup.proofs.Accepted.{accepted}
use Rattle.lookup.proofs.Promises.{log_read_back}

-- a test that is computed, and what it says of every element
module _ (test : ℕ → Bool) where
  both : (s t : Bool) → (s && t) ≡ true → (s ≡ true) × (t ≡ true)
  both true t e = (refl, e)
  both false t e = absurd (true≢false (sym e))

  pub each_passes : (xs : List ℕ) → each_value xs test ≡ true → Each (λ x. test x ≡ true) xs
  unfolding each_value
  each_passes [] e = none
  each_passes (x ∷ xs) e = let parts = both (test x) (each_value xs test) e in more parts.0 (each_passes xs parts.1)

  pub all_pass : {xs : List ℕ} → Each (λ x. test x ≡ true) xs → each_value xs test ≡ true
  unfolding each_value
  all_pass none = refl
  all_pass (more p d) = rw (p, all_pass d)

known_kind : ℕ → Bool
known_kind k = not (outside 1 18 k)

record Numbered (method : Method) : Type 0 where
  head : each_value (kinds method.layout.head) known_kind ≡ true
  passes : each_value (kinds (all_rows method.layout.passes)) known_kind ≡ true
  end : each_value (kinds method.layout.end) known_kind ≡ true

numbered : Each Numbered methods
unfolding each_value known_kind outside
numbered =
    more (record { head = refl; passes = refl; end = refl })
    (more (record { head = refl; passes = refl; end = refl }) (more (record { head = refl; passes = refl; end = refl }) none))

rows_known : (rows : List Row) → each_value (kinds rows) known_kind ≡ true → Each (λ r. known_kind r.kind ≡ true) rows
rows_known rows e = each_source (λ r. r.kind) rows (each_passes known_kind (kinds rows) e)

pub kinds_known : KindsKnown
unfolding KindsKnown LogReadBack known_kind
kinds_known table c e =
    let method = method_of c.method in
    let n = of_each c.method numbered (accepted c table e).0 in
    rw (log_read_back table c e).0
    (all_pass known_kind
    (each_line (λ a r. r.kind) (Q c) method.layout (rows_known method.layout.head n.head)
    (λ a l. rows_known (all_rows method.layout.passes) n.passes) (rows_known method.layout.end n.end)))
