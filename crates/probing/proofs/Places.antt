-- From one list of secrets to another, place by place: expressions that are alike at each step are alike.
use mathlib.Core.Path.{◌≡◌, ◌∙◌}
use Prim.Native.Nat.{ℕ, zero, suc, ◌≤◌, ◌<◌}
use native.Mathlib.Nat.{le_refl}
use native.Mathlib.Omega.{arith}
use lib.ListN.{length, length-map}
use Rattle.counting.specs.Choice.{change}
use Rattle.probing.specs.Expression.{Expression, System, Setting}
use Rattle.probing.specs.Alike.{widths, Valid, Alike}
use Rattle.probing.proofs.Prefix.{prefix, prefix_none, prefix_at, prefix_next, prefix_within, prefix_all}

module _ (system : System) (setting : Setting) {hs ts : ℕ → ℕ} (before : Valid setting system.secrets hs)
    (after : Valid setting system.secrets ts) (e f : Expression)
    (step : (n : ℕ) → n < length system.secrets → (vs : ℕ → ℕ) → Valid setting system.secrets vs → vs n ≡ hs n
    → Alike system setting vs (change n (ts n) vs) e f) where
  -- the first n secrets changed
  prefix_alike : (n : ℕ) → n ≤ length system.secrets → Alike system setting hs (prefix n ts hs) e f
  prefix_alike zero h observer = rw prefix_none
  prefix_alike (suc n) h observer =
      prefix_alike n (omega arith) observer
      ∙ rw (← prefix_next n ts hs) (step n h (prefix n ts hs) (prefix_within n after before) (prefix_at n ts hs) observer)

  pub by_places : Alike system setting hs ts e f
  by_places =
      let whole = prefix_all (widths setting system.secrets) after before in
      rw (rw length-map at whole) at (prefix_alike (length system.secrets) (le_refl _))
