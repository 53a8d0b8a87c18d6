-- The leak test is sound: expressions that pass it are alike for any two lists of secrets.
use mathlib.Core.List.{List}
use Prim.Native.Nat.{ℕ, ◌<◌}
use lib.Dec.{T}
use lib.ListN.{length, get_or}
use Rattle.probing.specs.Expression.{Expression, System, Setting}
use Rattle.probing.specs.Alike.{Alike, Known}
use Rattle.probing.specs.Test.{fine, all_fine}
use Rattle.probing.proofs.Search.{every_passes, each_place_passes}
use Rattle.probing.proofs.Rules.{unseen_alike}
use Rattle.probing.proofs.Places.{by_places}

module _ (system : System) (setting : Setting) {hs ts : ℕ → ℕ} (known : Known system setting hs ts) where
  pub alike : (e f : Expression) → T (fine system e f) → Alike system setting hs ts e f
  unfolding fine
  alike e f t =
      by_places system setting known.before known.after e f
      (λ n h vs valid same.
      let at = each_place_passes setting system.secrets _ t n h in
      unseen_alike system setting known valid n at.0 at.1 same e f at.2)

  pub all_alike : (es fs : List Expression) → T (all_fine system es fs) → (i k : ℕ) (d d' : Expression) → i < length es → k < length fs
      → Alike system setting hs ts (get_or es i d) (get_or fs k d')
  unfolding all_fine
  all_alike es fs t i k d d' h l = alike _ _ (every_passes fs _ (every_passes es _ t i d h) k d' l)
