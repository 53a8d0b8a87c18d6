use borrow.Author.Count.{below_more}
use native.Mathlib.Nat.{le_trans}
use Rattle.table.specs.Balanced.{at}
use Rattle.std.proofs.lemmas.Nat.{le_or_l, le_or_r}
use Rattle.table.proofs.fitness.joined_counts.Goals as goal

pub loop-value-preserved : goal.loop-value-preserved
unfolding at
loop-value-preserved c = below_more _ _ (λ v h. le_trans (c.loop-value.invariant v h) (le_or_l _ _)) (le_or_r _ _)
