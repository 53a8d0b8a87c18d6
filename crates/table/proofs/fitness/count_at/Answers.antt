-- `table::fitness::count_at` meets its contract.
use Rattle.table.proofs.Differences.{count_placed}
use Rattle.table.proofs.fitness.count_at.Goals as goal

pub returns : goal.returns
returns c = search count_placed
