-- `table::fitness::is_fit` meets its contract.
use borrow.Author.Rules.{rules}
use Rattle.table.proofs.Decided.{first_below, by_counts, by_periods}
use Rattle.table.proofs.fitness.is_fit.Goals as goal

pub returns-then-joined_counts-power : goal.returns-then-joined_counts-power
returns-then-joined_counts-power c = search by_counts

pub all_periods-requires : goal.all_periods-requires
all_periods-requires c = (search rules, search first_below)

pub returns : goal.returns
returns c = search by_periods
