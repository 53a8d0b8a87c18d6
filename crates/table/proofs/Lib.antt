-- The laws of balanced and fit tables, of their refusals, of the counts of their values, and of the table of a rule.
pub mod Balanced
pub mod Fit
pub mod Periods
pub mod Differences
pub mod Even
pub mod Full
pub mod Decided
pub mod Refusals
pub mod Counts
pub mod Often
pub mod Told
pub mod Promises
pub mod Tabulate
