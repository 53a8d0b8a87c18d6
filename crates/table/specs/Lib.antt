-- Balanced and fit tables, refusals 3 to 7, what the code counts, what fitness is needed for, what is promised, and the table of a rule.
pub mod Balanced
pub mod Fit
pub mod Refusals
pub mod Counts
pub mod Even
pub mod Promises
pub mod Tabulate
