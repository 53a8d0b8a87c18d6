-- What proves that two entries of a chain's logs tell nothing.
pub mod Fine
pub mod Chosen
pub mod Observed
pub mod Promises
pub mod Lent
pub mod Counts
pub mod Whole
