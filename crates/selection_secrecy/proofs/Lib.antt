-- What proves that two entries of a selection's log tell nothing.
pub mod Fine
pub mod Observed
pub mod Promises
pub mod Lent
pub mod Worked
