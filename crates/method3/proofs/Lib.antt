-- What the loops of method 3 keep, and what a turn reads in the prepared scratch.
pub mod Prepared
pub mod Comparing
pub mod Selecting
pub mod Turned
