-- What the calls on shares hand back, and what is promised of them.
pub mod Shares
pub mod Promises
