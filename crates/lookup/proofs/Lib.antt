-- The laws of the methods, and the proofs of what is promised.
pub mod Each
pub mod Methods
pub mod Entry
pub mod Places
pub mod Accepted
pub mod Refused
pub mod Second
pub mod Third
pub mod Fifth
pub mod Layouts
pub mod Right
pub mod Runs
pub mod Sizes
pub mod Promises
pub mod Numbered
