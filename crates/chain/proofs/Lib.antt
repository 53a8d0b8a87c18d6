-- The laws of a chain, and the proofs of what is promised.
pub mod Checking
pub mod Accepted
pub mod Replies
pub mod Promises
pub mod Order
