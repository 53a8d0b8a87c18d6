-- The laws of replies, and the proofs of what is promised.
pub mod Replies
pub mod Promises
