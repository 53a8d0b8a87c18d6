-- The laws of the linear layer, and the proofs of what is promised.
pub mod Parity
pub mod Matrix
pub mod Refusal
pub mod Promises
pub mod Stepwise
