-- The linear layer, and what is promised of it.
pub mod Layer
pub mod Promises
