-- The laws of exclusive or, and that operations written step by step are the same.
pub mod Xor
pub mod Stepwise
