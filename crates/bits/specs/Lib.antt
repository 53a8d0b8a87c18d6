-- What the code's bit operations mean.
pub mod Xor
