-- The laws of sums, of products and of sums over choices, by their numbers too.
pub mod Sum
pub mod Shift
pub mod Exchange
pub mod Choice
pub mod Over
pub mod Numbered
pub mod Append
pub mod Product
pub mod Repeated
