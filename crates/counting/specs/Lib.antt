-- Finite sums, sums over all choices of masks, and the choices by their numbers.
pub mod Sum
pub mod Choice
pub mod Numbered
