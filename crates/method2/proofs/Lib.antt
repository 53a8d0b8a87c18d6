-- What the loops of method 2 keep.
pub mod Filling
pub mod Turned
