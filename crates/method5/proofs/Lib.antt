-- What the loops of method 5 keep, and what both halves and the parts of the log make.
pub mod Copying
pub mod Filled
pub mod Turned
