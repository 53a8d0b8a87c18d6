-- What the code's methods are.
pub mod Numbered
