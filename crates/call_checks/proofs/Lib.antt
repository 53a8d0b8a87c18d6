-- The checks as the code goes through them.
pub mod Masks
pub mod Scratch
pub mod Checking
