-- The laws of the print.
pub mod Prints
pub mod Wide
pub mod Promises
