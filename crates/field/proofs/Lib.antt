-- The laws of fields and of printed numbers.
pub mod Reading
pub mod Printing
pub mod Once
pub mod Promises
