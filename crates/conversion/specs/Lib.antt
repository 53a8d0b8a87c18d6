-- Sheets carried over from one edition to another, and what is promised of them.
pub mod Conversion
pub mod Promises
