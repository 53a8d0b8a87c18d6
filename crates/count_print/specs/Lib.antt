-- The print that answers a probe sheet, and what is promised of it.
pub mod Print
pub mod Promises
