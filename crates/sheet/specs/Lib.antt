-- The print that answers a case sheet, and what is promised of it.
pub mod Print
pub mod NarrowPrint
pub mod Wide
pub mod Promises
