-- The page that answers a case sheet, and what is promised of it.
pub mod Print
pub mod Promises
pub mod Worked
