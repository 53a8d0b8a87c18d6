-- Case sheets: the form of the programs' input, in each edition.
pub mod Edition
pub mod Sheet
pub mod Promises
