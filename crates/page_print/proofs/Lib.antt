-- The laws of the page that answers a sheet.
pub mod Prints
pub mod Promises
pub mod Worked
