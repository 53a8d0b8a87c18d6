-- The laws of sheets that are carried over.
pub mod Converting
pub mod Sheets
pub mod Apart
pub mod Promises
