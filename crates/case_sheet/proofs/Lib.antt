-- The laws of case sheets.
pub mod Items
pub mod Found
pub mod Sheets
pub mod Promises
