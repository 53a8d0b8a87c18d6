-- The laws of the latest bytes and their counts, of what a window holds, and of the report.
pub mod Occurrences
pub mod Latest
pub mod Reports
pub mod Holding
pub mod Feeding
pub mod Promises
