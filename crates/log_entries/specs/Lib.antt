-- What is written to a log.
pub mod Entries
