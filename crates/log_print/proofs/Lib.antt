-- The laws of printed lines.
pub mod Lines
pub mod Columns
pub mod Entries
pub mod Counts
pub mod Refused
