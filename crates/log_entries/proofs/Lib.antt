-- The laws of logs that are written part by part.
pub mod Putting
pub mod Logging
