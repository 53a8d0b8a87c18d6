-- The page of a log: how it is laid out, how it is read, and what is promised of it.
pub mod Page
pub mod Reading
pub mod Promises
pub mod Text
