-- A layer of logged calls: its masks, its logs and its count, and what two entries of its logs tell.
pub mod Layer
pub mod Promises
