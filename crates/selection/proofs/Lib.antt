-- The laws of a choice of one half, as its code needs them.
pub mod Checking
pub mod Accepted
pub mod Replies
pub mod Logging
pub mod Rows
pub mod Promises
