-- The laws of a frame's checks and replies, and its promises.
pub mod Checks
pub mod Replies
pub mod Promises
