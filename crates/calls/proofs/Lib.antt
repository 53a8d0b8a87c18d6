-- What the calls hand back, and what is promised of the log that they leave.
pub mod Replies
pub mod Sizes
pub mod Promises
