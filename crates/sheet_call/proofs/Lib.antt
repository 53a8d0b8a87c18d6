-- The laws of the call that a sheet asks for.
pub mod Replies
pub mod Printed
pub mod Answers
pub mod Promises
