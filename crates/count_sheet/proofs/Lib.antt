-- The laws of a count: the masks of a choice's number, the checks, the places of a sheet, what its runs count, and what is promised.
pub mod Masks
pub mod Checking
pub mod Places
pub mod Running
pub mod Tallying
pub mod Leaving
pub mod Promises
pub mod Worked
