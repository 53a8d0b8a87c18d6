-- The call that a case sheet asks for, and what is promised of it.
pub mod Call
pub mod Wide
pub mod Promises
