-- Tables as sheets have them: the refusal of one with an entry that does not fit a byte, and what is promised of it.
pub mod Wide
pub mod Promises
