-- What the exported calls return and leave, and what is promised of it.
pub mod Export
pub mod Promises
