-- The calls that choose one half of a word by a bit: the log, the refusals, what is handed back and left, and what is promised.
pub mod Log
pub mod Selected
pub mod Select
pub mod Order
pub mod Promises
