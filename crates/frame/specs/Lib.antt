-- A whole frame of AES-128 in three shares: its refusals, what it hands back and leaves, and what is promised of it.
pub mod Encrypted
pub mod Frame
pub mod Promises
