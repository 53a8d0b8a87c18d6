-- FIPS 197 for a key of 128 bits: the state, the four steps of a round, the key expansion and the cipher, and what is promised of them.
pub mod State
pub mod Steps
pub mod Expansion
pub mod Cipher
pub mod Promises
