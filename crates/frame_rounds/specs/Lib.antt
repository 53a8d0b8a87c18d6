-- The rounds of an AES-128 frame in three shares.
pub mod Rounds
