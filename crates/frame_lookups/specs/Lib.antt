-- The lookups of an AES-128 frame: three shares of a state, the random bytes that each lookup takes, and the scratch.
pub mod Shares
pub mod Scratch
pub mod Lookups
