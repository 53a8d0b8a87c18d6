-- What the lookups' code needs: scratch that is cleared, cases of bytes, and places of random bytes.
pub mod Clearing
pub mod Cases
pub mod Placed
