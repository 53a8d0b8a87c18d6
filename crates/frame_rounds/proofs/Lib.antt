-- What the rounds' code makes, what its loop keeps, and that the shares join to FIPS 197's states.
pub mod Shared
pub mod Turning
pub mod Joining
pub mod Keys
pub mod Bytes
pub mod Right
