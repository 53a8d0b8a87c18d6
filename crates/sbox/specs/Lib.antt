-- The field of FIPS 197 and its S-box.
pub mod Field
pub mod Sbox
pub mod Promises
