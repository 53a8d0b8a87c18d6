-- The laws of the field's inverse and of the S-box.
pub mod Inverse
pub mod Sbox
pub mod Promises
