-- The laws of wide tables.
pub mod Refusing
pub mod Narrowing
pub mod Promises
