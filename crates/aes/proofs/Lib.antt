-- The laws of the steps.
pub mod Products
pub mod Made
pub mod States
pub mod Linear
pub mod Expansion
pub mod Promises
