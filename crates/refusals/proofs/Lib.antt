-- The laws of refusals and of their tests.
pub mod Checks
pub mod Tests
pub mod Left
pub mod Numbers
