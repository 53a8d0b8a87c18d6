-- Refusal numbers, the tests that decide them, and what stands where a refused call would have written.
pub mod Checks
pub mod Tests
pub mod Left
pub mod Numbers
