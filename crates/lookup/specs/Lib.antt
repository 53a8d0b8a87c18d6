-- The masked table lookup: cases, methods, refusals, scratch, answer and log, and what is promised of them.
pub mod Case
pub mod Entry
pub mod Layout
pub mod Row
pub mod Method
pub mod Method2
pub mod Method3
pub mod Method5
pub mod Methods
pub mod NarrowEntry
pub mod Call
pub mod Refusals
pub mod Bounded
pub mod Promises
pub mod Called
