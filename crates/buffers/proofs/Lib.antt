-- The laws of writing to a buffer: one write after another, a list that a loop writes, and a front that is filled.
pub mod Written
pub mod Pasting
pub mod Blocks
pub mod Front
