-- The count sheet: its refusals, its counts, what it leaves in the lent buffers, what its runs ask and count, and what is promised.
pub mod Refusals
pub mod Sheet
pub mod Runs
pub mod Promises
