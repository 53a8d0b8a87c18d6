-- The laws of the exported numbers and of a frame's shares.
pub mod Exported
pub mod Framed
pub mod Promises
