-- What the logged and the plain call hand back and leave behind, and what is promised of it.
pub mod Reply
pub mod Promises
