-- Runs of random bytes: which are faulty, what the code keeps while it looks at one, and what is promised.
pub mod Report
pub mod Window
pub mod Promises
