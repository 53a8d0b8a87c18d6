-- The leak test passes no pair of those that leak, and it is sound.
pub mod Caught
pub mod CaughtHalves
pub mod Bool
pub mod Change
pub mod Offset
pub mod Masks
pub mod Class
pub mod Search
pub mod Shift
pub mod Prefix
pub mod Places
pub mod Exchange
pub mod Cover
pub mod Rules
pub mod Sound
pub mod Example
