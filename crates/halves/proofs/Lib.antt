-- The laws of halves and registers, as the code needs them, and that the shares are those of the half that the joined bit chooses.
pub mod Bounds
pub mod Halving
pub mod Storing
pub mod Shares
