-- What proves that two entries tell nothing, and the bench sheet.
pub mod Sheet
pub mod Fine
pub mod Shown
pub mod Observed
pub mod Telling
pub mod Unfit
pub mod Hiding
pub mod Promises
pub mod Lent
pub mod NarrowCount
