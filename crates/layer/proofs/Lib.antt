-- What proves that two entries of a layer's logs tell nothing, that the calls leave these logs, and the counts in numbers.
pub mod Counts
pub mod Apart
pub mod Alike
pub mod Lent
pub mod Promises
