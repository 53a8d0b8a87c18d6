-- One half of a word chosen by a bit, both in three shares: the halves, the registers, and the bounds that a run needs.
pub mod Halves
pub mod Bounded
