-- What two entries of a chain's logs tell: the count, the third demand of a chain, and both calls' lines as expressions.
pub mod Count
pub mod Promises
pub mod Expressions
