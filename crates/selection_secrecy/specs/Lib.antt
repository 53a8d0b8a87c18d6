-- What two entries of a selection's log tell: the count, what is promised of it, and the log's rows as expressions.
pub mod Count
pub mod Promises
pub mod Expressions
