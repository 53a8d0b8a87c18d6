-- What two entries of a log tell: the count, the third demand, the log's lines as expressions, and the bench sheet.
pub mod Count
pub mod NarrowCount
pub mod Promises
pub mod Expressions
pub mod BenchSheet
