-- What holds of files, and the numbers in a record.
pub mod Files
pub mod Little
