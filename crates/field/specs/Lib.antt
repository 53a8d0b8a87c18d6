-- Numbers in columns: how a field is read, and how a number is printed.
pub mod Field
pub mod Printed
pub mod Promises
