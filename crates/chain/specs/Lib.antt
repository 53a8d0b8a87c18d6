-- Two lookups in a row: the order of their refusals, what is handed back and left, and what is promised.
pub mod Lent
pub mod Chained
pub mod Chain
pub mod Order
pub mod Promises
