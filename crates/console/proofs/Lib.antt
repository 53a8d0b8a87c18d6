-- What several reads take of an input together.
pub mod Taken
