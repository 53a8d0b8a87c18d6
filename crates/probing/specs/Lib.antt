-- What a masked algorithm shows, when two of its values tell nothing of the secrets, and a test of that.
pub mod Expression
pub mod Alike
pub mod Search
pub mod Test
