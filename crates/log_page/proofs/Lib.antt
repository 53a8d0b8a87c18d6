-- The laws of the page.
pub mod Rising
pub mod Blanks
pub mod SideBySide
pub mod FiveALine
pub mod KindLines
pub mod Pages
pub mod Splitting
pub mod ReadBack
pub mod PageLines
pub mod Promises
