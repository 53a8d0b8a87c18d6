-- What a lent buffer holds once something was written to it.
pub mod Written
