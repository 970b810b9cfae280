pub mod Dates
pub mod ExpiryEnds
