pub mod Range
pub mod Limits
pub mod Grams
pub mod Trays
