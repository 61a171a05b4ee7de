pub mod Limit
pub mod Numbers
