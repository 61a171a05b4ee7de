pub mod Grants
pub mod Places
pub mod Lowest
pub mod Bins
pub mod Changes
