pub mod Ledger
pub mod Journal
pub mod Runs
pub mod Script
pub mod Sums
pub mod Promises
pub mod Examples
