pub mod Tests
pub mod Lay
