pub mod Meaning
pub mod Answers
pub mod Owed
pub mod Requests
pub mod Working
