pub mod LineEnds
pub mod Serves
pub mod Prints
pub mod Refused
