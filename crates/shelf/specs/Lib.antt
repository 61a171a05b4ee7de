pub mod Contents
pub mod Bins
pub mod Errors
pub mod Flat
pub mod FlatMeaning
pub mod Soundness
pub mod Others
