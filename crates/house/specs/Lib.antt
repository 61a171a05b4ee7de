pub mod Kinds
pub mod Text
pub mod Lines
pub mod Serving
pub mod Run
