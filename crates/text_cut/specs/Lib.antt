pub mod Digits
pub mod Lines
pub mod Spaces
pub mod Split
