pub mod Literals
pub mod Rounds
pub mod Painted
pub mod Traced
pub mod Single
