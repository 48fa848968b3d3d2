pub mod Conditions
pub mod Moves
pub mod RunLaw
pub mod Surface
