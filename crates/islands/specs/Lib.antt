pub mod Ways
pub mod Taken
pub mod Floods
pub mod Classes
pub mod Forests
