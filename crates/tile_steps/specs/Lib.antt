pub mod Drilled
pub mod Steps
