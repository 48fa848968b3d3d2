pub mod Runs
pub mod Sides
pub mod Strokes
pub mod Levelled
pub mod Flat
