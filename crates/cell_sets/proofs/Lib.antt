pub mod CellLaws
pub mod Links
pub mod Barriers
pub mod Sweeps
pub mod Counts
pub mod Rows
pub mod Guards
pub mod Counted
