pub mod Distances
pub mod Columns
pub mod Rows
