pub mod Contour
pub mod Rows
