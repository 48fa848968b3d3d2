pub mod Program
pub mod Holes
pub mod Tiled
