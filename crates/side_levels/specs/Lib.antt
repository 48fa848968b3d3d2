pub mod Lattices
pub mod Probed
pub mod LevelledSide
