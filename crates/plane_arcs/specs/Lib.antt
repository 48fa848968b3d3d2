pub mod Turned
pub mod Vectors
pub mod Arcs
pub mod Chains
