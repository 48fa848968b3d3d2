pub mod Words
pub mod Sampled
