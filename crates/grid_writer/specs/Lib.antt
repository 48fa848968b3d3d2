pub mod Spelling
pub mod Conditions
pub mod Parts
pub mod Laws
