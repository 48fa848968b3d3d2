pub mod Ways
pub mod Rests
pub mod Fronts
pub mod Further
pub mod GoesOn
pub mod TileLaws
pub mod BlockLaws
