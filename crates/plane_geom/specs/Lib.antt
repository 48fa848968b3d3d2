pub mod NearStep
pub mod Reach
