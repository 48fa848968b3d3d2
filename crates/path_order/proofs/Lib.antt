pub mod Travel
pub mod Turns
pub mod Sweeping
pub mod Ordering
pub mod Improving
pub mod Unique
