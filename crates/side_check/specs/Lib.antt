pub mod Ends
pub mod Surfaces
pub mod Struck
pub mod Found
