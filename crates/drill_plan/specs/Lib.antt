pub mod Sets
pub mod Tools
pub mod Entries
pub mod Keys
pub mod Plan
pub mod Listed
pub mod Limits
pub mod Laws
