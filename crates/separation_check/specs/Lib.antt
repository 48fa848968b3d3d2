pub mod Laws
pub mod Unswept
pub mod Meetings
pub mod Grouping
pub mod Tears
