pub mod Report
pub mod Planned
pub mod Written
pub mod Mill
pub mod Headline
pub mod Done
