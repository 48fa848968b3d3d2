pub mod Words
pub mod Accepted
pub mod Checked
pub mod Sound
pub mod Own
