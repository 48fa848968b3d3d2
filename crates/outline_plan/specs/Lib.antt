pub mod Job
pub mod Cuts
pub mod CutOut
pub mod Answers
pub mod Made
pub mod Laws
