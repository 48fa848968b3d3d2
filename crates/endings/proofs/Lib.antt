pub mod TellLaws
pub mod PutLaws
pub mod RunLaws
pub mod AloneLaws
pub mod ReadingLaws
pub mod UsageLaws
