mod WordLaws
pub mod StepLaws
pub mod ReadLaws
pub mod InputLaws
pub mod ContentLaws
pub mod AcceptLaws
