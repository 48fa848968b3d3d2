pub mod ReadLaws
pub mod AcceptLaws
pub mod JobLaws
pub mod CutterLaws
pub mod EndLaws
pub mod DoneLaws
pub mod OwnLaws
mod Examples
