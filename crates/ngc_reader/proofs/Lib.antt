pub mod FrontLaws
pub mod SmallLaws
pub mod PartLaws
pub mod StepLaws
pub mod PieceLaws
pub mod FewLaws
