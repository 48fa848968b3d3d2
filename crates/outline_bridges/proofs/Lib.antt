pub mod CornerLaws
pub mod ListLaws
pub mod SplitLaws
pub mod PartLaws
pub mod OverLaws
pub mod BoxLaws
