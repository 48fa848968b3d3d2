pub mod BorderLaws
pub mod FrameLaws
