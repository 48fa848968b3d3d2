pub mod PositionLaws
mod LineLaws
mod SpaceLaws
