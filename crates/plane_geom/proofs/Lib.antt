pub mod Segment
pub mod NearLaws
pub mod Axis
pub mod ReachLaws
pub mod Points
pub mod HalfStep
