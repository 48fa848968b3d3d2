pub mod CellOrder
pub mod Numbering
pub mod Grouping
pub mod WalkLaws
pub mod SideLaws
pub mod BoardLaws
pub mod OutlineLaws
