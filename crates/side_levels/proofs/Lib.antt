pub mod AxisLaws
pub mod StepCells
pub mod PieceCells
pub mod CutCells
pub mod LatticeLaws
pub mod ProbedLaws
pub mod OverLaws
pub mod LevelledLaws
