pub mod FilesLaws
pub mod DiagonalLaws
pub mod LatticeLaws
pub mod IndexLaws
