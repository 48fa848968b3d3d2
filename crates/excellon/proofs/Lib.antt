pub mod NumeralLaws
pub mod PlaceLaws
pub mod LetterLaws
pub mod ReachedLaws
pub mod ReadyLaws
pub mod MemoryLaws
