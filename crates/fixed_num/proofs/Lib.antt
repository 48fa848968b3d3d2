pub mod DigitLaws
pub mod SpelledLaws
pub mod UsedLaws
pub mod ValueLaws
pub mod RoundingLaws
pub mod TurnLaws
pub mod SizeLaws
pub mod RootLaws
