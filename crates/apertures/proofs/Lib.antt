pub mod TextLaws
pub mod OutlineLaws
pub mod SpelledLaws
pub mod OriginLaws
pub mod MacroLaws
pub mod IndexLaws
