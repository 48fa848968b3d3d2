pub mod WordLaws
pub mod JobLaws
pub mod TextLaws
pub mod FileLaws
pub mod AnswerLaws
pub mod EndLaws
pub mod Examples
