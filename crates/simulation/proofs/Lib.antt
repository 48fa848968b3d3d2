pub mod AnswerLaws
pub mod SourceLaws
pub mod PatrolLaws
pub mod CommandLaws
pub mod EndLaws
pub mod Examples
