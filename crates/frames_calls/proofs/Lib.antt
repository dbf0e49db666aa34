pub mod SearchLaws
pub mod AnswerLaws
