pub mod AnswerLaws
pub mod LentLaws
pub mod PutLaws
