pub mod CheckLaws
pub mod ScoreLaws
pub mod AnswerLaws
