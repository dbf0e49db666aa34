pub mod AnswerLaws
pub mod DescentLaws
pub mod StepLaws
pub mod TableLaws
pub mod TurnedLaws
