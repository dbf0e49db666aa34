pub mod PointAnswers
pub mod PointLaws
