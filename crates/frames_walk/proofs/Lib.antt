pub mod RangeLaws
pub mod StepLaws
pub mod WalkLaws
